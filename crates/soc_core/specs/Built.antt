-- The bus of a description, as its core sees it.
use Rattle.std.specs.Prelude.{ℕ, zero, suc, ◌-◌, ◌^◌, ◌≤◌, max, nat_lt, Bool, if◌then◌else◌, List, [], ◌∷◌, length, map, Option, Some, None, bit_or}
use Rattle.soc_desc.specs.declared.description.Description.{Description}
use Rattle.soc_desc.specs.declared.description.BusDescription.{BusDescription}
use Rattle.soc_desc.specs.declared.description.ItemDescription.TheOpen.{BusDescription-F}
use Rattle.soc_desc.specs.declared.description.ItemDescription.TheViews.{out-BusDescription}
use Rattle.wb_signals.specs.Request.{Request}
use Rattle.wb_signals.specs.Bus.{Child}
use Rattle.wb_signals.specs.Parts.{child_with}
use Rattle.wb_crossbar.specs.Crossbar.{target_of}
use Rattle.soc_machine.specs.Described.{ItemParts, BusParts, item_parts, parts_of, child_placed, described_wiring, described_contents}
use Rattle.soc_core.specs.Fabric.{Fabric, IsFabric}

-- The child of a bus in which a place stands, by its number: none for the miss of the bus.
abbrev pub slave_with : List Child → ℕ → Option ℕ
slave_with children place = if nat_lt (child_with children place) (length children) then Some (child_with children place) else None

-- the greatest of the first n path waits
abbrev pub longest_of : (ℕ → ℕ) → ℕ → ℕ
longest_of wait zero = 0
longest_of wait (suc n) = max (wait n) (longest_of wait n)

-- the root bus with its items as they are joined to it
abbrev pub root_shown : BusDescription → BusDescription-F ItemParts BusParts
root_shown bus = let b = out-BusDescription bus in record { product = b.product; width = b.width; last = b.last; sdb = b.sdb; items = map item_parts b.items }

-- its top slaves: the items that take addresses, in their order, then the ROM
abbrev pub top_slaves : Description → List Child
top_slaves d = map child_placed (parts_of (root_shown d.bus))

abbrev pub fabric_of : Description → Fabric
fabric_of d = record {
  wiring = described_wiring d;
  built = described_contents d;
  slaves = length (top_slaves d);
  top = λ r. target_of (top_slaves d) r.adr;
  slave_of = slave_with (top_slaves d);
  ports = d.masters;
  depth = d.depth;
  longest = longest_of (described_wiring d).wait (described_wiring d).places;
}

-- ---- the set of a cycle

-- the set with this slave alone
abbrev pub one_slave : Option ℕ → ℕ
one_slave None = 0
one_slave (Some slave) = 2 ^ slave

-- the slaves that operations go to, where each goes to the one that `top` says
abbrev pub slaves_asked : (Request → Option ℕ) → List Request → ℕ
slaves_asked top [] = 0
slaves_asked top (r ∷ rs) = bit_or (one_slave (top r)) (slaves_asked top rs)

-- Where the opening record also ends the cycle, the top slaves of its operations; otherwise all of them.
abbrev pub set_of_cycle : Fabric → List Request → Bool → ℕ
set_of_cycle f ops last = if last then slaves_asked f.top ops else 2 ^ f.slaves - 1

-- ---- laws

-- A description with a port and a depth is a bus whose numbers fit one another.
abbrev pub DescribedIsFabric : Type 0
DescribedIsFabric = (d : Description) → 1 ≤ d.masters → 1 ≤ d.depth → IsFabric (fabric_of d)
