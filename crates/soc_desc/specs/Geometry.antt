-- Where the items of each bus and its ROM stand.
use Rattle.std.specs.Prelude.{ℕ, ◌+◌, ◌*◌, ◌-◌, ◌&&◌, List, [], ◌∷◌, ◌++◌, length, Option, Some, None, Ok, Err, Bool, true, not, nat_le, nat_lt, if◌then◌else◌, codes, ⊤}
use Rattle.std.specs.List.{find, list_all}
use Rattle.soc_desc.specs.declared.fault.DescFault.TheVariants as fault
use Rattle.soc_desc.specs.declared.geometry.Span.{Span}
use Rattle.soc_desc.specs.declared.geometry.Extent.{Extent}
use Rattle.soc_desc.specs.declared.description.ItemDescription.{ItemDescription}
use Rattle.soc_desc.specs.declared.description.BusDescription.{BusDescription}
use Rattle.soc_desc.specs.declared.description.ItemDescription.TheOpen.{ItemDescription-F, BusDescription-F}
use Rattle.soc_desc.specs.declared.description.ItemDescription.TheFolds.{fold-ItemDescription, fold-BusDescription}
use Rattle.soc_desc.specs.Checks.{Path, Found, ◌>>=◌, at_key, at_nth}
use Rattle.soc_desc.specs.View.{octets_in, OnBus, OfDevice, OfBridge, OfNote, OfEmpty, on_bus}

-- ---- the addresses that an item and a ROM take

-- so many octets from an address on
abbrev pub octets_at : ℕ → ℕ → Extent
octets_at at octets = record { first = at; last = at + octets - 1 }

-- the ROM of a bus with so many items: a record of 64 octets for the bus and for each item
abbrev pub rom_extent : ℕ → ℕ → Extent
rom_extent sdb items = octets_at sdb (64 * (items + 1))

-- an address in common
abbrev pub meets : Extent → Extent → Bool
meets a b = nat_le a.first b.last && nat_le b.first a.last

-- ---- well placed: no address above the last one, and none in two of them

abbrev pub are_apart : List Extent → Bool
are_apart [] = true
are_apart (e ∷ es) = list_all (λ later. not (meets later e)) es && are_apart es

abbrev pub are_within : ℕ → List Extent → Bool
are_within last es = list_all (λ e. nat_le e.last last) es

abbrev pub are_placed : ℕ → List Extent → Bool
are_placed last es = are_within last es && are_apart es

-- ---- what an item and a bus show of where they stand

-- one bus by its path: its last address, and what takes addresses there in order, the ROM last
pub record Located : Type 0 where
  pub last : ℕ
  pub spans : List Span

-- a bus: its last address; whether it and all buses under it are well placed; these buses in pre-order, by its path
pub record BusPlace : Type 0 where
  pub last : ℕ
  pub placed : Bool
  pub buses : Path → List Located

-- an item: the addresses that it takes, and the same of the buses behind it
pub record ItemPlace : Type 0 where
  pub extent : Option Extent
  pub placed : Bool
  pub buses : Path → List Located

abbrev pub leaf_at : Option Extent → ItemPlace
leaf_at extent = record { extent = extent; placed = true; buses = λ path. [] }

abbrev pub place_on : OnBus BusPlace → ItemPlace
place_on (OfDevice d) = leaf_at (Some (octets_at d.at (octets_in d.make)))
place_on (OfBridge p at bus) = record {
  extent = Some (record { first = at; last = at + bus.last });
  placed = bus.placed;
  buses = λ path. bus.buses (at_key path (codes "bus"));
}
place_on (OfNote p) = leaf_at None
place_on OfEmpty = leaf_at None

abbrev pub item_layer : ItemDescription-F ItemPlace BusPlace → ItemPlace
item_layer item = place_on (on_bus item)

abbrev pub extent_at : Option Extent → List Extent
extent_at None = []
extent_at (Some e) = e ∷ []

abbrev pub span_at : Path → Option Extent → List Span
span_at path None = []
span_at path (Some e) = record { path = path; extent = e } ∷ []

abbrev pub extents : List ItemPlace → List Extent
extents [] = []
extents (item ∷ items) = extent_at item.extent ++ extents items

-- the items from number i on
abbrev pub spans_from : Path → ℕ → List ItemPlace → List Span
spans_from path i [] = []
spans_from path i (item ∷ items) = span_at (at_nth path i) item.extent ++ spans_from path (i + 1) items

abbrev pub buses_from : Path → ℕ → List ItemPlace → List Located
buses_from path i [] = []
buses_from path i (item ∷ items) = item.buses (at_nth path i) ++ buses_from path (i + 1) items

abbrev pub located : Path → ℕ → ℕ → List ItemPlace → Located
located path last sdb items =
    record { last = last; spans = spans_from (at_key path (codes "items")) 0 items ++ record { path = at_key path (codes "sdb"); extent = rom_extent sdb (length items) } ∷ [] }

-- the buses behind each of these items are well placed
abbrev pub all_behind : List ItemPlace → Bool
all_behind [] = true
all_behind (item ∷ items) = item.placed && all_behind items

abbrev pub bus_layer : BusDescription-F ItemPlace BusPlace → BusPlace
bus_layer b = record {
  last = b.last;
  placed = are_placed b.last (extents b.items ++ rom_extent b.sdb (length b.items) ∷ []) && all_behind b.items;
  buses = λ path. located path b.last b.sdb b.items ∷ buses_from (at_key path (codes "items")) 0 b.items;
}

abbrev pub item_place : ItemDescription → ItemPlace
item_place = fold-ItemDescription ItemPlace BusPlace item_layer bus_layer

abbrev pub bus_place : BusDescription → BusPlace
bus_place = fold-BusDescription ItemPlace BusPlace item_layer bus_layer

-- ---- the check: each span in order is inside the bus, and meets no earlier one

abbrev pub apart_from : Span → Option Span → Found ⊤
apart_from s None = Ok tt
apart_from s (Some earlier) = Err (fault.Overlap earlier.path s.path)

abbrev pub spans_meet : Span → Span → Bool
spans_meet s earlier = meets s.extent earlier.extent

abbrev pub placed : ℕ → List Span → Span → Found ⊤
placed last before s = if nat_lt last s.extent.last then Err (fault.Outside s.path) else apart_from s (find (spans_meet s) before)

abbrev pub placed_after : ℕ → List Span → List Span → Found ⊤
placed_after last before [] = Ok tt
placed_after last before (s ∷ ss) = placed last before s >>= λ _. placed_after last (before ++ s ∷ []) ss

abbrev pub all_placed : List Located → Found ⊤
all_placed [] = Ok tt
all_placed (b ∷ bs) = placed_after b.last [] b.spans >>= λ _. all_placed bs

abbrev pub geometry : Path → BusDescription → Found ⊤
geometry path bus = all_placed ((bus_place bus).buses path)
