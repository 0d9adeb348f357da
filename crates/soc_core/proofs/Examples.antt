-- A worked load, computed: six operations on a bus of depth 4, with a slow RAM of path wait 7 and a fast one behind a bridge.
use Rattle.std.proofs.Common.{◌≡◌, ℕ, zero, suc, List, [], ◌∷◌, replicate, map, true, false, None, refl, length}
use Rattle.eb_base.specs.declared.width.Width.TheVariants.{W32}
use Rattle.wb_signals.specs.Request.{Request}
use Rattle.wb_signals.specs.Content.{Nothing, Ram}
use Rattle.wb_signals.specs.Wiring.{Wiring, stepped}
use Rattle.wb_signals.specs.Bus.{leaf, bus}
use Rattle.soc_core.specs.Fabric.{Fabric}
use Rattle.soc_core.specs.Core.{Holds, Core, port, pending, clocked_core, with_load, unloaded, ticks_left}

deep : Wiring
deep = bus W32 (
    record { first = 0; last = 4095; wiring = leaf W32 4096 7 false }
    ∷ record { first = 65536; last = 131071; wiring = bus W32 (record { first = 0; last = 4095; wiring = leaf W32 4096 0 false } ∷ []) } ∷ [])

abbrev deep_fabric : Fabric
deep_fabric = record {
  wiring = deep;
  built = Ram (replicate 32 0) ∷ Ram (replicate 32 0) ∷ Nothing ∷ Nothing ∷ [];
  slaves = 2;
  top = λ r. None;
  slave_of = λ place. None;
  ports = 1;
  depth = 4;
  longest = 7;
}

abbrev write_at : ℕ → Request
write_at adr = record { write = true; adr = adr; dat = 1; sel = 15 }

abbrev six : List Request
six = write_at 0 ∷ write_at 4 ∷ write_at 8 ∷ write_at 12 ∷ write_at 16 ∷ record { write = false; adr = 65536; dat = 0; sel = 15 } ∷ []

abbrev begun : Core
begun = record { ports = with_load six (unloaded (Holds 3) []) ∷ []; contents = deep_fabric.built; first = 0; journal = [] }

abbrev after_clocks : ℕ → Core
after_clocks zero = begun
after_clocks (suc n) = clocked_core deep_fabric (after_clocks n)

-- how many were sent after each clock: they pass in clocks 1, 2, 3, 4, 10 and 19
abbrev sent_after : ℕ → ℕ
sent_after n = (port (after_clocks n) 0).sent

abbrev got_after : ℕ → ℕ
got_after n = length (port (after_clocks n) 0).got

sends : map sent_after (0 ∷ 1 ∷ 2 ∷ 3 ∷ 4 ∷ 9 ∷ 10 ∷ 11 ∷ 18 ∷ 19 ∷ []) ≡ 0 ∷ 1 ∷ 2 ∷ 3 ∷ 4 ∷ 4 ∷ 5 ∷ 5 ∷ 5 ∷ 6 ∷ []
unfolding stepped bus deep
sends = refl

-- answers come in clocks 9, 10, 11, 12, 18 and 20
gets : map got_after (8 ∷ 9 ∷ 10 ∷ 11 ∷ 12 ∷ 17 ∷ 18 ∷ 19 ∷ 20 ∷ []) ≡ 0 ∷ 1 ∷ 2 ∷ 3 ∷ 4 ∷ 4 ∷ 5 ∷ 5 ∷ 6 ∷ []
unfolding stepped bus deep
gets = refl

abbrev pending_after : ℕ → ℕ
pending_after n = pending (port (after_clocks n) 0)

-- none is pending after 20 ticks and one after 19; the bound is 54
ends : map pending_after (19 ∷ 20 ∷ []) ≡ 1 ∷ 0 ∷ []
unfolding stepped bus deep
ends = refl

abbrev bound : ℕ
bound = ticks_left deep_fabric (port begun 0)

bounds : bound ∷ [] ≡ 54 ∷ []
bounds = refl
