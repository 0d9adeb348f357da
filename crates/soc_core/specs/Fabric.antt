-- What a bus with many ports is made of.
use Rattle.std.specs.Prelude.{◌≡◌, ℕ, ◌<◌, ◌≤◌, List, [], ◌∷◌, slice_index_or, Option, Some, None}
use Rattle.std.specs.Int.{bit_at}
use Rattle.wb_signals.specs.Request.{Request}
use Rattle.wb_signals.specs.Content.{Content, Nothing}
use Rattle.wb_signals.specs.Wiring.{Wiring}
use Rattle.wb_signals.specs.Slave.{queue_to}

-- How it is wired, what its places hold when it is built, how many top slaves there are (the children of its root bus,
-- numbered in order), how many ports and how deep each is, and the greatest path wait. `top` is the top slave that an
-- operation goes to, none where it goes nowhere; `slave_of` the top slave in which a place stands, none for the miss of the
-- root bus.
pub record Fabric : Type 0 where
  pub wiring : Wiring
  pub built : List Content
  pub slaves : ℕ
  pub top : Request → Option ℕ
  pub slave_of : ℕ → Option ℕ
  pub ports : ℕ
  pub depth : ℕ
  pub longest : ℕ

-- Its numbers fit one another: an operation's place stands in its top slave, the place of nowhere holds nothing, and no path
-- wait is above the greatest.
pub record IsFabric (f : Fabric) : Type 0 where
  pub tops : (r : Request) → f.slave_of (f.wiring.route r).place ≡ f.top r
  pub below : (place slave : ℕ) → f.slave_of place ≡ Some slave → slave < f.slaves
  pub nowhere : (place : ℕ) → f.slave_of place ≡ None → slice_index_or f.built place Nothing ≡ Nothing
  pub waits : (r : Request) → f.wiring.wait (queue_to f.wiring r) ≤ f.longest
  pub some_depth : 1 ≤ f.depth
  pub some_port : 1 ≤ f.ports

-- A set of top slaves has bit i for slave i.
abbrev pub IsIn : ℕ → ℕ → Type 0
IsIn set slave = bit_at set slave ≡ 1

-- The operation's top slave is in the set, or it goes nowhere.
abbrev pub GoesIn : Fabric → ℕ → Request → Type 0
GoesIn f set r = (slave : ℕ) → f.top r ≡ Some slave → IsIn set slave

abbrev pub AllGoIn : Fabric → ℕ → List Request → Type 0
AllGoIn f set [] = Unit {0}
AllGoIn f set (r ∷ rs) = GoesIn f set r × AllGoIn f set rs

-- What a place holds.
abbrev pub held_at : List Content → ℕ → Content
held_at contents place = slice_index_or contents place Nothing
