-- What masters may do before a tick.
use Rattle.std.specs.Prelude.{◌≡◌, ℕ, suc, true, false, List, [], ◌∷◌, length}
use Rattle.soc_core.specs.Built.{fabric_of}
use Rattle.soc_wave.specs.Arbitration.{Granting}
use Rattle.soc_sim.specs.Watched.{WatchedState, with_grants}
use Rattle.soc_core.specs.Fabric.{Fabric}
use Rattle.soc_core.specs.Core.{Core, port, taken, is_idle, is_granted, CanRaise, CanLoad, CanTake, CanRelease}
use Rattle.soc_core.specs.Built.{set_of_cycle}
use Rattle.soc_script.specs.Script.{ScriptLine}
use Rattle.soc_script_wave.specs.Runner.{IsClock, is_loaded, is_through, settled, lines_left, prepared}

-- A line that is through may be taken, and the port then released.
pub record MaySettle (f : Fabric) (m : ℕ) (core : Core) : Type 0 where
  pub take : is_through (port core m) ≡ true → CanTake f core m
  pub release : is_through (port core m) ≡ true → CanRelease f (taken core m) m

-- An idle port may raise the set of the next line, and one that is granted, with nothing loaded, may load it.
pub record MayBegin (f : Fabric) (m : ℕ) (todo : List ScriptLine) (core : Core) : Type 0 where
  pub raise : (l : ScriptLine) (rest : List ScriptLine) → todo ≡ l ∷ rest → is_idle (port core m).phase ≡ true → CanRaise f core m (set_of_cycle f l.ops l.last)
  pub load : (l : ScriptLine) (rest : List ScriptLine) → todo ≡ l ∷ rest → is_granted (port core m).phase ≡ true
      → is_loaded (port core m).loaded ≡ false → CanLoad f core m l.ops

-- A master with these lines to do may do both steps.
pub record MayPrepare (f : Fabric) (m : ℕ) (todo : List ScriptLine) (core : Core) : Type 0 where
  pub settle : MaySettle f m core
  pub begin_ : MayBegin f m (lines_left (port core m) todo) (settled m todo core)

-- The masters from m on may, each after those before it, before the tick of clock t.
abbrev pub MayAllPrepare : Fabric → ℕ → ℕ → List (List ScriptLine) → Core → Type 0
MayAllPrepare f t m [] core = Unit {0}
MayAllPrepare f t m (todo ∷ todos) core = MayPrepare f m todo core × MayAllPrepare f t (suc m) todos (prepared f t m todo core)

-- The next clock of a watched bus leads from one to the other: whatever the grants of the clocks before it are, there are those
-- after it.
abbrev pub LeadsToClock : List (List ScriptLine) → WatchedState → WatchedState → Type 0
LeadsToClock todos old new = (grants : List Granting) → (after : List Granting)
    × IsClock (fabric_of old.description) (length old.rows) todos (with_grants old grants) (with_grants new after)
