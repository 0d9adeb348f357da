-- How a script is run, clock by clock.
use Rattle.std.specs.Prelude.{◌≡◌, ℕ, zero, suc, ◌==◌, ◌&&◌, nat_le, Bool, true, false, List, [], ◌∷◌}
use Rattle.wb_signals.specs.Request.{Request}
use Rattle.soc_core.specs.Fabric.{Fabric}
use Rattle.soc_core.specs.Core.{Phase, Idle, Wants, Holds, Leaves, CorePort, Core, port, pending, raised, loaded, taken, released, built_core, IsTick}
use Rattle.soc_core.specs.Built.{set_of_cycle}
use Rattle.soc_script.specs.Script.{ScriptLine}
use Rattle.soc_script.specs.Cycles.{own_lines}
use Rattle.soc_wave.specs.Laws.{Watched, AddsRow, watched_from}

-- ---- before a tick, for one master

-- A master has lines that aren't done: the first of them is loaded, or is the next to be.

abbrev pub is_loaded : List Request → Bool
is_loaded [] = false
is_loaded (r ∷ rs) = true

-- its line is loaded and all is answered
abbrev pub is_through : CorePort → Bool
is_through p = is_loaded p.loaded && (pending p == 0)

-- a line that ends its cycle releases the port whole; the master's last line, if it holds, releases it cut
abbrev pub after_taken : ℕ → Bool → List ScriptLine → Core → Core
after_taken m true todo core = released core m false
after_taken m false [] core = released core m true
after_taken m false (l ∷ todo) core = core

-- First the answers of a line that is answered are taken.
abbrev pub settled_if : Bool → ℕ → ScriptLine → List ScriptLine → Core → Core
settled_if false m l todo core = core
settled_if true m l todo core = after_taken m l.last todo (taken core m)

abbrev pub settled : ℕ → List ScriptLine → Core → Core
settled m [] core = core
settled m (l ∷ todo) core = settled_if (is_through (port core m)) m l todo core

abbrev pub left_if : Bool → ScriptLine → List ScriptLine → List ScriptLine
left_if false l todo = l ∷ todo
left_if true l todo = todo

-- the lines that aren't done after it
abbrev pub lines_left : CorePort → List ScriptLine → List ScriptLine
lines_left p [] = []
lines_left p (l ∷ todo) = left_if (is_through p) l todo

-- Then, if the next line's clock has come, an idle port raises its set, and a granted port with nothing loaded loads it.
abbrev pub load_if : Bool → ℕ → ScriptLine → Core → Core
load_if false m l core = loaded core m l.ops
load_if true m l core = core

abbrev pub begun_by : Fabric → Phase → ℕ → ScriptLine → Core → Core
begun_by f Idle m l core = raised core m (set_of_cycle f l.ops l.last)
begun_by f (Wants set) m l core = core
begun_by f (Holds set) m l core = load_if (is_loaded (port core m).loaded) m l core
begun_by f Leaves m l core = core

abbrev pub begun_if : Fabric → Bool → ℕ → ScriptLine → Core → Core
begun_if f false m l core = core
begun_if f true m l core = begun_by f (port core m).phase m l core

abbrev pub advanced : Fabric → ℕ → ℕ → List ScriptLine → Core → Core
advanced f t m [] core = core
advanced f t m (l ∷ todo) core = begun_if f (nat_le l.clock t) m l core

-- ---- before a tick, for all masters, in rising order

pub record Running : Type 0 where
  pub core : Core
  pub todos : List (List ScriptLine)

-- for the master m, before the tick of clock t
abbrev pub prepared : Fabric → ℕ → ℕ → List ScriptLine → Core → Core
prepared f t m todo core = advanced f t m (lines_left (port core m) todo) (settled m todo core)

abbrev pub prepared_from : Fabric → ℕ → ℕ → List (List ScriptLine) → Core → Core
prepared_from f t m [] core = core
prepared_from f t m (todo ∷ todos) core = prepared_from f t (suc m) todos (prepared f t m todo core)

abbrev pub left_from : ℕ → List (List ScriptLine) → Core → List (List ScriptLine)
left_from m [] core = []
left_from m (todo ∷ todos) core = lines_left (port core m) todo ∷ left_from (suc m) todos core

-- ---- the run

-- every line is done and every port released
abbrev pub is_released : Phase → Bool
is_released Idle = true
is_released (Wants set) = false
is_released (Holds set) = false
is_released Leaves = true

abbrev pub is_nil : List ScriptLine → Bool
is_nil [] = true
is_nil (l ∷ lines) = false

abbrev pub is_over : ℕ → List (List ScriptLine) → Core → Bool
is_over m [] core = true
is_over m (todo ∷ todos) core = (is_nil todo && is_released (port core m).phase) && is_over (suc m) todos core

-- Clock t: what is done before its tick, and the tick.
pub record IsClock (f : Fabric) (t : ℕ) (todos : List (List ScriptLine)) (old new : Watched) : Type 0 where
  pub adds : AddsRow f (record { core = prepared_from f t 0 todos old.core; rows = old.rows; grants = old.grants }) new

-- Clocks from t on, n before the last one, which is the first before whose tick all is over.
abbrev pub Runs : Fabric → ℕ → ℕ → List (List ScriptLine) → Watched → Watched → Type 0
Runs f zero t todos old new = (is_over 0 (left_from 0 todos old.core) (prepared_from f t 0 todos old.core) ≡ true) × IsClock f t todos old new
Runs f (suc n) t todos old new =
    (mid : Watched) × (is_over 0 (left_from 0 todos old.core) (prepared_from f t 0 todos old.core) ≡ false) × IsClock f t todos old mid
    × Runs f n (suc t) (left_from 0 todos old.core) mid new

abbrev pub todos_from : List ScriptLine → ℕ → ℕ → List (List ScriptLine)
todos_from script m zero = []
todos_from script m (suc n) = own_lines m script ∷ todos_from script (suc m) n

-- A bus as it was built runs a script.
abbrev pub RunsScript : Fabric → List ScriptLine → ℕ → Watched → Type 0
RunsScript f script n new = Runs f n 0 (todos_from script 0 f.ports) (watched_from (built_core f)) new

-- ---- a bus that isn't watched

-- The same clocks of a core.
abbrev pub RunsCore : Fabric → ℕ → ℕ → List (List ScriptLine) → Core → Core → Type 0
RunsCore f zero t todos old new = (is_over 0 (left_from 0 todos old) (prepared_from f t 0 todos old) ≡ true) × IsTick f (prepared_from f t 0 todos old) new
RunsCore f (suc n) t todos old new =
    (mid : Core) × (is_over 0 (left_from 0 todos old) (prepared_from f t 0 todos old) ≡ false) × IsTick f (prepared_from f t 0 todos old) mid
    × RunsCore f n (suc t) (left_from 0 todos old) mid new

abbrev pub CoreRunsScript : Fabric → List ScriptLine → ℕ → Core → Type 0
CoreRunsScript f script n new = RunsCore f n 0 (todos_from script 0 f.ports) (built_core f) new

-- So many clocks from t on, before none of whose ticks all is over.
abbrev pub RunsOn : Fabric → ℕ → ℕ → List (List ScriptLine) → Core → Core → Type 0
RunsOn f zero t todos old new = new ≡ old
RunsOn f (suc n) t todos old new =
    (mid : Core) × (is_over 0 (left_from 0 todos old) (prepared_from f t 0 todos old) ≡ false) × IsTick f (prepared_from f t 0 todos old) mid
    × RunsOn f n (suc t) (left_from 0 todos old) mid new
