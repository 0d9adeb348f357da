-- The sets and the marks of the cycles that a script asks for.
use Rattle.std.specs.Prelude.{◌≤◌, ℕ, zero, suc, Bool, false, List, [], ◌∷◌, length}
use Rattle.wb_signals.specs.Cycles.{AllFitBus}
use Rattle.soc_script.specs.Script.{ScriptLine}
use Rattle.soc_script.specs.Cycles.{ScriptCycle, cycles_of}
use Rattle.soc_core.specs.Fabric.{Fabric}
use Rattle.soc_core.specs.Built.{set_of_cycle}

-- What a bus takes as a line: some operations, at most as many as a load may have, that fit it.
pub record IsLine (f : Fabric) (l : ScriptLine) : Type 0 where
  pub some : 1 ≤ length l.ops
  pub most : length l.ops ≤ 510
  pub fit : AllFitBus f.wiring.bus l.ops

abbrev pub AllLines : Fabric → List ScriptLine → Type 0
AllLines f [] = Unit {0}
AllLines f (l ∷ lines) = IsLine f l × AllLines f lines

-- ---- the set of a cycle

-- The top slaves of the opening record's operations where it also ends the cycle, else all.
abbrev pub set_of_lines : Fabric → List ScriptLine → ℕ
set_of_lines f [] = 0
set_of_lines f (l ∷ lines) = set_of_cycle f l.ops l.last

abbrev pub cycle_set : Fabric → ScriptCycle → ℕ
cycle_set f c = set_of_lines f c.lines

-- the set of a master's n-th cycle
abbrev pub set_at : Fabric → List ScriptCycle → ℕ → ℕ
set_at f [] n = 0
set_at f (c ∷ cycles) zero = cycle_set f c
set_at f (c ∷ cycles) (suc n) = set_at f cycles n

abbrev pub sets_of : Fabric → List ScriptLine → ℕ → ℕ → ℕ
sets_of f script m n = set_at f (cycles_of m script) n

-- whether it is cut
abbrev pub mark_at : List ScriptCycle → ℕ → Bool
mark_at [] n = false
mark_at (c ∷ cycles) zero = c.cut
mark_at (c ∷ cycles) (suc n) = mark_at cycles n

abbrev pub marks_of : List ScriptLine → ℕ → ℕ → Bool
marks_of script m n = mark_at (cycles_of m script) n
