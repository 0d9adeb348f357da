-- How much of a script is left to run: a number that no clock raises.
use Rattle.std.specs.Prelude.{◌≤◌, ℕ, ◌+◌, ◌-◌, ◌*◌, Bool, true, false, List, [], ◌∷◌, length, max}
use Rattle.soc_core.specs.Fabric.{Fabric, IsFabric}
use Rattle.soc_core.specs.Core.{Phase, Idle, Wants, Holds, Leaves, CorePort, Core, built_core, ticks_left}
use Rattle.soc_script.specs.Script.{ScriptLine}
use Rattle.soc_script_wave.specs.Sets.{AllLines}
use Rattle.soc_script_wave.specs.Runner.{is_loaded, RunsOn, todos_from}

-- a line: the ticks that its operations take at most, and its other steps
abbrev pub line_work : Fabric → ScriptLine → ℕ
line_work f l = length l.ops * (f.longest + 2) + 4

abbrev pub work : Fabric → List ScriptLine → ℕ
work f [] = 0
work f (l ∷ lines) = line_work f l + work f lines

abbrev pub after_first : List ScriptLine → List ScriptLine
after_first [] = []
after_first (l ∷ lines) = lines

-- a port that holds its set, with a line loaded or not
abbrev pub holding_work : Fabric → Bool → CorePort → List ScriptLine → ℕ
holding_work f true p todo = work f (after_first todo) + 1 + ticks_left f p
holding_work f false p todo = work f todo - 2

abbrev pub work_as : Fabric → Phase → CorePort → List ScriptLine → ℕ
work_as f Idle p todo = work f todo
work_as f (Wants set) p todo = work f todo - 1
work_as f (Holds set) p todo = holding_work f (is_loaded p.loaded) p todo
work_as f Leaves p todo = work f todo + 1

-- a master with these lines to do
abbrev pub port_work : Fabric → CorePort → List ScriptLine → ℕ
port_work f p todo = work_as f p.phase p todo

-- all masters' lines
abbrev pub all_work : Fabric → List (List ScriptLine) → ℕ
all_work f [] = 0
all_work f (todo ∷ todos) = work f todo + all_work f todos

-- the clock from which on every line may run
abbrev pub latest : List ScriptLine → ℕ
latest [] = 0
latest (l ∷ lines) = max l.clock (latest lines)

-- The clocks of a script before its last are at most so many: those up to its latest line, and the work of all lines.
abbrev pub ScriptEnds : Type 0
ScriptEnds = (f : Fabric) → IsFabric f → (script : List ScriptLine) → AllLines f script → (n : ℕ) (new : Core)
    → RunsOn f n 0 (todos_from script 0 f.ports) (built_core f) new → n ≤ latest script + all_work f (todos_from script 0 f.ports)
