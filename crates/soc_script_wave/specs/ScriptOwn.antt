-- What a script asks of each master, and what its own part has.
use Rattle.std.specs.Prelude.{◌≡◌, ◌<◌, ℕ, List, map}
use Rattle.wb_signals.specs.History.{Group, marked, own}
use Rattle.soc_core.specs.Fabric.{Fabric, IsFabric}
use Rattle.soc_core.specs.Core.{Core}
use Rattle.soc_script.specs.Script.{ScriptLine}
use Rattle.soc_script.specs.Cycles.{ScriptCycle, cycles_of, ops_of_lines}
use Rattle.soc_script_wave.specs.Sets.{AllLines}
use Rattle.soc_script_wave.specs.Runner.{CoreRunsScript}

-- what a cycle of a script asks for
abbrev pub asked_by : ScriptCycle → Group
asked_by c = record { cut = c.cut; ops = ops_of_lines c.lines }

-- The own part of each master has the marks and operations of its script's cycles, in order.
abbrev pub OwnIsAsked : Fabric → List ScriptLine → Core → Type 0
OwnIsAsked f script core = (m : ℕ) → m < f.ports → map marked (own m core.journal) ≡ map asked_by (cycles_of m script)

-- So after a bus has run a script.
abbrev pub ScriptIsRun : Type 0
ScriptIsRun = (f : Fabric) → IsFabric f → (script : List ScriptLine) → AllLines f script → (n : ℕ) (new : Core) → CoreRunsScript f script n new → OwnIsAsked f script new
