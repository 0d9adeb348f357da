-- The law of a bus that runs a script.
use Rattle.std.specs.Prelude.{◌≡◌, ℕ, List}
use Rattle.soc_core.specs.Fabric.{Fabric, IsFabric}
use Rattle.soc_wave.specs.Pairs.{history}
use Rattle.soc_script.specs.Script.{ScriptLine}
use Rattle.soc_script_wave.specs.Sets.{AllLines, marks_of}
use Rattle.soc_script_wave.specs.ScriptWave.{IsWaveOf}
use Rattle.soc_script_wave.specs.Runner.{RunsScript}
use Rattle.soc_wave.specs.Laws.{Watched}

-- The rows are a wave of the script, and the journal is its history.
pub record RanScript (f : Fabric) (script : List ScriptLine) (w : Watched) : Type 0 where
  pub wave : IsWaveOf f script w.grants w.rows
  pub journal : history f.ports (marks_of script) w.rows ≡ w.core.journal

-- A watched bus that runs a script clock by clock, n clocks before the last, shows a wave of it.
abbrev pub ScriptIsShown : Type 0
ScriptIsShown = (f : Fabric) → IsFabric f → (script : List ScriptLine) → AllLines f script → (n : ℕ) (new : Watched) → RunsScript f script n new → RanScript f script new
