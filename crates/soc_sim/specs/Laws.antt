-- What a bus takes of the scripts that are read for it, and what running one shows.
use Rattle.std.specs.Prelude.{ℕ, List}
use Rattle.eb_base.specs.declared.width.Width.TheVariants.{W32}
use Rattle.soc_desc.specs.declared.description.Description.{Description}
use Rattle.soc_desc.specs.Accepted.{IsAccepted}
use Rattle.soc_core.specs.Built.{fabric_of}
use Rattle.soc_wave.specs.Arbitration.{Granting}
use Rattle.soc_script.specs.Script.{ScriptLine, IsScript}
use Rattle.soc_script_wave.specs.Sets.{AllLines}
use Rattle.soc_script_wave.specs.ScriptLaws.{RanScript}
use Rattle.soc_sim.specs.Watched.{WatchedState, with_grants}

-- The bus of an accepted description takes each line of a script that was read for its masters and 32 data bits.
abbrev pub ScriptIsOfBus : Type 0
ScriptIsOfBus = (d : Description) → IsAccepted d → (text : List ℕ) (script : List ScriptLine) → IsScript W32 d.masters text script → AllLines (fabric_of d) script

-- With the grants of its clocks, the rows of a watched bus are a wave of the script, and its journal is their history.
abbrev pub ShowsScript : List ScriptLine → WatchedState → Type 0
ShowsScript script w = (grants : List Granting) × RanScript (fabric_of w.description) script (with_grants w grants)
