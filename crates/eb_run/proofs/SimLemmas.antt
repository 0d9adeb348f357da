-- What the command `sim` came to, from its steps.
use Rattle.std.proofs.Common.{◌≡◌, ◌++◌, ℕ, Bool, true, false, List, Result, Ok, Err, inl, inr, refl, sym, ap, subst}
use Rattle.std.specs.Prelude.{⊤}
use Rattle.wb_signals.specs.History.{Entry}
use Rattle.eb_io.specs.Reading.{Reading}
use Rattle.eb_io.specs.Outside.{Outside}
use Rattle.soc_desc.specs.Accepted.{IsAccepted}
use Rattle.soc_desc.specs.declared.description.Description.{Description}
use Rattle.soc_core.specs.Built.{fabric_of}
use Rattle.soc_wave.specs.Pairs.{history}
use Rattle.soc_script.specs.Script.{ScriptLine}
use Rattle.soc_script_wave.specs.Sets.{AllLines, marks_of}
use Rattle.soc_script_wave.specs.ScriptLaws.{RanScript}
use Rattle.soc_script_wave.specs.ScriptOwn.{OwnIsAsked}
use Rattle.soc_sim.specs.Laws.{ShowsScript}
use Rattle.soc_sim.specs.Watched.{WatchedState, with_grants}
use Rattle.soc_sim.proofs.LineLaws.{script_is_of_bus}
use Rattle.eb_run.specs.Files.{IsScripted, ReadsScript}
use Rattle.eb_run.specs.Commands.{ShowsRun, run_text}
use Rattle.eb_run.proofs.QuietLemmas.{read_well, a_script}

-- the bus of a description takes a script that was read for its masters
pub taken_lines : {F : Type 0} (reading : F → Reading) (old new : Outside F) (name : List ℕ) (d : Description) (script : List ScriptLine) → IsAccepted d
    → ReadsScript reading old new name d.masters (Ok script) → AllLines (fabric_of d) script
taken_lines reading old new name d script accepted reads =
    let read = read_well reading old new name (IsScripted d.masters) script reads in
    script_is_of_bus d accepted read.0 script (a_script d.masters read.0 script read.2)

-- the text of a bus that ran a script is that of its rows and their history
pub shows_run : (d : Description) (script : List ScriptLine) (wave : Bool) (w : WatchedState) → w.description ≡ d → ShowsScript script w → OwnIsAsked (fabric_of d) script w.core
    → ShowsRun (fabric_of d) script wave (run_text wave w.rows w.core.journal)
shows_run d script wave w is shows own =
    let ran = subst (λ (x : Description). RanScript (fabric_of x) script (with_grants w shows.0)) is shows.1 in
    record {
      watched = with_grants w shows.0;
      ran = ran;
      asked = own;
      text_is = ap (λ (l : List Entry). run_text wave w.rows l) (sym ran.journal);
    }
