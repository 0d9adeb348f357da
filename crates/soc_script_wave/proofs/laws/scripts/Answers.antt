use Rattle.soc_script_wave.proofs.OwnScript.{script_is_run, script_is_over}
use Rattle.soc_script_wave.proofs.laws.scripts.Goals as goal

pub returns : goal.returns
returns c = record { own = script_is_run; ends = script_is_over }
