use Rattle.soc_script_wave.proofs.Scripted.{script_is_shown}
use Rattle.soc_script_wave.proofs.laws.shown.Goals as goal

pub returns : goal.returns
returns c = record { script = script_is_shown }
