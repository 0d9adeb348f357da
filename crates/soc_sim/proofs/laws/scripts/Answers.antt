use Rattle.soc_sim.proofs.LineLaws.{script_is_of_bus}
use Rattle.soc_sim.proofs.laws.scripts.Goals as goal

pub returns : goal.returns
returns c = record { lines = script_is_of_bus }
