use Rattle.soc_desc.proofs.Sound.{levels_fall, levels_of_bridge}
use Rattle.soc_desc.proofs.laws.levels.Goals as goal

pub returns-clause-fall : goal.returns-clause-fall
returns-clause-fall c = levels_fall

pub returns-clause-bridge : goal.returns-clause-bridge
returns-clause-bridge c = levels_of_bridge
