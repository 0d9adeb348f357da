use Rattle.soc_core.proofs.Bounds.{alone_granted}
use Rattle.soc_core.proofs.laws.grants.Goals as goal

pub returns : goal.returns
returns c = record { alone = alone_granted }
