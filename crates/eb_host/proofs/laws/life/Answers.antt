use Rattle.eb_host.proofs.LifeLemmas.{writes_asks}
use Rattle.eb_host.proofs.laws.life.Goals as goal

pub returns : goal.returns
returns c = record { writes = writes_asks }
