use Rattle.sdb_walk.proofs.OneEnd.{one_result}
use Rattle.sdb_walk.proofs.laws.one_result.Goals as goal

pub returns : goal.returns
returns g c = record { one = one_result _ }
