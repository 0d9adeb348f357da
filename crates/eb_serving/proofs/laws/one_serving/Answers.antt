use Rattle.eb_serving.proofs.AskLemmas.{one_serving}
use Rattle.eb_serving.proofs.laws.one_serving.Goals as goal

pub returns : goal.returns
returns c = record { one = one_serving }
