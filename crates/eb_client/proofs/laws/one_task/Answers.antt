use Rattle.eb_client.proofs.TaskLemmas.{one_task}
use Rattle.eb_client.proofs.laws.one_task.Goals as goal

pub returns : goal.returns
returns c = record { one = one_task }
