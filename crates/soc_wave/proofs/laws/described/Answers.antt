use Rattle.soc_wave.proofs.QueueLemmas.{queue_is_place}
use Rattle.soc_wave.proofs.laws.described.Goals as goal

pub returns : goal.returns
returns c = record { queues = queue_is_place }
