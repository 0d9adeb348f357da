use Rattle.soc_journal.proofs.GrowthLemmas.{after-append, IsLegal-append, IsLegal-front}
use Rattle.soc_journal.proofs.laws.legal_growth.Goals as goal

pub returns : goal.returns
returns c = record { after = after-append; on = IsLegal-append; front = IsLegal-front }
