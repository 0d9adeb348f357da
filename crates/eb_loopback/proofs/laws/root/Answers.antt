use Rattle.eb_loopback.proofs.AskingLemmas.{root_asks}
use Rattle.eb_loopback.proofs.SpellingLemmas.{root_spells}
use Rattle.eb_loopback.proofs.ReplyingLemmas.{root_meets}
use Rattle.eb_loopback.proofs.laws.root.Goals as goal

pub returns-clause-spelled : goal.returns-clause-spelled
returns-clause-spelled c = root_spells

pub returns-clause-asked : goal.returns-clause-asked
returns-clause-asked c = root_asks

pub returns-clause-replied : goal.returns-clause-replied
returns-clause-replied c = root_meets
