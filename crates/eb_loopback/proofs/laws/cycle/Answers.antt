use Rattle.eb_loopback.proofs.AskingLemmas.{asks_meet}
use Rattle.eb_loopback.proofs.SpellingLemmas.{asks_spell}
use Rattle.eb_loopback.proofs.ReplyingLemmas.{replies_meet}
use Rattle.eb_loopback.proofs.laws.cycle.Goals as goal

pub returns-clause-spelled : goal.returns-clause-spelled
returns-clause-spelled c = asks_spell

pub returns-clause-asked : goal.returns-clause-asked
returns-clause-asked c = asks_meet

pub returns-clause-replied : goal.returns-clause-replied
returns-clause-replied c = replies_meet
