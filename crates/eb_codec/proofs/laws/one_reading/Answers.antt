use Rattle.eb_codec.proofs.OneReadingLemmas.{one_list_of_items, front_of_items, one_first_bad}
use Rattle.eb_codec.proofs.LowestLemmas.{lowest_rule}
use Rattle.eb_codec.proofs.EndingLemmas.{have_end}
use Rattle.eb_codec.proofs.laws.one_reading.Goals as goal

pub returns-clause-items : goal.returns-clause-items
returns-clause-items c = one_list_of_items

pub returns-clause-front : goal.returns-clause-front
returns-clause-front c = front_of_items

pub returns-clause-bad : goal.returns-clause-bad
returns-clause-bad c = one_first_bad

pub returns-clause-lowest : goal.returns-clause-lowest
returns-clause-lowest c = lowest_rule

pub returns-clause-end : goal.returns-clause-end
returns-clause-end c = have_end
