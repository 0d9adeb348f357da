use Rattle.soc_journal.proofs.GrowthLemmas.{own-append, own-mine, AllOf-own, own-ExtendsBy}
use Rattle.soc_journal.proofs.laws.own_part.Goals as goal

pub returns : goal.returns
returns c = record { both = own-append; mine = own-mine; all_mine = AllOf-own; others = own-ExtendsBy }
