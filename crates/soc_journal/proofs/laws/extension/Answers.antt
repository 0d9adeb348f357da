use Rattle.soc_journal.proofs.GrowthLemmas.{Extends-self, Extends-on, ExtendsBy-on}
use Rattle.soc_journal.proofs.laws.extension.Goals as goal

pub returns : goal.returns
returns c = record { itself = Extends-self; on = Extends-on; by_on = ExtendsBy-on }
