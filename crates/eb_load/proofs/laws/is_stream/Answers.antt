use Rattle.eb_load.proofs.SpellingLemmas.{spells_load, is_short}
use Rattle.eb_load.proofs.laws.is_stream.Goals as goal

pub returns-clause-spells : goal.returns-clause-spells
returns-clause-spells c = spells_load

pub returns-clause-short : goal.returns-clause-short
returns-clause-short c = is_short
