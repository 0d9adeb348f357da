use Rattle.soc_desc.proofs.Rules.{padded_is}
use Rattle.soc_desc.proofs.shape.name_at.Goals as goal

pub returns-in-Some-new-clause-padded : goal.returns-in-Some-new-clause-padded
returns-in-Some-new-clause-padded c = padded_is c.as_bytes.result.now _ c.in-Some-new.ensures.name.0 c.in-Some-new.ensures.name.1
