use Rattle.eb_loopback.proofs.OpeningLemmas.{opening_spells, probe_meets}
use Rattle.eb_loopback.proofs.laws.opening.Goals as goal

pub returns-clause-spelled : goal.returns-clause-spelled
returns-clause-spelled c = opening_spells

pub returns-clause-probed : goal.returns-clause-probed
returns-clause-probed c = probe_meets
