use Rattle.soc_core.proofs.Stakes.{event_changes}
use Rattle.soc_core.proofs.laws.own_changes.Goals as goal

pub returns : goal.returns
returns c = record { own = event_changes }
