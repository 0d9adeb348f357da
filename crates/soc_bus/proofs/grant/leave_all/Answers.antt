use Rattle.soc_bus.specs.View.{states}
use Rattle.soc_bus.proofs.Nobody.{phases_stay}
use Rattle.soc_bus.proofs.grant.leave_all.Goals as goal

pub returns-else-look-clause-states : goal.returns-else-look-clause-states
returns-else-look-clause-states g c = phases_stay (states c.args.cycles.now) c.args.look c.requires.look c.if-look.false
