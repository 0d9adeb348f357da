use Rattle.std.proofs.Common.{arith}
use Rattle.soc_bus.proofs.Nobody.{lone_within}
use Rattle.soc_bus.proofs.grant.grant_free.Goals as goal

pub grant_lone-requires-clause-within : goal.grant_lone-requires-clause-within
grant_lone-requires-clause-within g c = lone_within c.args.cycles.now c.args.look c.requires.look (grind (arith, c.if-look-eq1.true))
