-- The operation is one that the device takes.
use Rattle.wb_device.proofs.TakenLemmas.{taken_parts}
use Rattle.wb_device.proofs.piped.apply_given.Goals as goal

pub apply-requires-clause-within : goal.apply-requires-clause-within
apply-requires-clause-within c = (taken_parts c.args.device.now c.in-Some.op (c.requires.taken c.in-Some.op c.in-Some.is)).1

pub apply-requires-clause-lanes : goal.apply-requires-clause-lanes
apply-requires-clause-lanes c = (taken_parts c.args.device.now c.in-Some.op (c.requires.taken c.in-Some.op c.in-Some.is)).2

pub apply-requires-clause-aligned : goal.apply-requires-clause-aligned
apply-requires-clause-aligned c = (taken_parts c.args.device.now c.in-Some.op (c.requires.taken c.in-Some.op c.in-Some.is)).0
