use Rattle.soc_bus.proofs.Nobody.{NoneFreeBelow}
use Rattle.soc_bus.proofs.grant.any_free.Given as goal

abbrev pub invariant-loop-cycle : goal.invariant-loop-cycle
invariant-loop-cycle g l = NoneFreeBelow l.cycles l.held l.cycle-index
