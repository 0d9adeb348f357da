use Rattle.soc_bus.specs.Alone.{AreDoneBetween}
use Rattle.soc_bus.proofs.alone.first_active.Given as goal

abbrev pub invariant-loop-m : goal.invariant-loop-m
invariant-loop-m l = AreDoneBetween l.from l.m l.ports
