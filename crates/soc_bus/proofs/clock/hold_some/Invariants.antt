use Rattle.soc_bus.proofs.Holders.{HasHeld}
use Rattle.soc_bus.proofs.clock.hold_some.Given as goal

abbrev pub invariant-loop-i : goal.invariant-loop-i
invariant-loop-i l = HasHeld l.set l.m l.initial.holders l.holders l.i
