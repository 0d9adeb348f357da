-- The masters so far are prepared.
use Rattle.std.proofs.Common.{◌≡◌}
use Rattle.soc_core.specs.Built.{fabric_of}
use Rattle.soc_sim.proofs.Preparing.{PreparesRest}
use Rattle.soc_sim.proofs.steps.prepare_all.Given as goal

abbrev pub invariant-loop-m : goal.invariant-loop-m
invariant-loop-m g l = record {
  rest : PreparesRest (fabric_of l.initial.bus.description) l.t l.initial.todos l.initial.bus.core l.m l.todos l.bus.core;
  frame : l.bus ≡ record l.initial.bus { core = l.bus.core };
}
