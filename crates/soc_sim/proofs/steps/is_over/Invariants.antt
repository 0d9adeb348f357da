-- The masters so far are over.
use Rattle.std.proofs.Common.{◌≡◌, drop}
use Rattle.soc_script_wave.specs.Runner.{is_over}
use Rattle.soc_sim.proofs.steps.is_over.Given as goal

abbrev pub invariant-loop-m : goal.invariant-loop-m
invariant-loop-m g l = is_over l.m (drop l.m l.todos) l.bus.core ≡ is_over 0 l.todos l.bus.core
