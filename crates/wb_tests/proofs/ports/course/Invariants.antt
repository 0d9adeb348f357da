-- A clock leaves one port and one slave.
use Rattle.wb_tests.specs.Shared.{IsShared}
use Rattle.wb_tests.proofs.ports.course.Given as goal

abbrev pub invariant-loop-clocks : goal.invariant-loop-clocks
invariant-loop-clocks l = IsShared l.crossbar
