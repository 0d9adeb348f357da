-- Each clock leaves one port and one slave in both.
use Rattle.wb_tests.specs.Shared.{IsShared}
use Rattle.wb_tests.proofs.ports.same_clocks.Given as goal

abbrev pub invariant-loop : goal.invariant-loop
invariant-loop l = record { all : IsShared l.all; alone : IsShared l.alone }
