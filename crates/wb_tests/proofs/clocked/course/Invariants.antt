-- A clock keeps the wiring.
use Rattle.std.proofs.Common.{◌≡◌, true}
use Rattle.wb_tree.specs.Tree.{node_slave, IsSound}
use Rattle.wb_tests.proofs.clocked.course.Given as goal

abbrev pub invariant-loop-clock : goal.invariant-loop-clock
invariant-loop-clock l = IsSound l.node × ((node_slave l.node).wiring.accepts l.op ≡ true)
