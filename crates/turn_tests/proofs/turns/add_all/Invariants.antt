use Rattle.std.proofs.Common.{◌≡◌}
use Rattle.turn_tests.proofs.turns.add_all.Given as goal

abbrev pub invariant-loop : goal.invariant-loop
invariant-loop g l = (l.pass.turn ≡ l.turn) × (l.pass.number ≡ l.fn.pass.number) × (l.master ≡ l.fn.pass.number)
