use Rattle.std.proofs.Common.{◌≡◌}
use Rattle.eb_shared.specs.Shared.{made_by, stake_by, stake_on, IsSameMaster}
use Rattle.eb_shared.proofs.turns.turns_to_end.Given as goal

abbrev pub invariant-loop : goal.invariant-loop
invariant-loop g l = record {
  same : IsSameMaster l.initial.pass l.pass;
  made : made_by l.pass ≡ made_by l.initial.pass;
  set : l.way.set ≡ l.initial.way.set;
  stake : stake_by l.pass ≡ stake_on l.way.stage l.way.set.0 (stake_by l.initial.pass).opened l.part.ops.now;
  answers : l.answers ≡ l.initial.answers;
}
