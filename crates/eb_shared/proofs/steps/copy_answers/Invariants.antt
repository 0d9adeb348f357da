use Rattle.std.proofs.Common.{◌≡◌, take, vec_len, vec_capacity}
use Rattle.soc_core.specs.Core.{port}
use Rattle.eb_shared.proofs.steps.copy_answers.Given as goal

abbrev pub invariant-loop-i : goal.invariant-loop-i
invariant-loop-i l = record {
  items : l.answers.items ≡ take l.i (port l.bus.core l.m).got;
  len : vec_len l.answers ≡ l.i;
  capacity : vec_capacity l.answers ≡ vec_capacity l.initial.answers;
}
