use Rattle.std.proofs.Common.{◌≡◌, ◌≤◌, ◌+◌, ◌++◌, vec_len, vec_capacity}
use Rattle.wb_signals.specs.Cycles.{AllFitBus}
use Rattle.eb_session.specs.Operations.{write_at, upto}
use Rattle.eb_session.proofs.operations.put_writes.Given as goal

abbrev pub invariant-loop-i : goal.invariant-loop-i
invariant-loop-i l =
    (l.ops.items ≡ l.initial.ops.items ++ upto l.i (write_at l.bus l.view.header l.view.item))
    × (vec_len l.ops ≡ vec_len l.initial.ops + l.i) × (vec_capacity l.initial.ops ≤ vec_capacity l.ops) × AllFitBus l.bus l.ops.items
