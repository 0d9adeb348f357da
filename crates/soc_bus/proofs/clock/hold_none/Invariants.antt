use Rattle.std.proofs.Common.{◌≡◌, ◌<◌, ℕ, length, get_or, None}
use Rattle.soc_bus.proofs.clock.hold_none.Given as goal

abbrev pub invariant-loop-i : goal.invariant-loop-i
invariant-loop-i l = record {
  long : length l.holders ≡ length l.initial.holders;
  none : (k : ℕ) → k < l.i → get_or l.holders k None ≡ None;
}
