use Rattle.std.proofs.Common.{◌≡◌, length, take}
use Rattle.soc_bus.specs.View.{states}
use Rattle.soc_bus.specs.Alone.{resting_rows}
use Rattle.soc_bus.proofs.alone.rest_all.Given as goal

abbrev pub invariant-loop-i : goal.invariant-loop-i
invariant-loop-i g l = record {
  long : length l.rows ≡ length l.initial.rows;
  so_far : take l.i l.rows ≡ resting_rows (states (take l.i l.cycles));
}
