-- What is left leads to the same.
use Rattle.std.proofs.Common.{◌≡◌, ◌≤◌, drop}
use Rattle.soc_bus.specs.View.{states}
use Rattle.soc_bus.specs.Look.{nothing_seen, looked_from}
use Rattle.soc_bus.proofs.grant.look_at.Given as goal

abbrev pub invariant-loop-i : goal.invariant-loop-i
invariant-loop-i g l = record {
  few : l.look.waiting ≤ l.i;
  rest : looked_from l.i (drop l.i (states l.cycles)) l.look ≡ looked_from 0 (states l.cycles) nothing_seen;
}
