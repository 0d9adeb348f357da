-- The script is under way, and its clocks are bounded.
use Rattle.std.proofs.Common.{◌≡◌, ◌-◌, suc, length}
use Rattle.soc_core.specs.Built.{fabric_of}
use Rattle.soc_sim.proofs.UnderWay.{IsUnderWay, most_clocks}
use Rattle.soc_sim.proofs.runner.run_clocks.Given as goal

abbrev pub invariant-clocks : goal.invariant-clocks
invariant-clocks g l = record {
  description : l.bus.description ≡ l.initial.bus.description;
  under : IsUnderWay (fabric_of l.initial.bus.description) l.lines l.todos l.bus;
}

abbrev pub decreases-clocks : goal.decreases-clocks
decreases-clocks g l = suc (most_clocks (fabric_of l.initial.bus.description) l.lines) - length l.bus.rows
