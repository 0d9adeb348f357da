-- The top slaves are those of the description.
use Rattle.std.proofs.Common.{List, length, ap, ◌∙◌}
use Rattle.wb_signals.specs.Bus.{Child}
use Rattle.soc_core.specs.Built.{fabric_of}
use Rattle.soc_bus.specs.View.{BusState}
use Rattle.soc_bus.proofs.bus.Bus.slaves.Goals as goal

pub returns : goal.returns
returns g c = record {
  slaves =
      c.slaves.ensures.slaves ∙ ap (λ (cs : List Child). length cs) c.self.invariant.1.slaves
      ∙ ap (λ (s : BusState). (fabric_of s.description).slaves) c.self.view_is;
}
