-- The number of ports.
use Rattle.std.proofs.Common.{ap, arith}
use Rattle.soc_bus.specs.View.{BusState}
use Rattle.soc_bus.proofs.bus.Bus.masters.Goals as goal

pub returns-clause-masters : goal.returns-clause-masters
returns-clause-masters g c = omega (arith, c.len.ensures, c.self.invariant.1.ports, ap (λ (s : BusState). s.description.masters) c.self.view_is)
