use Rattle.std.proofs.Common.{◌≡◌, drop}
use Rattle.eb_serve.specs.Unclean.{first_unclean_port}
use Rattle.eb_serve.proofs.served.ServedPorts.first_unclean.Given as goal

abbrev pub invariant-loop-port : goal.invariant-loop-port
invariant-loop-port l = first_unclean_port l.self.ports ≡ first_unclean_port (drop l.port-index l.self.ports)
