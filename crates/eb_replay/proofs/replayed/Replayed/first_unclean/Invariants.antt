use Rattle.std.proofs.Common.{◌≡◌, drop}
use Rattle.eb_replay.specs.Text.{first_unclean}
use Rattle.eb_replay.proofs.replayed.Replayed.first_unclean.Given as goal

abbrev pub invariant-loop-port : goal.invariant-loop-port
invariant-loop-port l = first_unclean l.self.ports ≡ first_unclean (drop l.port-index l.self.ports)
