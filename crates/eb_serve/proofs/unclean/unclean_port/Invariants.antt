use Rattle.std.proofs.Common.{◌≡◌, drop}
use Rattle.eb_serve.specs.Unclean.{connections_or, unclean_door}
use Rattle.eb_serve.proofs.unclean.unclean_port.Given as goal

abbrev pub invariant-loop-i : goal.invariant-loop-i
invariant-loop-i l = connections_or l.ends.endings (unclean_door l.ends.door_failed) ≡ connections_or (drop l.i l.ends.endings) (unclean_door l.ends.door_failed)
