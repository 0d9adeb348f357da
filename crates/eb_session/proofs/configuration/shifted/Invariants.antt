use Rattle.std.proofs.Common.{◌≡◌, take}
use Rattle.eb_session.specs.Configuration.{register}
use Rattle.eb_session.proofs.configuration.shifted.Given as goal

abbrev pub invariant-loop-i : goal.invariant-loop-i
invariant-loop-i g l = l.register ≡ register l.errors (take l.i (g.M.Master.answered l.master))
