use Rattle.std.proofs.Common.{◌≡◌, drop}
use Rattle.eb_serve.specs.Unclean.{first_unclean_of}
use Rattle.eb_serve.proofs.unclean.first_unclean.Given as goal

abbrev pub invariant-loop-i : goal.invariant-loop-i
invariant-loop-i l = first_unclean_of l.ends.endings ≡ first_unclean_of (drop l.i l.ends.endings)
