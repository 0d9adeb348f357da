use Rattle.std.proofs.Common.{take}
use Rattle.eb_client.specs.Place.{HasNoSlash}
use Rattle.eb_client.proofs.place.slash_in.Given as goal

-- No slash stands before it.
abbrev pub invariant-loop-i : goal.invariant-loop-i
invariant-loop-i l = HasNoSlash (take l.i l.word)
