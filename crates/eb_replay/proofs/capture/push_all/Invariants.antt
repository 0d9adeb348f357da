use Rattle.std.proofs.Common.{◌≡◌, ◌++◌, take}
use Rattle.eb_replay.proofs.capture.push_all.Given as goal

abbrev pub invariant-loop-octet : goal.invariant-loop-octet
invariant-loop-octet l = l.trail ≡ l.initial.trail ++ take l.octet-index l.octets
