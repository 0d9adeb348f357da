use Rattle.std.proofs.Common.{◌≤◌, ◌<◌, ◌+◌, ◌-◌, ◌^◌, length}
use Rattle.eb_tests.proofs.codec.last_word.Given as goal

-- what pends and what is left are no more than there was
abbrev pub invariant-feeding : goal.invariant-feeding
invariant-feeding l = (l.at ≤ length l.octets) × (l.decoder.start + length l.decoder.pending + (length l.octets - l.at) < 2 ^ 64)

abbrev pub decreases-feeding : goal.decreases-feeding
decreases-feeding l = length l.octets - l.at
