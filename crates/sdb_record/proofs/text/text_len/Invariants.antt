use Rattle.std.proofs.Common.{◌≡◌, ◌≤◌, length, take}
use Rattle.sdb_record.specs.Text.{text_in}
use Rattle.sdb_record.proofs.text.text_len.Given as goal

abbrev pub invariant-loop-len : goal.invariant-loop-len
invariant-loop-len l = (l.len ≤ length l.field) × (text_in (take l.len l.field) ≡ text_in l.field)

abbrev pub decreases-loop-len : goal.decreases-loop-len
decreases-loop-len l = l.len
