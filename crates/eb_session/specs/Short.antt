-- The reply to a short record.
use Rattle.std.specs.Prelude.{ℕ, List, ◌∷◌, ◌++◌}
use Rattle.eb_base.specs.declared.width.Width.TheVariants.{W32}
use Rattle.eb_base.specs.Field.{octets_of}
use Rattle.eb_codec.specs.declared.short.ShortRecord.{ShortRecord}
use Rattle.wb_signals.specs.declared.answer.Answer.{Answer}
use Rattle.eb_session.specs.Replies.{answer_word, reply_flags}

-- One write of the word read to the base of the reply, where its read was given this answer on a bus of 32 bits.
abbrev pub short_reply : ShortRecord → Answer → List ℕ
short_reply s read = reply_flags s.flags ∷ 15 ∷ 1 ∷ 0 ∷ (octets_of W32 s.return_base ++ octets_of W32 (answer_word W32 W32 s.address 15 read))
