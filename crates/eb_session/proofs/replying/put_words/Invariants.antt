use Rattle.std.proofs.Common.{◌≡◌, ◌≤◌, ◌+◌, ◌*◌, ◌++◌, vec_len, vec_capacity}
use Rattle.std.specs.List.{flat_map}
use Rattle.eb_codec.specs.Sizes.{field_octets}
use Rattle.eb_codec.specs.Form.{zeroed, field}
use Rattle.eb_session.specs.Operations.{upto}
use Rattle.eb_session.specs.Replies.{read_word}
use Rattle.eb_session.proofs.replying.put_words.Given as goal

abbrev pub invariant-loop-i : goal.invariant-loop-i
invariant-loop-i g l =
    (l.reply.items ≡ l.initial.reply.items ++ zeroed (flat_map (field l.view.header l.view.header.port) (upto l.i (read_word l.slave l.view.header l.view.item (g.M.Master.answered l.master) l.errors))))
    × (vec_len l.reply ≡ vec_len l.initial.reply + field_octets l.view.header * l.i) × (vec_capacity l.initial.reply ≤ vec_capacity l.reply)
