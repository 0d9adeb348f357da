use Rattle.std.proofs.Common.{◌≡◌, List, ℕ, ◌++◌, sym, ap, ◌∙◌, subst, arith}
use Rattle.std.specs.List.{flat_map}
use Rattle.eb_codec.specs.declared.item.Header.{Header}
use Rattle.eb_codec.specs.declared.item.RecordHead.{RecordHead}
use Rattle.eb_codec.specs.Form.{zeroed, field}
use Rattle.eb_session.specs.Operations.{upto}
use Rattle.eb_session.specs.Replies.{read_word, record_reply}
use Rattle.eb_session.proofs.ReplyLemmas.{words_reply}
use Rattle.eb_session.proofs.replying.put_answers.Goals as goal

pub returns-clause-items : goal.returns-clause-items
returns-clause-items g c =
    let v = c.args.view.now in
    let h : Header = c.header-header.result in
    let head : RecordHead = c.head-head.result in
    let answers = g.M.Master.answered c.args.master.now in
    let mid : List ℕ = c.put_field.new.out.items in
    let words : c.put_words.new.reply.items ≡ mid ++ zeroed (flat_map (field v.header v.header.port) (upto head.reads (read_word c.args.slave v.header v.item answers c.args.errors))) =
    subst (λ (t : RecordHead). c.put_words.new.reply.items ≡ mid ++ zeroed (flat_map (field v.header v.header.port) (upto t.reads (read_word c.args.slave v.header v.item answers c.args.errors)))) (sym c.head-head.ensures.value) c.put_words.ensures.items in
    let words' : c.put_words.new.reply.items ≡ mid ++ zeroed (flat_map (field h h.port) (upto head.reads (read_word c.args.slave h v.item answers c.args.errors))) =
    subst (λ (k : Header). c.put_words.new.reply.items ≡ mid ++ zeroed (flat_map (field k k.port) (upto head.reads (read_word c.args.slave k v.item answers c.args.errors)))) (sym c.header-header.ensures.value) words in
    subst (λ (k : Header). c.put_zeros-2.new.out.items ≡ c.args.reply.now.items ++ record_reply c.args.slave k v.item answers c.args.errors) c.header-header.ensures.value
    (words_reply c.args.slave h v.item head answers c.args.errors c.args.reply.now.items c.put.new.out.items c.put_zeros.new.out.items mid c.put_words.new.reply.items c.put_zeros-2.new.out.items
    c.flags_of.result c.unit_len.result c.trailing.result (sym c.head-head.ensures.value) (omega (arith, c.if-head-eq0.false)) c.flags_of.ensures.value c.unit_len.ensures.value c.trailing.ensures.value
    c.put.ensures.items c.put_zeros.ensures.items (c.put_field.ensures.items ∙ ap (λ n. c.put_zeros.new.out.items ++ zeroed (field h h.address n)) c.return_base.ensures.value) words' c.put_zeros-2.ensures.items)
