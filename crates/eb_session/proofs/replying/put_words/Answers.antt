use Rattle.std.proofs.Common.{◌≡◌, ◌++◌, ap, subst, arith}
use Rattle.eb_codec.specs.declared.item.Header.{Header}
use Rattle.eb_codec.specs.Sizes.{field_octets}
use Rattle.eb_codec.specs.Form.{zeroed, field}
use Rattle.eb_session.specs.Replies.{read_word}
use Rattle.eb_session.proofs.ListLemmas.{one_more_word}
use Rattle.eb_session.proofs.replying.put_words.Goals as goal

pub loop-i-preserved : goal.loop-i-preserved
loop-i-preserved g c =
    let v = c.args.view.now in
    let same = c.header-header.ensures.value in
    let long : field_octets c.header-header.result ≡ field_octets v.header = ap field_octets same in
    let put = subst (λ (h : Header). c.put_field.new.out.items ≡ c.loop-i.reply.items ++ zeroed (field h h.port c.read-word.result)) same c.put_field.ensures.items in (
      one_more_word v.header v.header.port c.args.reply.now.items _ _ (read_word c.args.slave v.header v.item (g.M.Master.answered c.args.master.now) c.args.errors) c.loop-i.i _ c.loop-i.invariant.0 put c.read-word.ensures.value,
      omega (arith, c.loop-i.invariant.1, c.put_field.ensures.len, long),
      omega (arith, c.loop-i.invariant.2, c.put_field.ensures.capacity),
    )
