use Rattle.std.proofs.Common.{◌≡◌, ◌++◌, sym, subst}
use Rattle.eb_base.specs.declared.width.Width.{Width}
use Rattle.eb_base.specs.declared.width.Width.TheVariants.{W32}
use Rattle.eb_codec.specs.Reading.{RecordBehind}
use Rattle.eb_session.specs.declared.slave.Slave.{Slave}
use Rattle.eb_session.specs.Replies.{record_reply}
use Rattle.eb_session.proofs.replying.put_reply.Goals as goal

pub returns-in-W32-Some-clause-items : goal.returns-in-W32-Some-clause-items
returns-in-W32-Some-clause-items g c =
    let a = c.args in
    let new = c.put_answers.new.reply.items in
    let answers = g.M.Master.answered a.master.now in
    let of : Width → Slave = λ bus. record { bus = bus; root = a.slave.root } in
    subst (λ (bus : Width). new ≡ a.reply.now.items ++ record_reply (of bus) a.view.now.header a.view.now.item answers a.errors) (sym c.in-W32-Some.is-0)
    (subst (λ (w : RecordBehind). new ≡ a.reply.now.items ++ record_reply (of W32) w.header w.item answers a.errors) c.in-W32-Some.ensures.same c.put_answers.ensures.items)
