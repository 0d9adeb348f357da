use Rattle.std.proofs.Common.{◌≡◌, ℕ, List, [], ◌++◌, length, ap, ◌∙◌, arith}
use Rattle.eb_codec.specs.declared.flags.TheConstants.{CYC}
use Rattle.eb_codec.specs.declared.item.Header.{Header}
use Rattle.eb_codec.specs.declared.item.Record.{Record}
use Rattle.wb_signals.specs.declared.answer.Answer.{Answer}
use Rattle.wb_signals.specs.Request.{Request}
use Rattle.eb_codec.specs.Rules.{has}
use Rattle.eb_session.specs.declared.slave.Slave.{Slave}
use Rattle.eb_session.specs.Operations.{record_ops, answered_to, ends_cycle}
use Rattle.eb_session.specs.Replies.{record_reply}
use Rattle.eb_session.specs.Configuration.{register}
use Rattle.eb_session.specs.Inside.{state_in}
use Rattle.eb_session.specs.Keeping.{SessionState}
use Rattle.eb_session.proofs.ReplyLemmas.{enough, taken, reply_same}
use Rattle.eb_session.proofs.FeedLemmas.{record_ran}
use Rattle.eb_session.proofs.session.Session.run_record.Goals as goal

pub put_reply-requires-clause-answers : goal.put_reply-requires-clause-answers
put_reply-requires-clause-answers g c = enough c.self.inside.slave.bus c.record-record.result.header c.record-record.result.item c.deref.result.now (g.M.Master.answered c.run_ops.new.master)
    (c.deref.ensures.value ∙ c.put_ops.ensures.items) c.in_ok-run_ops.ensures.answers

pub returns-clause-ran : goal.returns-clause-ran
returns-clause-ran g c =
    let s : Slave = c.self.inside.slave in
    let h : Header = c.record-record.result.header in
    let r : Record = c.record-record.result.item in
    let ops : List Request = c.deref.result.now in
    let told : List Answer = g.M.Master.answered c.run_ops.new.master in
    let answers : List Answer = answered_to ops told in
    let is : ops ≡ record_ops s.bus h r = c.deref.ensures.value ∙ c.put_ops.ensures.items in
    let count : c.len.result ≡ length ops = omega (arith, c.len.ensures, c.deref.ensures.len) in
    let errors : c.shifted-self-inside.result ≡ register c.self.inside.errors answers =
    c.shifted-self-inside.ensures.value ∙ ap (register c.self.inside.errors) (taken ops told c.len.result count c.in_ok-run_ops.ensures.answers) in
    let empty : c.self.inside.reply.items ≡ [] = ap (λ (k : SessionState). k.reply) c.self.view_is ∙ c.requires.empty in
    let reply : c.put_reply.new.reply.items ≡ record_reply s h r answers (register c.self.inside.errors answers) =
    c.put_reply.ensures.items ∙ ap (λ (l : List ℕ). l ++ record_reply s h r told c.shifted-self-inside.result) empty
    ∙ ap (λ (e : ℕ). record_reply s h r told e) errors ∙ reply_same s.bus s h r ops told (register c.self.inside.errors answers) is in
    let last : c.is_last.result ≡ ends_cycle r = c.is_last.ensures.value ∙ ap (λ t. has t.flags CYC) c.head.ensures.value in
    record_ran (g.M.Master.identity c.args.master.now).number (state_in c.self.inside) c.args.self.now h r (g.M.Master.cycles c.args.master.now) (g.M.Master.cycles c.run_ops.new.master) ops answers
    c.shifted-self-inside.result c.put_reply.new.reply.items c.is_last.result c.self.view_is c.record-record.ensures.header c.record-record.ensures.value is c.in_ok-run_ops.ensures.answers last c.in_ok-run_ops.ensures.ran errors reply
