use Rattle.std.proofs.Common.{◌≡◌, ℕ, List, [], ◌++◌, ap, ◌∙◌}
use Rattle.wb_signals.specs.declared.answer.Answer.{Answer}
use Rattle.eb_session.specs.Inside.{state_in}
use Rattle.eb_session.specs.Keeping.{SessionState, Unrun}
use Rattle.eb_session.specs.Short.{short_reply}
use Rattle.eb_session.proofs.ShortRan.{short_ran, short_unrun, on_err}
use Rattle.eb_session.proofs.session.Session.run_short.Goals as goal

pub returns-in_err-run_ops-clause-unrun : goal.returns-in_err-run_ops-clause-unrun
returns-in_err-run_ops-clause-unrun g c =
    let r = c.requires in
    let before = g.M.Master.cycles c.args.master.now in
    let after = g.M.Master.cycles c.run_ops.new.master in
    let unrun = short_unrun c.args.self.now c.args.short r.bus r.header r.shown r.flags c.short_ops.result c.short_ops.ensures.items before after c.in_err-run_ops.ensures.unrun in
    on_err (Unrun c.args.self.now c.args.self.now before after) c.from_residual.result unrun

pub returns-clause-ran : goal.returns-clause-ran
returns-clause-ran g c =
    let r = c.requires in
    let a = c.self.inside in
    let told : List Answer = g.M.Master.answered c.run_ops.new.master in
    let empty : a.reply.items ≡ [] = ap (λ (k : SessionState). k.reply) c.self.view_is ∙ r.empty in
    let reply : c.put_short.new.reply.items ≡ short_reply c.args.short c.answer-read.result = c.put_short.ensures.items ∙ ap (λ (l : List ℕ). l ++ short_reply c.args.short c.answer-read.result) empty in
    short_ran c.args.self.now c.args.short r.bus r.header r.shown r.flags c.short_ops.result c.short_ops.ensures.items
    (g.M.Master.identity c.args.master.now).number (state_in a) (g.M.Master.cycles c.args.master.now) (g.M.Master.cycles c.run_ops.new.master) told c.answer-wrote.result c.answer-read.result c.shift.result c.shift-self-inside.result c.put_short.new.reply.items c.short_ends.result
    c.self.view_is c.in_ok-run_ops.ensures.answers c.in_ok-run_ops.ensures.ran c.short_ends.ensures.value c.answer-wrote.ensures.answer c.answer-read.ensures.answer c.shift.ensures.value c.shift-self-inside.ensures.value reply
