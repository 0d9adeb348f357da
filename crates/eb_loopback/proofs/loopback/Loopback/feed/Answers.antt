use Rattle.std.proofs.Common.{◌≡◌, ◌++◌, ℕ, List, length, drop, ap, ◌∙◌, arith, length-append}
use lib.Seq.{drop-append-le}
use Rattle.eb_loopback.proofs.JoinedLemmas.{joined_taken, joined_ended, joined_counted}
use Rattle.eb_loopback.proofs.loopback.Loopback.feed.Goals as goal

pub invariant_of-self-in-Ok : goal.invariant_of-self-in-Ok
invariant_of-self-in-Ok g c =
    let at = c.self.inside.at in
    let old = c.self.inside.replies.items in
    let within = c.self.invariant.0 in
    let items : c.put.new.out.items ≡ old ++ c.feed.new.self.reply =
    c.put.ensures.items ∙ ap (λ (l : List ℕ). l ++ c.reply.result.now) c.reserve.ensures.items ∙ ap (λ (l : List ℕ). old ++ l) c.reply.ensures.reply in
    let unread : drop at c.put.new.out.items ≡ drop at old ++ c.feed.new.self.reply = ap (λ (l : List ℕ). drop at l) items ∙ drop-append-le at old c.feed.new.self.reply within in (
      omega (arith, within, ap length items, length-append old c.feed.new.self.reply),
      omega (arith, c.self.invariant.1, c.in-Ok.ensures.placed.place),
      joined_taken g.M.Master.identity g.M.Master.cycles _ c.feed.new.self c.feed.new.master c.args.piece.now c.push_all.new.trail (drop at c.put.new.out.items) c.in-Ok.fed c.self.invariant.2
          c.in-Ok.ensures.fed c.in-Ok.ensures.running c.in-Ok.ensures.slave c.in-Ok.ensures.identity c.push_all.ensures.items unread,
      λ none. c.in-Ok.ensures.running,
    )

pub invariant_of-self-in-Err : goal.invariant_of-self-in-Err
invariant_of-self-in-Err g c =
    let joined = joined_ended g.M.Master.identity g.M.Master.cycles _ c.feed.new.self c.feed.new.master c.args.piece.now (drop c.self.inside.at c.reserve.new.self.items) c.in-Err.field-0 c.self.invariant.2
    c.in-Err.ensures.fed c.in-Err.ensures.slave c.in-Err.ensures.identity (ap (λ (l : List ℕ). drop c.self.inside.at l) c.reserve.ensures.items) in (
      omega (arith, c.self.invariant.0, ap length c.reserve.ensures.items),
      omega (arith, c.self.invariant.1, c.in-Err.ensures.bound),
      joined_counted g.M.Master.identity g.M.Master.cycles _ c.saturating_add-self-inside.result joined,
      λ none. absurd (omega (arith, none)),
    )
