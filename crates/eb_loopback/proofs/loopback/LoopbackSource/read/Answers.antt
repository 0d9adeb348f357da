use Rattle.std.proofs.Common.{◌≡◌, ◌++◌, ◌+◌, ◌-◌, ◌≤◌, ℕ, List, length, drop, take, sym, ap, ◌∙◌, arith, length-drop}
use Rattle.std.proofs.lemmas.List.{drop-drop}
use Rattle.eb_loopback.proofs.JoinedLemmas.{joined_read, copied}
use Rattle.eb_loopback.proofs.loopback.LoopbackSource.read.Goals as goal

pub invariant_of-self : goal.invariant_of-self
invariant_of-self g c =
    let at = c.self.inside.at in
    let old = c.self.inside.replies.items in
    let n = c.min-count.result in
    let within : n ≤ length (drop at old) = omega (arith, length-drop at old) in
    let count : at + n - at ≡ n = omega arith in
    let front = copied n (at + n - at) c.copy_from_slice.new.self (drop at old) (drop n c.args.room.now) count (c.copy_from_slice.ensures.after ∙ ap (λ (l : List ℕ). take (at + n - at) (drop at l)) c.deref.ensures.value) within in (
      c.forget_read-self-inside.ensures.within,
      c.self.invariant.1,
      joined_read g.M.Master.identity g.M.Master.cycles _ n c.push_all.new.trail (drop c.forget_read-self-inside.result c.forget_read-self-inside.new.replies.items) c.self.invariant.2
          (c.push_all.ensures.items ∙ ap (λ (l : List ℕ). c.self.inside.read ++ l) front) (c.forget_read-self-inside.ensures.unread ∙ sym (drop-drop n at old)),
      c.self.invariant.3,
    )
