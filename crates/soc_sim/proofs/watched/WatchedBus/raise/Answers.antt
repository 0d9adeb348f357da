-- A raise is the event of a watched bus.
use Rattle.std.proofs.Common.{sym, ap, ◌∙◌, subst}
use Rattle.std.proofs.lemmas.Result.{on_ok_weaker, on_err_weaker}
use Rattle.soc_core.specs.Built.{fabric_of}
use Rattle.soc_core.specs.Core.{raised, CanRaise}
use Rattle.soc_core.specs.Events.{Raise}
use Rattle.soc_sim.specs.Watched.{WatchedState}
use Rattle.soc_sim.proofs.WatchedLemmas.{raise_leads, event_inside, still_inside, either_inside, with_core}
use Rattle.soc_sim.proofs.watched.WatchedBus.raise.Goals as goal

pub invariant_of-self : goal.invariant_of-self
invariant_of-self g c =
    let b = c.self.inside.bus in
    let w = c.self.inside.wave in
    let next = c.raise.new.self in
    let can = subst (λ (s : WatchedState). CanRaise (fabric_of s.description) s.core c.args.m c.args.set.0) (sym c.self.view_is) c.requires.can in
    either_inside c.raise.result b next w c.raise.ensures.ok c.raise.ensures.err
    (λ is. event_inside (Raise c.args.m c.args.set.0) b next w c.raise.ensures.description (raise_leads b next w c.args.m c.args.set.0 can is) c.self.invariant)
    (λ is. still_inside b next w c.raise.ensures.description is c.self.invariant)

pub returns-clause-ok : goal.returns-clause-ok
returns-clause-ok g c =
    let b = c.self.inside.bus in
    let w = c.self.inside.wave in
    let next = c.raise.new.self in
    on_ok_weaker c.raise.result (λ is. with_core b next w (raised b.core c.args.m c.args.set.0) c.raise.ensures.description is
    ∙ ap (λ (s : WatchedState). record s { core = raised s.core c.args.m c.args.set.0 }) c.self.view_is) c.raise.ensures.ok

pub returns-clause-err : goal.returns-clause-err
returns-clause-err g c =
    let b = c.self.inside.bus in
    let w = c.self.inside.wave in
    let next = c.raise.new.self in
    on_err_weaker c.raise.result (λ is. with_core b next w b.core c.raise.ensures.description is ∙ c.self.view_is) c.raise.ensures.err
