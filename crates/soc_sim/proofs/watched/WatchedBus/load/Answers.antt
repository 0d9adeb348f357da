-- A load is the event of a watched bus.
use Rattle.std.proofs.Common.{sym, ap, ◌∙◌, subst}
use Rattle.std.proofs.lemmas.Result.{on_ok_weaker, on_err_weaker}
use Rattle.soc_core.specs.Built.{fabric_of}
use Rattle.soc_core.specs.Core.{loaded, CanLoad}
use Rattle.soc_core.specs.Events.{Load}
use Rattle.soc_sim.specs.Watched.{WatchedState}
use Rattle.soc_sim.proofs.WatchedLemmas.{load_leads, event_inside, still_inside, either_inside, with_core}
use Rattle.soc_sim.proofs.watched.WatchedBus.load.Goals as goal

pub invariant_of-self : goal.invariant_of-self
invariant_of-self g c =
    let b = c.self.inside.bus in
    let w = c.self.inside.wave in
    let next = c.load.new.self in
    let can = subst (λ (s : WatchedState). CanLoad (fabric_of s.description) s.core c.args.m c.args.ops.now) (sym c.self.view_is) c.requires.can in
    either_inside c.load.result b next w c.load.ensures.ok c.load.ensures.err
    (λ is. event_inside (Load c.args.m c.args.ops.now) b next w c.load.ensures.description (load_leads b next w c.args.m c.args.ops.now can is) c.self.invariant)
    (λ is. still_inside b next w c.load.ensures.description is c.self.invariant)

pub returns-clause-ok : goal.returns-clause-ok
returns-clause-ok g c =
    let b = c.self.inside.bus in
    let w = c.self.inside.wave in
    let next = c.load.new.self in
    on_ok_weaker c.load.result (λ is. with_core b next w (loaded b.core c.args.m c.args.ops.now) c.load.ensures.description is
    ∙ ap (λ (s : WatchedState). record s { core = loaded s.core c.args.m c.args.ops.now }) c.self.view_is) c.load.ensures.ok

pub returns-clause-err : goal.returns-clause-err
returns-clause-err g c =
    let b = c.self.inside.bus in
    let w = c.self.inside.wave in
    let next = c.load.new.self in
    on_err_weaker c.load.result (λ is. with_core b next w b.core c.load.ensures.description is ∙ c.self.view_is) c.load.ensures.err
