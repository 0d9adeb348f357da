-- A release is the event of a watched bus.
use Rattle.std.proofs.Common.{sym, ap, ◌∙◌, subst}
use Rattle.soc_core.specs.Built.{fabric_of}
use Rattle.soc_core.specs.Core.{released, CanRelease}
use Rattle.soc_core.specs.Events.{Release}
use Rattle.soc_sim.specs.Watched.{WatchedState}
use Rattle.soc_sim.proofs.WatchedLemmas.{release_leads, event_inside, with_core}
use Rattle.soc_sim.proofs.watched.WatchedBus.release.Goals as goal

pub invariant_of-self : goal.invariant_of-self
invariant_of-self g c =
    let b = c.self.inside.bus in
    let w = c.self.inside.wave in
    let next = c.release.new.self in
    let can = subst (λ (s : WatchedState). CanRelease (fabric_of s.description) s.core c.args.m) (sym c.self.view_is) c.requires.can in
    event_inside (Release c.args.m c.args.cut) b next w c.release.ensures.description (release_leads b next w c.args.m c.args.cut can c.release.ensures.released) c.self.invariant

pub returns : goal.returns
returns g c =
    let b = c.self.inside.bus in
    let w = c.self.inside.wave in
    record {
      released = with_core b c.release.new.self w (released b.core c.args.m c.args.cut) c.release.ensures.description c.release.ensures.released
          ∙ ap (λ (s : WatchedState). record s { core = released s.core c.args.m c.args.cut }) c.self.view_is;
    }
