-- A take is the event of a watched bus.
use Rattle.std.proofs.Common.{sym, ap, ◌∙◌, subst}
use Rattle.soc_core.specs.Built.{fabric_of}
use Rattle.soc_core.specs.Core.{taken, CanTake}
use Rattle.soc_core.specs.Events.{Take}
use Rattle.soc_sim.specs.Watched.{WatchedState}
use Rattle.soc_sim.proofs.WatchedLemmas.{take_leads, event_inside, with_core}
use Rattle.soc_sim.proofs.watched.WatchedBus.take.Goals as goal

pub invariant_of-self : goal.invariant_of-self
invariant_of-self g c =
    let b = c.self.inside.bus in
    let w = c.self.inside.wave in
    let next = c.take.new.self in
    let can = subst (λ (s : WatchedState). CanTake (fabric_of s.description) s.core c.args.m) (sym c.self.view_is) c.requires.can in
    event_inside (Take c.args.m) b next w c.take.ensures.description (take_leads b next w c.args.m can c.take.ensures.taken) c.self.invariant

pub returns : goal.returns
returns g c =
    let b = c.self.inside.bus in
    let w = c.self.inside.wave in
    record {
      taken = with_core b c.take.new.self w (taken b.core c.args.m) c.take.ensures.description c.take.ensures.taken ∙ ap (λ (s : WatchedState). record s { core = taken s.core c.args.m }) c.self.view_is;
    }
