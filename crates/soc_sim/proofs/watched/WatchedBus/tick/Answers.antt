-- A tick adds its row.
use Rattle.std.proofs.Common.{◌-◌, ap, ◌∙◌, subst}
use Rattle.soc_core.specs.Events.{Tick}
use Rattle.soc_wave.specs.Flat.{WaveState}
use Rattle.soc_sim.specs.Watched.{WatchedState, LeadsOn}
use Rattle.soc_sim.proofs.WatchedLemmas.{state_of, tick_leads, tick_inside}
use Rattle.soc_sim.proofs.watched.WatchedBus.tick.Goals as goal

pub invariant_of-self : goal.invariant_of-self
invariant_of-self g c =
    tick_inside c.self.inside.bus c.add_tick.new.bus c.self.inside.wave c.add_tick.new.wave (record { ports = c.add_tick.new.rows; holders = c.add_tick.new.holders })
    c.add_tick.ensures.description c.add_tick.ensures.shows c.add_tick.ensures.added c.self.invariant

pub returns-clause-tick : goal.returns-clause-tick
returns-clause-tick g c =
    subst (λ (s : WatchedState). LeadsOn Tick s (state_of c.add_tick.new.bus c.add_tick.new.wave)) c.self.view_is
    (tick_leads c.self.inside.bus c.add_tick.new.bus c.self.inside.wave c.add_tick.new.wave (record { ports = c.add_tick.new.rows; holders = c.add_tick.new.holders })
    c.add_tick.ensures.shows (ap (λ (w : WaveState). w.rows) c.add_tick.ensures.added))

pub returns-clause-spare : goal.returns-clause-spare
returns-clause-spare g c = ap (λ (w : WaveState). w.spare) c.add_tick.ensures.added ∙ ap (λ (s : WatchedState). s.spare - 1) c.self.view_is
