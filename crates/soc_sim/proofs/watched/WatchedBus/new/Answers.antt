-- A bus that is watched from its first clock on.
use Rattle.std.proofs.Common.{ap, ◌∙◌}
use Rattle.soc_wave.specs.Flat.{WaveState}
use Rattle.soc_sim.proofs.WatchedLemmas.{state_of, watched_first}
use Rattle.soc_sim.proofs.watched.WatchedBus.new.Goals as goal

pub invariant_of-result : goal.invariant_of-result
invariant_of-result g c = (
  ap (λ (w : WaveState). w.ports) c.new.ensures.empty ∙ c.masters-masters.ensures.masters,
  ap (λ (w : WaveState). w.slaves) c.new.ensures.empty ∙ c.slaves_of-slaves.ensures.slaves,
  watched_first (state_of c.args.bus c.new.result) c.requires.built (ap (λ (w : WaveState). w.rows) c.new.ensures.empty),
)
