-- The rows are a legal wave.
use Rattle.std.proofs.Common.{subst}
use Rattle.soc_sim.specs.Watched.{IsWatched}
use Rattle.soc_sim.proofs.WatchedLemmas.{state_of, is_watched}
use Rattle.soc_sim.proofs.watched.WatchedBus.wave.Goals as goal

pub returns-clause-watched : goal.returns-clause-watched
returns-clause-watched g c =
    subst IsWatched c.self.view_is (is_watched (state_of c.self.inside.bus c.self.inside.wave) c.journal.ensures.kept.fabric c.self.invariant.2)
