-- What contracts see of a watched bus.
use Rattle.std.specs.Prelude.{ℕ, List}
use Rattle.soc_desc.specs.declared.description.Description.{Description}
use Rattle.wb_signals.specs.Wave.{WaveRowState}
use Rattle.soc_core.specs.Core.{Core, built_core}
use Rattle.soc_core.specs.Built.{fabric_of}
use Rattle.soc_core.specs.Events.{Event}
use Rattle.soc_wave.specs.Arbitration.{Granting}
use Rattle.soc_wave.specs.Legal.{IsLegalWave}
use Rattle.soc_wave.specs.Laws.{Watched, LeadsWatched, LeadAllWatched, LeadAllFreely, ShowsJournal, watched_from}

-- The description that the bus was built from, its core, the rows of its clocks so far, and how many more there is room for.
pub record WatchedState : Type 0 where
  pub description : Description
  pub core : Core
  pub rows : List WaveRowState
  pub spare : ℕ

-- its core and rows, beside the grants of its clocks
abbrev pub with_grants : WatchedState → List Granting → Watched
with_grants w grants = record { core = w.core; rows = w.rows; grants = grants }

-- An event leads from one to the other: whatever the grants of the clocks before it are, there are those after it.
abbrev pub LeadsOn : Event → WatchedState → WatchedState → Type 0
LeadsOn e old new = (grants : List Granting) → (after : List Granting) × LeadsWatched (fabric_of old.description) e (with_grants old grants) (with_grants new after)

-- It has been watched since it was built: events led to it.
abbrev pub HasBeenWatched : WatchedState → Type 0
HasBeenWatched w = (events : List Event) × (grants : List Granting)
    × LeadAllFreely (fabric_of w.description) events (watched_from (built_core (fabric_of w.description))) (with_grants w grants)

-- Events led from the bus as it was built to this one, with the sets that its ports raised named and the grants of its clocks.
-- Its rows are a legal wave for these, and show its journal.
pub record IsWatched (w : WatchedState) : Type 0 where
  pub named : ℕ → ℕ → ℕ
  pub events : List Event
  pub grants : List Granting
  pub run : LeadAllWatched (fabric_of w.description) named events (watched_from (built_core (fabric_of w.description))) (with_grants w grants)
  pub legal : IsLegalWave (fabric_of w.description) named grants w.rows
  pub journal : ShowsJournal (fabric_of w.description) (with_grants w grants)
