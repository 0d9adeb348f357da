-- The laws of a watched bus.
use Rattle.std.specs.Prelude.{◌≡◌, ◌<◌, ℕ, false, List, [], ◌∷◌, ◌++◌}
use Rattle.wb_signals.specs.History.{Entry}
use Rattle.soc_core.specs.Fabric.{Fabric, IsFabric}
use Rattle.soc_core.specs.Core.{Wants, Core, IsTick, port, granted_from, built_core}
use Rattle.soc_core.specs.Events.{Event, Raise, Load, Take, Release, Tick, Leads}
use Rattle.wb_signals.specs.Wave.{WaveRowState}
use Rattle.soc_wave.specs.Rows.{no_port, column, last_port}
use Rattle.soc_wave.specs.Arbitration.{Granting}
use Rattle.soc_wave.specs.Pairs.{rises_from, AreEntriesOf}
use Rattle.soc_wave.specs.Legal.{IsLegalWave}
use Rattle.soc_wave.specs.Shown.{row_of}

-- A bus that is watched: its core, the rows so far, and the grants of their clocks.
pub record Watched : Type 0 where
  pub core : Core
  pub rows : List WaveRowState
  pub grants : List Granting

abbrev pub watched_from : Core → Watched
watched_from core = record { core = core; rows = []; grants = [] }

-- A tick adds the row of the ports after its grants.
pub record AddsRow (f : Fabric) (old new : Watched) : Type 0 where
  pub tick : IsTick f old.core new.core
  pub rows : new.rows ≡ old.rows ++ row_of f (granted_from tick.grant 0 old.core.ports) ∷ []
  pub grants : new.grants ≡ old.grants ++ record { ports = tick.grant; first = tick.first } ∷ []

-- The other events add none.
pub record AddsNone (old new : Watched) : Type 0 where
  pub rows : new.rows ≡ old.rows
  pub grants : new.grants ≡ old.grants

abbrev pub LeadsWatched : Fabric → Event → Watched → Watched → Type 0
LeadsWatched f (Raise m set) old new = Leads f (Raise m set) old.core new.core × AddsNone old new
LeadsWatched f (Load m ops) old new = Leads f (Load m ops) old.core new.core × AddsNone old new
LeadsWatched f (Take m) old new = Leads f (Take m) old.core new.core × AddsNone old new
LeadsWatched f (Release m cut) old new = Leads f (Release m cut) old.core new.core × AddsNone old new
LeadsWatched f Tick old new = AddsRow f old new

-- Where CYC is to rise in the next row, the set named for this rise is the one that the port has raised.
abbrev pub NamesRaised : Fabric → (ℕ → ℕ → ℕ) → Watched → Type 0
NamesRaised f named w = (m set : ℕ) → m < f.ports → (port w.core m).phase ≡ Wants set → (last_port (column m w.rows)).cyc ≡ false
    → named m (rises_from no_port (column m w.rows)) ≡ set

abbrev pub NamesIn : Fabric → (ℕ → ℕ → ℕ) → Event → Watched → Type 0
NamesIn f named (Raise m set) w = Unit {0}
NamesIn f named (Load m ops) w = Unit {0}
NamesIn f named (Take m) w = Unit {0}
NamesIn f named (Release m cut) w = Unit {0}
NamesIn f named Tick w = NamesRaised f named w

-- Events of a watched bus, one after the other, with the sets that its ports raise named.
abbrev pub LeadAllWatched : Fabric → (ℕ → ℕ → ℕ) → List Event → Watched → Watched → Type 0
LeadAllWatched f named [] old new = new ≡ old
LeadAllWatched f named (e ∷ events) old new = (mid : Watched) × NamesIn f named e old × LeadsWatched f e old mid × LeadAllWatched f named events mid new

-- The journal begins with the entries of the cycles that rose and fell in the rows. The others were released since the last
-- tick.
pub record ShowsJournal (f : Fabric) (w : Watched) : Type 0 where
  pub shown : List Entry
  pub unshown : List Entry
  pub whole : w.core.journal ≡ shown ++ unshown
  pub entries : AreEntriesOf f.ports [] w.rows shown

-- The rows that ticks add while a bus is watched from its first clock on are a legal wave for the sets raised, and the
-- journal's entries are those of its cycles in the order of their releases.
abbrev pub WatchedIsLegal : Type 0
WatchedIsLegal = (f : Fabric) → IsFabric f → (named : ℕ → ℕ → ℕ) (events : List Event) (new : Watched) → LeadAllWatched f named events (watched_from (built_core f)) new
    → IsLegalWave f named new.grants new.rows × ShowsJournal f new

-- Events of a watched bus, whatever sets its ports raise.
abbrev pub LeadAllFreely : Fabric → List Event → Watched → Watched → Type 0
LeadAllFreely f [] old new = new ≡ old
LeadAllFreely f (e ∷ events) old new = (mid : Watched) × LeadsWatched f e old mid × LeadAllFreely f events mid new

-- For each run there are names of the sets that its ports raise.
abbrev pub RisesHaveNames : Type 0
RisesHaveNames = (f : Fabric) → IsFabric f → (events : List Event) (new : Watched) → LeadAllFreely f events (watched_from (built_core f)) new
    → (named : ℕ → ℕ → ℕ) × LeadAllWatched f named events (watched_from (built_core f)) new
