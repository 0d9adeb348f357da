-- How a port serves its connections, one after another.
use Rattle.std.specs.Prelude.{◌≡◌, ◌⊎◌, ℕ, ◌<◌, ◌≤◌, List, [], ◌∷◌, Bool, true, false, length}
use Rattle.eb_io.specs.Reading.{Reading}
use Rattle.eb_io.specs.Writing.{Writing}
use Rattle.eb_net.specs.Accepting.{Accepting, DoorState, OpenedLink, NoLinkLeft, AcceptFailed}
use Rattle.wb_signals.specs.Cycles.{MasterCycles}
use Rattle.eb_session.specs.declared.slave.Slave.{Slave}
use Rattle.eb_server.specs.declared.ending.Ending.{Ending}
use Rattle.eb_server.specs.declared.ending.Ending.TheVariants as ending
use Rattle.eb_server.specs.Serving.{Served}
use Rattle.eb_ports.specs.Ends.{EndsState}

-- All that a door tells: the reads and writes of the link that stands at it, and its accepts.
abbrev pub door_told : {D L : Type 0} → (L → Reading) → (L → Writing) → (D → L) → (D → Accepting) → D → DoorState
door_told reading writing standing accepting door = record { reading = reading (standing door); writing = writing (standing door); accepting = accepting door }

-- The stream of the connection that stands was served, by a master of the number m.
pub record ServedStanding (m : ℕ) (s : Slave) (old new : DoorState) (first after : MasterCycles) (e : Ending) : Type 0 where
  pub accepting : new.accepting ≡ old.accepting
  pub served : Served m s first after old.reading new.reading old.writing new.writing e

-- There was no memory for its session: nothing was read or written, and nothing ran.
pub record RefusedStanding (old new : DoorState) (first after : MasterCycles) (e : Ending) : Type 0 where
  pub door : new ≡ old
  pub cycles : after ≡ first
  pub ending : e ≡ ending.NoMemory

-- What was done with the connection that stands.
abbrev pub WasServed : ℕ → Slave → DoorState → DoorState → MasterCycles → MasterCycles → Ending → Type 0
WasServed m s old new first after e = ServedStanding m s old new first after e ⊎ RefusedStanding old new first after e

-- The door opened a connection, which was served and ended so.
pub record ServedConnection (m : ℕ) (s : Slave) (old new : DoorState) (first after : MasterCycles) (e : Ending) : Type 0 where
  pub opened : DoorState
  pub accept : OpenedLink old opened
  pub served : WasServed m s opened new first after e

-- Connections, one after another, by their endings.
abbrev pub ServedConnections : ℕ → Slave → DoorState → DoorState → MasterCycles → MasterCycles → List Ending → Type 0
ServedConnections m s old new first after [] = (new ≡ old) × (after ≡ first)
ServedConnections m s old new first after (e ∷ endings) = (mid : DoorState) × (between : MasterCycles) × ServedConnection m s old mid first between e × ServedConnections m s mid new between after endings

-- Where a port stopped after n connections of those that were asked for, and whether its door failed: it served all of them; or
-- fewer, and then no link was left or an accept failed.
abbrev pub StopsAt : ℕ → ℕ → DoorState → DoorState → Bool → Type 0
StopsAt count n old new true = (n < count) × AcceptFailed old new
StopsAt count n old new false = ((n ≡ count) × (new ≡ old)) ⊎ ((n < count) × NoLinkLeft old new)

-- No ending yet and no failure, and room for so many endings.
pub record AwaitsEndings (count : ℕ) (ends : EndsState) : Type 0 where
  pub none : ends.endings ≡ []
  pub sound : ends.door_failed ≡ false
  pub room : count ≤ ends.most

-- A port was asked to serve so many connections, and served those that ended so.
pub record ServedPort (m : ℕ) (s : Slave) (count : ℕ) (old new : DoorState) (first after : MasterCycles) (ends : EndsState) : Type 0 where
  pub last : DoorState
  pub connections : ServedConnections m s old last first after ends.endings
  pub stops : StopsAt count (length ends.endings) last new ends.door_failed
