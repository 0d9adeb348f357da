-- What a door tells, and what an accept makes of it.
use Rattle.std.specs.Prelude.{◌≡◌, ℕ, List, [], ◌∷◌, ◌++◌, None, Some, IfSome}
use Rattle.std.specs.Option.{option_map}
use Rattle.std.specs.declared.option.Option.{Option}
use Rattle.eb_io.specs.Counts.{Rose}
use Rattle.eb_io.specs.Reading.{Reading}
use Rattle.eb_io.specs.Writing.{Writing, Told, Nothing, Count, Octets}
use Rattle.eb_net.specs.declared.door.Accepted.{Accepted}
use Rattle.eb_net.specs.declared.door.Accepted.TheVariants as accepted

-- Counts of failed reads and writes.
pub record Faults : Type 0 where
  pub reads : ℕ
  pub writes : ℕ

-- What a door tells of a connection: the octets given and left on it, what was written on it, and the counts when it began.
pub record Connection : Type 0 where
  pub given : Option (List ℕ)
  pub left : Option (List ℕ)
  pub written : Told
  pub began : Faults

-- What a door tells beside the reads and writes of the connection that stands: the octets of each link that is left, the
-- connections before this one, the counts when this one began, and how often an accept failed.
pub record Accepting : Type 0 where
  pub links : Option (List (List ℕ))
  pub earlier : Option (List Connection)
  pub began : Option Faults
  pub faults : ℕ

-- All that a door tells: the reads and writes of the connection that stands, and its accepts.
pub record DoorState : Type 0 where
  pub reading : Reading
  pub writing : Writing
  pub accepting : Accepting

-- The door's counts of failed reads and writes.
abbrev pub faults_at : DoorState → Faults
faults_at door = record { reads = door.reading.faults; writes = door.writing.faults }

-- The connection that stands, which began at these counts; none before the first.
abbrev pub standing_since : DoorState → Option Faults → List Connection
standing_since door None = []
standing_since door (Some began) = record { given = door.reading.given; left = door.reading.left; written = door.writing.written; began = began } ∷ []

-- All connections so far, in order, the one that stands as the last.
abbrev pub connections : DoorState → Option (List Connection)
connections door = option_map (λ earlier. earlier ++ standing_since door door.accepting.began) door.accepting.earlier

-- nothing was written, as far as it is told
abbrev pub IsUnwritten : Told → Type 0
IsUnwritten Nothing = Unit {0}
IsUnwritten (Count n) = n ≡ 0
IsUnwritten (Octets octets) = octets ≡ []

-- A connection was opened, over the first of the links left: nothing was given or written on it yet. The one that stood
-- before is one of the earlier ones now.
pub record OpenedLink (old new : DoorState) : Type 0 where
  pub octets : List ℕ
  pub links : old.accepting.links ≡ option_map (λ more. octets ∷ more) new.accepting.links
  pub left : IfSome new.reading.left (λ left. left ≡ octets)
  pub given : IfSome new.reading.given (λ given. given ≡ [])
  pub written : IsUnwritten new.writing.written
  pub earlier : new.accepting.earlier ≡ connections old
  pub began : new.accepting.began ≡ option_map (λ _. faults_at old) new.accepting.earlier
  pub counts : faults_at new ≡ faults_at old
  pub faults : new.accepting.faults ≡ old.accepting.faults

-- No link is left, and nothing changed.
pub record NoLinkLeft (old new : DoorState) : Type 0 where
  pub links : old.accepting.links ≡ Some []
  pub same : new ≡ old

-- An accept failed: the count of faults says so, and nothing else changed.
pub record AcceptFailed (old new : DoorState) : Type 0 where
  pub reading : new.reading ≡ old.reading
  pub writing : new.writing ≡ old.writing
  pub links : new.accepting.links ≡ old.accepting.links
  pub earlier : new.accepting.earlier ≡ old.accepting.earlier
  pub began : new.accepting.began ≡ old.accepting.began
  pub rose : Rose old.accepting.faults new.accepting.faults

-- What an accept did, by its answer.
abbrev pub Accepts : DoorState → DoorState → Accepted → Type 0
Accepts old new accepted.Open = OpenedLink old new
Accepts old new accepted.Closed = NoLinkLeft old new
Accepts old new accepted.Failed = AcceptFailed old new
