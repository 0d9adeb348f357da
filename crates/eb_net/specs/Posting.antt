-- What a post tells, and what a receive and a send make of it.
use Rattle.std.specs.Prelude.{◌≡◌, ℕ, ◌≤◌, List, [], ◌∷◌, ◌++◌, Some, length, take}
use Rattle.std.specs.Option.{option_map}
use Rattle.std.specs.declared.option.Option.{Option}
use Rattle.eb_io.specs.Counts.{Rose}
use Rattle.eb_net.specs.Accepting.{Faults}
use Rattle.eb_io.specs.declared.source.Got.{Got}
use Rattle.eb_io.specs.declared.source.Got.TheVariants as got
use Rattle.eb_io.specs.declared.sink.Put.{Put}
use Rattle.eb_io.specs.declared.sink.Put.TheVariants as put

-- A datagram that was received, and the counts of failed reads and writes then.
pub record Datagram : Type 0 where
  pub octets : List ℕ
  pub at : Faults

-- What a post tells: the datagrams received so far, those left and those sent, where it tells them, and how often a
-- receive and a send failed.
pub record Posting : Type 0 where
  pub received : Option (List Datagram)
  pub left : Option (List (List ℕ))
  pub sent : Option (List (List ℕ))
  pub faults : Faults

-- the most octets of a datagram
abbrev pub most_of_datagram : ℕ
most_of_datagram = 65507

-- The next datagram was received: these octets.
pub record Received (old new : Posting) (octets : List ℕ) : Type 0 where
  pub next : old.left ≡ option_map (λ more. octets ∷ more) new.left
  pub received : new.received ≡ option_map (λ before. before ++ record { octets = octets; at = old.faults } ∷ []) old.received
  pub sent : new.sent ≡ old.sent
  pub faults : new.faults ≡ old.faults

-- No datagram is left, and nothing changed.
pub record NoDatagramLeft (old new : Posting) : Type 0 where
  pub left : old.left ≡ Some []
  pub same : new ≡ old

-- A receive failed: the count says so, and nothing else changed.
pub record ReceiveFailed (old new : Posting) : Type 0 where
  pub left : new.left ≡ old.left
  pub received : new.received ≡ old.received
  pub sent : new.sent ≡ old.sent
  pub writes : new.faults.writes ≡ old.faults.writes
  pub rose : Rose old.faults.reads new.faults.reads

-- What a receive did, by its answer. The datagram stands at the front of the room.
abbrev pub Receives : Posting → Posting → List ℕ → Got → Type 0
Receives old new room (got.Some n) = (n ≤ length room) × (n ≤ most_of_datagram) × Received old new (take n room)
Receives old new room got.End = NoDatagramLeft old new
Receives old new room got.Failed = ReceiveFailed old new

-- The piece went out as one datagram.
pub record Sent (old new : Posting) (octets : List ℕ) : Type 0 where
  pub sent : new.sent ≡ option_map (λ before. before ++ octets ∷ []) old.sent
  pub received : new.received ≡ old.received
  pub left : new.left ≡ old.left
  pub faults : new.faults ≡ old.faults

-- A send failed: the count says so, and nothing else changed.
pub record SendFailed (old new : Posting) : Type 0 where
  pub left : new.left ≡ old.left
  pub received : new.received ≡ old.received
  pub sent : new.sent ≡ old.sent
  pub reads : new.faults.reads ≡ old.faults.reads
  pub rose : Rose old.faults.writes new.faults.writes

-- What a send of this piece did, by its answer.
abbrev pub Sends : Posting → Posting → List ℕ → Put → Type 0
Sends old new piece (put.Some n) = (n ≡ length piece) × Sent old new piece
Sends old new piece put.Failed = SendFailed old new
