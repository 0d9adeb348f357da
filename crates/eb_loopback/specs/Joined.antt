-- A session that is joined to a host in memory, from its beginning on.
use Rattle.std.specs.Prelude.{◌≡◌, ◌⊎◌, ℕ, min, List, [], ◌++◌, length, take, drop, Some, None, Ok, Err, MatchOption}
use Rattle.eb_io.specs.Reading.{Reading}
use Rattle.eb_io.specs.declared.source.Got.{Got}
use Rattle.eb_io.specs.declared.source.Got.TheVariants as got
use Rattle.eb_io.specs.Writing.{Writing, Octets}
use Rattle.eb_io.specs.declared.sink.Put.{Put}
use Rattle.eb_io.specs.declared.sink.Put.TheVariants as put
use Rattle.eb_codec.specs.Stream.{StreamItem}
use Rattle.wb_signals.specs.Cycles.{MasterCycles, Identity}
use Rattle.wb_signals.specs.History.{Entry}
use Rattle.eb_session.specs.declared.slave.Slave.{Slave}
use Rattle.eb_session.specs.declared.session.End.{End}
use Rattle.eb_session.specs.declared.session.Fed.{Fed}
use Rattle.eb_session.specs.Keeping.{SessionState, FeedsSession}
use Rattle.eb_session.specs.Course.{SoFar, IsOn, HasEnded}

-- A loopback link: its session, its master as it is and as it was when the link was made, the octets that were written to the
-- link, those that were read from it, the replies that are unread, and how many writes failed.
pub record LoopbackState (M : Type 0) : Type 0 where
  pub session : SessionState
  pub master : M
  pub first : M
  pub written : List ℕ
  pub read : List ℕ
  pub unread : List ℕ
  pub faults : ℕ

-- One of these parts.
abbrev pub loopback_of : {M : Type 0} → SessionState → M → M → List ℕ → List ℕ → List ℕ → ℕ → LoopbackState M
loopback_of session master first written read unread faults = record { session = session; master = master; first = first; written = written; read = read; unread = unread; faults = faults }

-- Who serves at the other end of it, which no call changes: the slave, and its master as it was when the link was made.
pub record Serving (M : Type 0) : Type 0 where
  pub slave : Slave
  pub first : M

abbrev pub serving_of : {M : Type 0} → LoopbackState M → Serving M
serving_of link = record { slave = link.session.slave; first = link.first }

-- A new one.
abbrev pub new_loopback : {M : Type 0} → SessionState → M → LoopbackState M
new_loopback session master = loopback_of session master master [] [] [] 0

-- What it tells of its reads. What it has left it doesn't tell, since a write makes more of it; no read fails.
abbrev pub loopback_reading : {M : Type 0} → LoopbackState M → Reading
loopback_reading link = record { given = Some link.read; left = None; faults = 0 }

-- what it tells of its writes
abbrev pub loopback_writing : {M : Type 0} → LoopbackState M → Writing
loopback_writing link = record { written = Octets link.written; faults = link.faults }

-- Its session since the link was made, of which these octets were taken: the replies were read or are unread.
abbrev pub so_far : {M : Type 0} → (M → MasterCycles) → LoopbackState M → List ℕ → List StreamItem → List Entry → SoFar
so_far cycles link octets items entries = record { first = cycles link.first; octets = octets; items = items; entries = entries; replied = link.read ++ link.unread }

-- Its session, whose master has the number m, runs: what was written is what it took.
abbrev pub IsServing : {M : Type 0} → (M → MasterCycles) → ℕ → LoopbackState M → Type 0
IsServing cycles m link = (items : List StreamItem) × (entries : List Entry) × IsOn m (so_far cycles link link.written items entries) link.session (cycles link.master)

-- It has ended so: a piece was fed to it behind what was written, and that write failed.
abbrev pub EndedIn : {M : Type 0} → (M → MasterCycles) → ℕ → LoopbackState M → End → Type 0
EndedIn cycles m link e = (piece : List ℕ) × (items : List StreamItem) × (entries : List Entry)
    × HasEnded m link.session.slave (so_far cycles link (link.written ++ piece) items entries) (cycles link.master) link.session.errors e

-- It runs, or has ended.
abbrev pub Serves : {M : Type 0} → (M → MasterCycles) → ℕ → LoopbackState M → Type 0
Serves cycles m link = MatchOption link.session.ending (IsServing cycles m link) (EndedIn cycles m link)

-- What holds of a loopback link after any calls: its master is the session's and is who it was at the beginning, and the
-- session runs or has ended.
pub record IsJoined {M K : Type 0} (identity : M → Identity K) (cycles : M → MasterCycles) (link : LoopbackState M) : Type 0 where
  pub bus : (identity link.master).bus ≡ link.session.slave.bus
  pub same : identity link.master ≡ identity link.first
  pub serves : Serves cycles (identity link.first).number link

-- Its session runs where no write failed.
abbrev pub RunsUnlessFailed : {M : Type 0} → LoopbackState M → Type 0
RunsUnlessFailed link = link.faults ≡ 0 → link.session.ending ≡ None

-- A read that gave so many replies.
abbrev pub after_read : {M : Type 0} → LoopbackState M → ℕ → LoopbackState M
after_read link n = record link { read = link.read ++ take n link.unread; unread = drop n link.unread }

-- What a read did, by its answer: it gives the first of the replies that are unread, as many as the room has place for, and none
-- where there are none.
abbrev pub GivesReplies : {M : Type 0} → LoopbackState M → LoopbackState M → List ℕ → Got → Type 0
GivesReplies old new room (got.Some n) = (n ≡ min (length room) (length old.unread)) × (take n room ≡ take n old.unread) × (new ≡ after_read old n)
GivesReplies old new room got.End = (old.unread ≡ []) × (new ≡ old)
GivesReplies old new room got.Failed = ⊥

-- A write that took so many octets of the piece: they were fed to the session, whose master has the number m, and its reply is
-- unread.
abbrev pub TakesPiece : {M : Type 0} → (M → MasterCycles) → ℕ → LoopbackState M → LoopbackState M → List ℕ → ℕ → Type 0
TakesPiece cycles m old new piece n = (fed : Fed) × (n ≡ fed.taken) × FeedsSession m old.session piece new.session (cycles old.master) (cycles new.master) (Ok fed)
    × (new ≡ record old { session = new.session; master = new.master; written = old.written ++ take n piece; unread = old.unread ++ new.session.reply })

-- A write that failed: nothing was fed to the session, or it ended in the piece or has ended before.
abbrev pub FailsPiece : {M : Type 0} → (M → MasterCycles) → ℕ → LoopbackState M → LoopbackState M → List ℕ → Type 0
FailsPiece cycles m old new piece = (new ≡ record old { faults = new.faults })
    ⊎ ((e : End) × FeedsSession m old.session piece new.session (cycles old.master) (cycles new.master) (Err e) × (new ≡ record old { session = new.session; master = new.master; faults = new.faults }))

-- What a write of this piece did, by its answer.
abbrev pub FeedsPiece : {M : Type 0} → (M → MasterCycles) → ℕ → LoopbackState M → LoopbackState M → List ℕ → Put → Type 0
FeedsPiece cycles m old new piece (put.Some n) = TakesPiece cycles m old new piece n
FeedsPiece cycles m old new piece put.Failed = FailsPiece cycles m old new piece
