-- How a post serves its datagrams, one after another.
use Rattle.std.specs.Prelude.{◌≡◌, ◌⊎◌, ℕ, ◌<◌, List, [], ◌∷◌, length}
use Rattle.eb_net.specs.Posting.{Posting, Received, ReceiveFailed, NoDatagramLeft, Sent, SendFailed}
use Rattle.eb_codec.specs.Stream.{StreamItem}
use Rattle.wb_signals.specs.Cycles.{MasterCycles}
use Rattle.wb_signals.specs.History.{Entry}
use Rattle.eb_session.specs.declared.session.End.{End}
use Rattle.eb_session.specs.declared.session.End.TheVariants as end
use Rattle.eb_session.specs.declared.slave.Slave.{Slave}
use Rattle.eb_session.specs.Course.{HasEnded}
use Rattle.eb_server.specs.declared.ending.Ending.{Ending}
use Rattle.eb_server.specs.declared.ending.Ending.TheVariants as ending
use Rattle.eb_server.specs.Serving.{ending_of}
use Rattle.eb_ports.specs.Ends.{EndsState, endings_added}

-- A new session, whose master of the number m told the first and then the other, took all these octets and ended so. These are
-- its replies.
pub record RanDatagram (m : ℕ) (s : Slave) (first after : MasterCycles) (octets replied : List ℕ) (e : End) : Type 0 where
  pub items : List StreamItem
  pub entries : List Entry
  pub errors : ℕ
  pub ended : HasEnded m s (record { first = first; octets = octets; items = items; entries = entries; replied = replied }) after errors e

-- The ending of a datagram whose session ended so and whose replies could not be sent: a fault where all else is clean.
abbrev pub unsent : End → Ending
unsent end.Clean = ending.WriteFault
unsent e = ending_of e

-- What went out of these replies, and how the datagram ended: nothing where there are none; else all of them as one datagram,
-- or the send failed.
abbrev pub GoesOut : Posting → Posting → List ℕ → End → Ending → Type 0
GoesOut old new [] e ended = (new ≡ old) × (ended ≡ ending_of e)
GoesOut old new (octet ∷ more) e ended = (Sent old new (octet ∷ more) × (ended ≡ ending_of e)) ⊎ (SendFailed old new × (ended ≡ unsent e))

-- A datagram of these octets was run by a session of its own, and its replies went out.
pub record AnsweredDatagram (m : ℕ) (s : Slave) (old new : Posting) (first after : MasterCycles) (octets : List ℕ) (ended : Ending) : Type 0 where
  pub replied : List ℕ
  pub e : End
  pub ran : RanDatagram m s first after octets replied e
  pub out : GoesOut old new replied e ended

-- There was no memory for its session: nothing ran or went out.
pub record RefusedDatagram (old new : Posting) (first after : MasterCycles) (ended : Ending) : Type 0 where
  pub posting : new ≡ old
  pub cycles : after ≡ first
  pub ending : ended ≡ ending.NoMemory

-- What was done with a datagram of these octets.
abbrev pub WasAnswered : ℕ → Slave → Posting → Posting → MasterCycles → MasterCycles → List ℕ → Ending → Type 0
WasAnswered m s old new first after octets ended = AnsweredDatagram m s old new first after octets ended ⊎ RefusedDatagram old new first after ended

-- The next datagram was received and answered.
pub record ReceivedDatagram (m : ℕ) (s : Slave) (old new : Posting) (first after : MasterCycles) (ended : Ending) : Type 0 where
  pub octets : List ℕ
  pub mid : Posting
  pub received : Received old mid octets
  pub answered : WasAnswered m s mid new first after octets ended

-- A receive failed, which counts as a datagram.
pub record MissedDatagram (old new : Posting) (first after : MasterCycles) (ended : Ending) : Type 0 where
  pub failed : ReceiveFailed old new
  pub cycles : after ≡ first
  pub ending : ended ≡ ending.ReadFault

-- One datagram, by its ending.
abbrev pub ServedDatagram : ℕ → Slave → Posting → Posting → MasterCycles → MasterCycles → Ending → Type 0
ServedDatagram m s old new first after ended = ReceivedDatagram m s old new first after ended ⊎ MissedDatagram old new first after ended

-- Datagrams, one after another, by their endings.
abbrev pub ServedDatagrams : ℕ → Slave → Posting → Posting → MasterCycles → MasterCycles → List Ending → Type 0
ServedDatagrams m s old new first after [] = (new ≡ old) × (after ≡ first)
ServedDatagrams m s old new first after (ended ∷ endings) = (mid : Posting) × (between : MasterCycles) × ServedDatagram m s old mid first between ended × ServedDatagrams m s mid new between after endings

-- Of so many datagrams that a post was asked to serve it served these: all of them, or fewer, and then none is left. Their
-- endings were added, one for each.
pub record ServedAll (m : ℕ) (s : Slave) (count : ℕ) (old new : Posting) (first after : MasterCycles) (ends ends' : EndsState) : Type 0 where
  pub endings : List Ending
  pub last : Posting
  pub datagrams : ServedDatagrams m s old last first after endings
  pub stops : ((length endings ≡ count) × (new ≡ last)) ⊎ ((length endings < count) × NoDatagramLeft last new)
  pub added : ends' ≡ endings_added ends endings

-- There was no memory for the rooms of a datagram: nothing was received, and one ending says so.
pub record ServedNone (old new : Posting) (first after : MasterCycles) (ends ends' : EndsState) : Type 0 where
  pub posting : new ≡ old
  pub cycles : after ≡ first
  pub added : ends' ≡ endings_added ends (ending.NoMemory ∷ [])

-- What serving so many datagrams of a post did.
abbrev pub ServedPost : ℕ → Slave → ℕ → Posting → Posting → MasterCycles → MasterCycles → EndsState → EndsState → Type 0
ServedPost m s count old new first after ends ends' = ServedAll m s count old new first after ends ends' ⊎ ServedNone old new first after ends ends'
