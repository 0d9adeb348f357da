-- What a reader over a host tells, and what its reads do.
use Rattle.std.specs.Prelude.{◌≡◌, ℕ, List, [], ◌∷◌, Result, Ok, Err, Option, Some, false}
use Rattle.eb_base.specs.declared.width.Width.TheVariants.{W32}
use Rattle.eb_io.specs.Reading.{Reading}
use Rattle.eb_io.specs.Writing.{Writing}
use Rattle.sdb_walk.specs.Told.{Word}
use Rattle.sdb_walk.specs.declared.reader.Exchange.{Exchange}
use Rattle.sdb_walk.specs.declared.reader.NoWord.TheVariants.{BusError, Cause}
use Rattle.eb_host.specs.declared.host.Host.{Host}
use Rattle.eb_host.specs.declared.op.HostAnswer.{HostAnswer}
use Rattle.eb_host.specs.declared.op.HostAnswer.TheVariants.{Done, Error}
use Rattle.eb_host.specs.declared.op.HostFault.{HostFault}
use Rattle.eb_host.specs.Host.{HostState, RunsCycle, alone}
use Rattle.eb_host.specs.View.{link_of, sent_header, host_state}

-- A reader as contracts see it: its host as it was when the reader was made and as it is, and all that was asked and answered.
pub record ReaderState (L : Type 0) : Type 0 where
  pub began : Host L
  pub host : Host L
  pub asked : List (Exchange HostFault)

abbrev pub reader_of : {L : Type 0} → Host L → Host L → List (Exchange HostFault) → ReaderState L
reader_of began host asked = record { began = began; host = host; asked = asked }

-- a new one
abbrev pub new_reader : {L : Type 0} → Host L → ReaderState L
new_reader host = reader_of host host []

-- all that was asked
abbrev pub told_of : {L : Type 0} → ReaderState L → Option (List (Exchange HostFault))
told_of reader = Some reader.asked

-- the host with which it began
abbrev pub began_with : {L : Type 0} → ReaderState L → Host L
began_with reader = reader.began

-- the word of a host's answer
abbrev pub word_in : Result HostAnswer HostFault → Word HostFault
word_in (Ok (Done word)) = Ok word
word_in (Ok Error) = Err BusError
word_in (Err f) = Err (Cause f)

-- The host read at the address, as a cycle of its own, and its answer is the word.
abbrev pub ReadsWord : HostState → HostState → ℕ → Word HostFault → Type 0
ReadsWord old new adr word = (answer : Result HostAnswer HostFault) × RunsCycle old new (record { write = false; adr = adr; dat = 0 } ∷ []) (alone answer) × (word ≡ word_in answer)

-- The host read these words, one after another.
abbrev pub ReadsAll : HostState → List (Exchange HostFault) → HostState → Type 0
ReadsAll old [] new = old ≡ new
ReadsAll old (x ∷ xs) new = (mid : HostState) × ReadsWord old mid x.adr x.word × ReadsAll mid xs new

-- What holds of a reader after any reads: its host has a port of 32 bits, it read what was asked since the reader was made, and
-- at the other end of its link is who was there then.
pub record HasReadWords {L E : Type 0} (reading : L → Reading) (writing : L → Writing) (other_end : L → E) (reader : ReaderState L) : Type 0 where
  pub port : (sent_header reader.host).port ≡ W32
  pub reads : ReadsAll (host_state reading writing reader.began) reader.asked (host_state reading writing reader.host)
  pub same_end : other_end (link_of reader.host) ≡ other_end (link_of reader.began)
