-- What a session keeps, and what one call makes of it.
use Rattle.std.specs.Prelude.{◌≡◌, ◌↔◌, ℕ, ◌+◌, ◌<◌, ◌≤◌, Bool, true, false, List, [], ◌∷◌, ◌++◌, length, take, Option, Some, None, Result, Ok, Err, MatchOption, IsSome}
use Rattle.eb_codec.specs.declared.item.Record.{Record}
use Rattle.eb_codec.specs.declared.item.Why.{Why}
use Rattle.eb_codec.specs.declared.event.Item.{Item}
use Rattle.eb_codec.specs.declared.event.Item.TheVariants as item
use Rattle.eb_codec.specs.Form.{FitsProbe}
use Rattle.eb_codec.specs.Decoding.{DecoderState, fresh, after_item, record_in, Refuses}
use Rattle.eb_codec.specs.Stream.{StreamItem, Recorded, Spells, IsPartial, IsBadOctet}
use Rattle.wb_signals.specs.Cycles.{MasterCycles, Asks, paired, pairs_added, cycle_ended}
use Rattle.wb_signals.specs.declared.answer.Answer.{Answer}
use Rattle.eb_session.specs.declared.slave.Slave.{Slave}
use Rattle.eb_session.specs.declared.session.End.{End}
use Rattle.eb_session.specs.declared.session.End.TheVariants as end
use Rattle.eb_session.specs.declared.session.Fed.{Fed}
use Rattle.eb_session.specs.Cycles.{item_ops, item_ends}
use Rattle.eb_session.specs.Configuration.{register}
use Rattle.eb_session.specs.Replies.{sets_of, item_reply, probe_reply, header_reply}

-- A session: its slave, how far its decoder is in the stream, the error register, the reply to the item that the last call
-- ended, and how it ended. Whether a cycle is open its master tells.
pub record SessionState : Type 0 where
  pub slave : Slave
  pub progress : DecoderState
  pub errors : ℕ
  pub reply : List ℕ
  pub ending : Option End

-- A new one.
abbrev pub new_session : Slave → SessionState
new_session s = record { slave = s; progress = fresh (sets_of s.bus); errors = 0; reply = []; ending = None }

-- An item of these octets ended and ran: the master gave its operations these answers.
pub record Ran (m : ℕ) (old new : SessionState) (octets : List ℕ) (before after : MasterCycles) (x : StreamItem) (answers : List Answer) : Type 0 where
  pub spelled : Spells old.progress.sets old.progress.header x octets
  pub progress : new.progress ≡ after_item old.progress x octets
  pub answered : length answers ≡ length (item_ops old.slave.bus old.progress.header x)
  pub added : after ≡ pairs_added m before (paired (item_ops old.slave.bus old.progress.header x) answers) (item_ends x)
  pub errors : new.errors ≡ register old.errors answers
  pub reply : new.reply ≡ item_reply old.slave old.progress.header x answers old.errors
  pub others : (new.slave ≡ old.slave) × (new.ending ≡ old.ending)

-- Less than an item pends, and nothing ran.
pub record Waits (old new : SessionState) (octets : List ℕ) (before after : MasterCycles) : Type 0 where
  pub pends : IsPartial old.progress.sets old.progress.header octets
  pub kept : new ≡ record old { progress = record old.progress { pending = octets; shown = None }; reply = [] }
  pub same : after ≡ before

-- The session ended so, and its open cycle was cut.
pub record Closed (m : ℕ) (old new : SessionState) (before after : MasterCycles) (e : End) : Type 0 where
  pub ending : new.ending ≡ Some e
  pub kept : (new.slave ≡ old.slave) × (new.errors ≡ old.errors) × (new.reply ≡ [])
  pub cut : after ≡ cycle_ended m true before

-- The octets begin with a whole record, for which the master is asked.
abbrev pub HasAsking : SessionState → List ℕ → MasterCycles → Type 0
HasAsking old octets before = (r : Record) × (front rest : List ℕ) × (octets ≡ front ++ rest) × Spells old.progress.sets old.progress.header (Recorded r) front
    × Asks before.opened (item_ops old.slave.bus old.progress.header (Recorded r)) (item_ends (Recorded r))

-- Why a piece ended a session: its decoder refused it, or the master had no memory for a whole record that asked it, of which
-- nothing ran.
abbrev pub EndsFor : SessionState → List ℕ → MasterCycles → End → Type 0
EndsFor old piece before (end.Malformed place why) = (new : DecoderState) × Refuses old.progress piece (record { place = place; why = why }) new
EndsFor old piece before end.NoMemory = HasAsking old (old.progress.pending ++ piece) before
EndsFor old piece before e = ⊥

-- What was made of a piece of which so many octets were taken: one item ran, or all were taken and less than one pends.
abbrev pub FedItem : ℕ → SessionState → List ℕ → SessionState → MasterCycles → MasterCycles → ℕ → Bool → Type 0
FedItem m old piece new before after taken true = (taken ≤ length piece) × (x : StreamItem) × (answers : List Answer)
    × Ran m old new (old.progress.pending ++ take taken piece) before after x answers
FedItem m old piece new before after taken false = (taken ≡ length piece) × Waits old new (old.progress.pending ++ piece) before after

-- A piece that is fed to a session which runs.
abbrev pub Answers : ℕ → SessionState → List ℕ → SessionState → MasterCycles → MasterCycles → Result Fed End → Type 0
Answers m old piece new before after (Ok fed) = FedItem m old piece new before after fed.taken fed.item
Answers m old piece new before after (Err e) = EndsFor old piece before e × Closed m old new before after e

-- A session that has ended stays as it is.
pub record Stays (old new : SessionState) (before after : MasterCycles) : Type 0 where
  pub kept : new ≡ record old { reply = [] }
  pub same : after ≡ before

-- A piece that is fed to a session, whose master has the number m.
abbrev pub FeedsSession : ℕ → SessionState → List ℕ → SessionState → MasterCycles → MasterCycles → Result Fed End → Type 0
FeedsSession m old piece new before after answer = MatchOption old.ending
    (Answers m old piece new before after answer)
    (λ e. (answer ≡ Err e) × Stays old new before after)

-- A session that runs is ended as malformed exactly where what pends and the piece have a bad octet, at its place in the
-- stream and by its rule.
abbrev pub MalformedExactly : SessionState → List ℕ → Result Fed End → Type 0
MalformedExactly old piece answer = (p : ℕ) (why : Why) → old.ending ≡ None
    → (answer ≡ Err (end.Malformed (old.progress.start + p) why)) ↔ IsBadOctet old.progress.sets old.progress.header (old.progress.pending ++ piece) p why

-- how many octets of its stream a session took
abbrev pub octets_taken : SessionState → ℕ
octets_taken session = session.progress.start + length session.progress.pending

-- Where a session stands in its stream after a call that took some of so many octets.
pub record Advances (old new : SessionState) (len : ℕ) (fed : Fed) : Type 0 where
  pub within : fed.taken ≤ len
  pub moves : 0 < len → 0 < fed.taken
  pub place : octets_taken new ≡ octets_taken old + fed.taken

-- how a stream ends where these octets pend
abbrev pub finished : List ℕ → End
finished [] = end.Clean
finished (o ∷ os) = end.Truncated (length (o ∷ os))

-- A session at its stream's end.
abbrev pub Finishes : ℕ → SessionState → SessionState → MasterCycles → MasterCycles → End → Type 0
Finishes m old new before after answer = MatchOption old.ending
    ((answer ≡ finished old.progress.pending) × Closed m old new before after answer)
    (λ e. (answer ≡ e) × Stays old new before after)

-- ---- the steps of one call, between which the decoder has the item's octets and the item has not run

-- The decoder just gave this: a probe whose id fits its field, or a record, which it shows.
abbrev pub WasGiven : Item → DecoderState → Type 0
WasGiven item.NotYet p = Unit {0}
WasGiven (item.Probe probe) p = FitsProbe probe
WasGiven (item.Header h) p = Unit {0}
WasGiven (item.Record head) p = IsSome p.shown

-- The record that the decoder just gave ran, its operations having been given these answers, and is replied to.
pub record RecordRan (m : ℕ) (old new : SessionState) (before after : MasterCycles) (r : Record) (answers : List Answer) : Type 0 where
  pub answered : length answers ≡ length (item_ops old.slave.bus old.progress.header (Recorded r))
  pub added : after ≡ pairs_added m before (paired (item_ops old.slave.bus old.progress.header (Recorded r)) answers) (item_ends (Recorded r))
  pub session : new ≡ record old { errors = register old.errors answers; reply = item_reply old.slave old.progress.header (Recorded r) answers old.errors }

-- What the decoder just gave ran.
abbrev pub ItemRan : ℕ → SessionState → SessionState → MasterCycles → MasterCycles → Item → Type 0
ItemRan m old new before after item.NotYet = (new ≡ old) × (after ≡ before)
ItemRan m old new before after (item.Probe p) = (new ≡ record old { reply = probe_reply old.slave p }) × (after ≡ before)
ItemRan m old new before after (item.Header h) = (new ≡ record old { reply = header_reply h }) × (after ≡ before)
ItemRan m old new before after (item.Record head) = (answers : List Answer) × RecordRan m old new before after (record_in old.progress.shown) answers

-- The master had no memory for the record that the decoder just gave, and nothing ran.
pub record Unrun (old new : SessionState) (before after : MasterCycles) : Type 0 where
  pub kept : new ≡ old
  pub same : after ≡ before
  pub asked : Asks before.opened (item_ops old.slave.bus old.progress.header (Recorded (record_in old.progress.shown))) (item_ends (Recorded (record_in old.progress.shown)))

abbrev pub ItemUnrun : SessionState → SessionState → MasterCycles → MasterCycles → Item → Type 0
ItemUnrun old new before after (item.Record head) = Unrun old new before after
ItemUnrun old new before after i = ⊥

-- whether the decoder gave an item
abbrev pub is_item : Item → Bool
is_item item.NotYet = false
is_item i = true
