-- A session from its beginning on, and how it ends.
use Rattle.std.specs.Prelude.{◌≡◌, ℕ, ◌<◌, ◌≤◌, List, [], ◌∷◌, ◌++◌, length, take, map, All, Option, None, Ok, Err}
use Rattle.eb_base.specs.declared.width.Widths.{Widths}
use Rattle.eb_codec.specs.declared.item.Header.{Header}
use Rattle.eb_codec.specs.declared.item.Record.{Record}
use Rattle.eb_codec.specs.Stream.{StreamItem, Recorded, Spells, SpellsAll, IsPartial, AreItems, IsFirstBad, header_after_all, HasNoBad}
use Rattle.wb_signals.specs.Cycles.{MasterCycles, Asks}
use Rattle.wb_signals.specs.History.{Entry, marked, requests_of, answers_of, given}
use Rattle.wb_signals.specs.declared.answer.Answer.{Answer}
use Rattle.eb_session.specs.declared.slave.Slave.{Slave}
use Rattle.eb_session.specs.declared.session.Fed.{Fed}
use Rattle.eb_session.specs.declared.session.End.{End}
use Rattle.eb_session.specs.declared.session.End.TheVariants as end
use Rattle.eb_session.specs.Cycles.{cycles_in, item_ops, item_ends, count_from, Fit}
use Rattle.eb_session.specs.Configuration.{register}
use Rattle.eb_session.specs.Replies.{sets_of, item_reply, replies}
use Rattle.eb_session.specs.Keeping.{SessionState, FeedsSession, Finishes, new_session}

-- A session so far: what its master told when the session was new, and since then the octets that were taken, the items that
-- ran, the entries that the master added, and the replies joined.
pub record SoFar : Type 0 where
  pub first : MasterCycles
  pub octets : List ℕ
  pub items : List StreamItem
  pub entries : List Entry
  pub replied : List ℕ

-- It went on by these octets and replies, and these are its items and entries then.
abbrev pub gone_on : SoFar → List ℕ → List StreamItem → List Entry → List ℕ → SoFar
gone_on so octets items entries replied = record so { octets = so.octets ++ octets; items = items; entries = entries; replied = so.replied ++ replied }

-- The answers that the master gave since then, those of the open cycle last.
abbrev pub answers_in : SoFar → MasterCycles → List Answer
answers_in so now = given so.entries ++ answers_of now.opened

-- A session that runs is in this state, and its master, whose number is m, tells this now: its items are those of its octets,
-- its entries and open pairs the cycles of these items, and its replies and register those of the answers.
pub record IsOn (m : ℕ) (so : SoFar) (state : SessionState) (now : MasterCycles) : Type 0 where
  pub running : state.ending ≡ None
  pub sets : state.progress.sets ≡ sets_of state.slave.bus
  pub front : (a : List ℕ) × (so.octets ≡ a ++ state.progress.pending) × SpellsAll (sets_of state.slave.bus) None so.items a
  pub partial : IsPartial (sets_of state.slave.bus) (header_after_all None so.items) state.progress.pending
  pub start : state.progress.start ≡ length front.0
  pub header : state.progress.header ≡ header_after_all None so.items
  pub none_open : so.first.opened ≡ []
  pub made : now.made ≡ so.first.made ++ so.entries
  pub mine : All (λ e. e.master ≡ m) so.entries
  pub whole : map marked so.entries ≡ (cycles_in state.slave.bus so.items).whole
  pub opened : requests_of now.opened ≡ (cycles_in state.slave.bus so.items).opened
  pub count : length (answers_in so now) ≡ count_from state.slave.bus None so.items
  pub errors : state.errors ≡ register 0 (answers_in so now)
  pub replied : so.replied ≡ replies state.slave so.items (answers_in so now)

-- From one moment to another these octets were taken and these replies given: a session that was on its course is on it still.
abbrev pub Goes : ℕ → SessionState → MasterCycles → List ℕ → List ℕ → SessionState → MasterCycles → Type 0
Goes m old before taken replied new after = (so : SoFar) → IsOn m so old before
    → (items : List StreamItem) × (entries : List Entry) × IsOn m (gone_on so taken items entries replied) new after

-- How a stream ended of which these octets were read and these items ran: Clean and Truncated at the stream's end, all its
-- items having run and no octet being bad; Malformed at the first bad octet, all items before it having run; NoMemory before
-- a whole record asked the bus, all items before it having run.
abbrev pub EndsBy : Slave → List ℕ → List StreamItem → End → Type 0
EndsBy s octets items end.Clean = AreItems (sets_of s.bus) None octets items [] × HasNoBad (sets_of s.bus) octets
EndsBy s octets items (end.Truncated n) = (rest : List ℕ) × (n ≡ length rest) × (0 < n) × AreItems (sets_of s.bus) None octets items rest × HasNoBad (sets_of s.bus) octets
EndsBy s octets items (end.Malformed p why) = (rest : List ℕ) × AreItems (sets_of s.bus) None octets items rest × IsFirstBad (sets_of s.bus) None octets p why
EndsBy s octets items end.NoMemory = (r : Record) × (front rest : List ℕ) × (octets ≡ front ++ rest) × SpellsAll (sets_of s.bus) None (items ++ Recorded r ∷ []) front
    × Asks (cycles_in s.bus items).opened (item_ops s.bus (header_after_all None items) (Recorded r)) (item_ends (Recorded r))

-- A session ended so, of which all is told: its master has no open cycle, the entries fit the items that ran and are the
-- master's own, and the replies and the error register are those of the answers.
pub record HasEnded (m : ℕ) (s : Slave) (so : SoFar) (after : MasterCycles) (errors : ℕ) (e : End) : Type 0 where
  pub ends : EndsBy s so.octets so.items e
  pub none_open : after.opened ≡ []
  pub made : after.made ≡ so.first.made ++ so.entries
  pub mine : All (λ x. x.master ≡ m) so.entries
  pub fit : Fit s.bus so.items so.entries
  pub replied : so.replied ≡ replies s so.items (given so.entries)
  pub register_is : errors ≡ register 0 (given so.entries)

-- A new session whose master has no open cycle is on its course with nothing taken.
abbrev pub Begins : Type 0
Begins = (m : ℕ) (s : Slave) (now : MasterCycles) → now.opened ≡ []
    → IsOn m (record { first = now; octets = []; items = []; entries = []; replied = [] }) (new_session s) now

-- Each call of feed that doesn't end the session keeps it on its course.
abbrev pub FedGoes : Type 0
FedGoes = (m : ℕ) (old new : SessionState) (piece : List ℕ) (before after : MasterCycles) (fed : Fed) → FeedsSession m old piece new before after (Ok fed)
    → Goes m old before (take fed.taken piece) new.reply new after

-- While a session runs, the items that ran are those of the octets that it took, and no octet is bad.
abbrev pub RunsAll : Type 0
RunsAll = (m : ℕ) (so : SoFar) (state : SessionState) (now : MasterCycles) → IsOn m so state now
    → AreItems (sets_of state.slave.bus) None so.octets so.items state.progress.pending × HasNoBad (sets_of state.slave.bus) so.octets

-- What the end of the stream ends.
abbrev pub FinishEnds : Type 0
FinishEnds = (m : ℕ) (so : SoFar) (old new : SessionState) (before after : MasterCycles) (e : End) → IsOn m so old before → Finishes m old new before after e
    → (entries : List Entry) × HasEnded m old.slave (record so { entries = entries }) after new.errors e

-- What a piece ends.
abbrev pub FedEnds : Type 0
FedEnds = (m : ℕ) (so : SoFar) (old new : SessionState) (piece : List ℕ) (before after : MasterCycles) (e : End) → IsOn m so old before → FeedsSession m old piece new before after (Err e)
    → (entries : List Entry) × HasEnded m old.slave (record so { octets = so.octets ++ piece; entries = entries }) after new.errors e

-- A reply is never longer than its request.
abbrev pub IsShort : Type 0
IsShort = (s : Slave) (sets : Widths) (header : Option Header) (x : StreamItem) (octets : List ℕ) (answers : List Answer) (errors : ℕ) → Spells sets header x octets → length (item_reply s header x answers errors) ≤ length octets
