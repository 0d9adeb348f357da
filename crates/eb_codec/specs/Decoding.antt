-- What a decoder keeps of a stream, and what one call makes of a piece.
use Rattle.std.specs.Prelude.{◌≡◌, ◌↔◌, ℕ, ◌+◌, ◌-◌, ◌<◌, ◌≤◌, List, [], ◌++◌, length, take, Option, Some, None, Result, Ok, Err, MatchOption, MatchResult, IsSome}
use Rattle.eb_base.specs.declared.width.Widths.{Widths}
use Rattle.eb_codec.specs.declared.item.Header.{Header}
use Rattle.eb_codec.specs.declared.item.Record.{Record}
use Rattle.eb_codec.specs.declared.item.Why.{Why}
use Rattle.eb_codec.specs.declared.event.Item.{Item}
use Rattle.eb_codec.specs.declared.event.Item.TheVariants as item
use Rattle.eb_codec.specs.declared.event.Step.{Step}
use Rattle.eb_codec.specs.declared.event.Malformed.{Malformed}
use Rattle.eb_codec.specs.Stream.{StreamItem, Probed, Headed, Recorded, Spells, IsPartial, IsBadOctet, header_after}

-- A decoder: the slave's sets of widths, the header once it came, the index of the first octet that belongs to no whole
-- item, the octets from there on, the record that the last call gave, and what was wrong.
pub record DecoderState : Type 0 where
  pub sets : Widths
  pub header : Option Header
  pub start : ℕ
  pub pending : List ℕ
  pub shown : Option Record
  pub fault : Option Malformed

-- at the start of a stream
abbrev pub fresh : Widths → DecoderState
fresh sets = record { sets = sets; header = None; start = 0; pending = []; shown = None; fault = None }

-- the record that is shown, one of zeros and no numbers where none is
abbrev pub record_in : Option Record → Record
record_in None = record { head = record { flags = 0; enable = 0; writes = 0; reads = 0 }; write_base = 0; values = []; return_base = 0; addresses = [] }
record_in (Some r) = r

-- what a step tells of an item
abbrev pub told : StreamItem → Item
told (Probed p) = item.Probe p
told (Headed h) = item.Header h
told (Recorded r) = item.Record r.head

-- what is shown of an item
abbrev pub shown_of : StreamItem → Option Record
shown_of (Recorded r) = Some r
shown_of _ = None

-- the decoder behind an item of these octets
abbrev pub after_item : DecoderState → StreamItem → List ℕ → DecoderState
after_item old x octets = record old { header = header_after old.header x; start = old.start + length octets; pending = []; shown = shown_of x }

-- The octets that pended and those that were taken are this, and the decoder goes on so.
abbrev pub Gives : DecoderState → List ℕ → Item → DecoderState → Type 0
Gives old octets item.NotYet new = IsPartial old.sets old.header octets × (new ≡ record old { pending = octets; shown = None })
Gives old octets (item.Probe p) new = Spells old.sets old.header (Probed p) octets × (new ≡ after_item old (Probed p) octets)
Gives old octets (item.Header h) new = Spells old.sets old.header (Headed h) octets × (new ≡ after_item old (Headed h) octets)
Gives old octets (item.Record head) new = (r : Record) × (r.head ≡ head) × Spells old.sets old.header (Recorded r) octets × (new ≡ after_item old (Recorded r) octets)

-- Where nothing is whole all of the piece is taken, however long it is, and else no more than there is.
abbrev pub TakesAll : Item → ℕ → ℕ → Type 0
TakesAll item.NotYet taken len = taken ≡ len
TakesAll _ taken len = taken ≤ len

-- The piece was taken up to the end of one item.
pub record Takes (old : DecoderState) (piece : List ℕ) (step : Step) (new : DecoderState) : Type 0 where
  pub taken : TakesAll step.item step.taken (length piece)
  pub moves : 0 < length piece → 0 < step.taken
  pub gives : Gives old (old.pending ++ take step.taken piece) step.item new

-- The first bad octet of the item is among what pended and the piece. The fault names its index in the stream and stays.
pub record Refuses (old : DecoderState) (piece : List ℕ) (fault : Malformed) (new : DecoderState) : Type 0 where
  pub at : (p : ℕ) × (fault.place ≡ old.start + p) × IsBadOctet old.sets old.header (old.pending ++ piece) p fault.why
  pub after : new ≡ record old { pending = []; shown = None; fault = Some fault }

-- One call. What was wrong once is answered again, and nothing changes.
abbrev pub Feeds : DecoderState → List ℕ → Result Step Malformed → DecoderState → Type 0
Feeds old piece answer new = MatchOption old.fault
    (MatchResult answer (λ step. Takes old piece step new) (λ fault. Refuses old piece fault new))
    (λ fault. (answer ≡ Err fault) × (new ≡ old))

-- Where a decoder stands after a step: so many octets of the piece further, no more than there are, and some where
-- there are some.
pub record Stands (old new : DecoderState) (len : ℕ) (step : Step) : Type 0 where
  pub within : step.taken ≤ len
  pub at : new.start + length new.pending ≡ old.start + length old.pending + step.taken
  pub moves : 0 < len → 0 < step.taken

-- A record that was given is shown, with as many numbers as its head says.
abbrev pub Shows : Item → DecoderState → Type 0
Shows (item.Record head) new = IsSome new.shown × ((record_in new.shown).head ≡ head)
    × (length (record_in new.shown).values ≡ head.writes) × (length (record_in new.shown).addresses ≡ head.reads)
Shows _ new = new.shown ≡ None

-- ---- when a call gives each answer

-- An item that pends in part and whose other octets then come is given, whatever follows it.
abbrev pub GivesSpelled : Type 0
GivesSpelled = (old new : DecoderState) (piece octets rest : List ℕ) (answer : Result Step Malformed) (x : StreamItem) → old.fault ≡ None → Feeds old piece answer new
    → Spells old.sets old.header x octets → old.pending ++ piece ≡ octets ++ rest → length old.pending < length octets
    → (answer ≡ Ok (record { taken = length octets - length old.pending; item = told x })) × Gives old octets (told x) new × (new ≡ after_item old x octets)

-- Nothing is given exactly where less than an item pends.
abbrev pub NotYetExactly : Type 0
NotYetExactly = (old new : DecoderState) (piece : List ℕ) (answer : Result Step Malformed) → old.fault ≡ None → Feeds old piece answer new
    → (answer ≡ Ok (record { taken = length piece; item = item.NotYet })) ↔ IsPartial old.sets old.header (old.pending ++ piece)

-- A stream is refused exactly where what pends and the piece have a bad octet, by its index in the stream and its rule.
abbrev pub RefusesExactly : Type 0
RefusesExactly = (old new : DecoderState) (piece : List ℕ) (answer : Result Step Malformed) (p : ℕ) (why : Why) → old.fault ≡ None → Feeds old piece answer new
    → (answer ≡ Err (record { place = old.start + p; why = why })) ↔ IsBadOctet old.sets old.header (old.pending ++ piece) p why
