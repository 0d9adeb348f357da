-- Calls one after another, in whatever pieces.
use Rattle.std.specs.Prelude.{◌≡◌, ℕ, List, [], ◌∷◌, ◌++◌, length, take, map, None, Result, Ok, Err}
use Rattle.eb_base.specs.declared.width.Widths.{Widths}
use Rattle.eb_codec.specs.declared.item.Why.{Why}
use Rattle.eb_codec.specs.declared.event.Item.{Item}
use Rattle.eb_codec.specs.declared.event.Item.TheVariants as item
use Rattle.eb_codec.specs.declared.event.Step.{Step}
use Rattle.eb_codec.specs.declared.event.Malformed.{Malformed}
use Rattle.eb_codec.specs.Stream.{StreamItem, HaveWidths, SpellsAll, AreItems, IsPartial, IsFirstBad, header_after_all}
use Rattle.eb_codec.specs.Decoding.{DecoderState, fresh, told, Feeds}

-- the piece of a call and its answer
abbrev pub Call : Type 0
Call = List ℕ × Result Step Malformed

-- The calls lead from the one to the other.
abbrev pub Runs : DecoderState → List Call → DecoderState → Type 0
Runs old [] new = old ≡ new
Runs old (c ∷ calls) new = (mid : DecoderState) × Feeds old c.0 c.1 mid × Runs mid calls new

-- the octets that a call took
abbrev pub taken_by : List ℕ → Result Step Malformed → List ℕ
taken_by piece (Ok step) = take step.taken piece
taken_by piece (Err fault) = []

-- the octets that calls took
abbrev pub all_taken : List Call → List ℕ
all_taken [] = []
all_taken (c ∷ calls) = taken_by c.0 c.1 ++ all_taken calls

-- the item that a step tells, if any
abbrev pub item_told : Item → List Item
item_told item.NotYet = []
item_told i = i ∷ []

-- the items that calls told
abbrev pub items_told : List Call → List Item
items_told [] = []
items_told ((piece, Err fault) ∷ calls) = items_told calls
items_told ((piece, Ok step) ∷ calls) = item_told step.item ++ items_told calls

-- The decoder that took these octets and gave these items, whose spellings are the front of the octets.
pub record Reached (sets : Widths) (octets : List ℕ) (items : List StreamItem) (front : List ℕ) (p : DecoderState) : Type 0 where
  pub sets_is : p.sets ≡ sets
  pub header_is : p.header ≡ header_after_all None items
  pub whole : octets ≡ front ++ p.pending
  pub spelled : SpellsAll sets None items front
  pub start_is : p.start ≡ length front
  pub partial : IsPartial sets p.header p.pending

-- The items that were given are those of the octets that were taken, and what pends is what follows them: less than an item.
abbrev pub GivesItems : Type 0
GivesItems = (sets : Widths) (calls : List Call) (new : DecoderState) → HaveWidths sets → Runs (fresh sets) calls new → new.fault ≡ None
    → (items : List StreamItem) × (items_told calls ≡ map told items) × AreItems sets None (all_taken calls) items new.pending × IsPartial sets (header_after_all None items) new.pending

-- A refusal is at the first bad octet of the stream.
abbrev pub RefusesFirstBad : Type 0
RefusesFirstBad = (sets : Widths) (calls : List Call) (mid new : DecoderState) (piece : List ℕ) (fault : Malformed) → HaveWidths sets → Runs (fresh sets) calls mid → mid.fault ≡ None → Feeds mid piece (Err fault) new
    → IsFirstBad sets None (all_taken calls ++ piece) fault.place fault.why

-- Where nothing was refused no octet is bad.
abbrev pub NoneBad : Type 0
NoneBad = (sets : Widths) (calls : List Call) (new : DecoderState) (p : ℕ) (why : Why) → HaveWidths sets → Runs (fresh sets) calls new → new.fault ≡ None → IsFirstBad sets None (all_taken calls) p why → ⊥
