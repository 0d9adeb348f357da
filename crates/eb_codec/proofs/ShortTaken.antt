-- A short record that is taken at once.
use Rattle.std.proofs.Common.{◌≡◌, ℕ, ◌+◌, Bool, true, List, [], length, take, Option, Some, None, Result, Ok, Err, refl, sym, ap, subst, ◌∙◌, arith}
use Rattle.std.proofs.lemmas.List.{length-take}
use Rattle.eb_base.specs.declared.width.Widths.{Widths}
use Rattle.eb_base.proofs.FieldLemmas.{IsBytes}
use Rattle.eb_codec.specs.declared.item.Header.{Header}
use Rattle.eb_codec.specs.declared.item.Record.{Record}
use Rattle.eb_codec.specs.declared.short.ShortRecord.{ShortRecord}
use Rattle.eb_codec.specs.declared.event.Step.{Step}
use Rattle.eb_codec.specs.declared.event.Malformed.{Malformed}
use Rattle.eb_codec.specs.declared.event.Item.TheVariants as item
use Rattle.eb_codec.specs.Stream.{HaveWidths, BreaksNone}
use Rattle.eb_codec.specs.Reading.{size, item_in, record_of}
use Rattle.eb_codec.specs.Filling.{IsFilled}
use Rattle.eb_codec.specs.Inside.{pending_in, shown_in, state_of, Holds}
use Rattle.eb_codec.specs.Decoding.{DecoderState, Takes, Feeds}
use Rattle.eb_codec.specs.Short.{BeginsShort, IsShortFlags, AwaitsShort, TakesShort, short_header, short_record, short_step}
use Rattle.eb_codec.proofs.FieldLemmas.{IsBytes-take}
use Rattle.eb_codec.proofs.ViewLemmas.{is_record, head_of}
use Rattle.eb_codec.proofs.AgainLemmas.{stands}
use Rattle.eb_codec.proofs.DecoderLemmas.{pends, whole, fed_from}
use Rattle.eb_codec.proofs.ShortLemmas.{short_none, short_size, short_front}

-- the room behind it
front_none : (sets : Widths) (room piece : List ℕ) → take 20 room ≡ take 20 piece → BeginsShort piece → BreaksNone sets (Some short_header) (take 20 room)
front_none sets room piece front b = subst (BreaksNone sets (Some short_header)) (sym front) (short_none sets (take 20 piece) (short_front piece b))

front_size : (room piece : List ℕ) → take 20 room ≡ take 20 piece → BeginsShort piece → size (Some short_header) (take 20 room) ≡ 20
front_size room piece front b = ap (size (Some short_header)) front ∙ short_size (take 20 piece) (short_front piece b)

holds_by : (sets : Widths) (room piece : List ℕ) → HaveWidths sets → length room ≡ 4104 → IsBytes room → take 20 room ≡ take 20 piece → BeginsShort piece → Holds sets (Some short_header) room 20 true
holds_by sets room piece have len bytes front b =
    let long : length (take 20 room) ≡ size (Some short_header) (take 20 room) = omega (arith, length-take 20 room, front_size room piece front b) in
    record { widths = have; is_room = len; fits = omega arith; bytes = bytes; item = is_record sets short_header (take 20 room) (front_none sets room piece front b) long (IsBytes-take 20 room bytes) }

pub holds_short : (sets : Widths) (header : Option Header) (room piece : List ℕ) → header ≡ Some short_header → HaveWidths sets → length room ≡ 4104 → IsBytes room → take 20 room ≡ take 20 piece → BeginsShort piece → Holds sets header room 20 true
holds_short sets header room piece e have len bytes front b = subst (λ (h : Option Header). Holds sets h room 20 true) (sym e) (holds_by sets room piece have len bytes front b)

-- the step, in which nothing pended
takes_by : (sets : Widths) (shows : Bool) (start n : ℕ) (fault : Option Malformed) (piece room room' : List ℕ) (s : ShortRecord) → Holds sets (Some short_header) room n shows → pending_in shows (take n room) ≡ []
    → length room' ≡ 4104 → IsBytes room' → take 20 room' ≡ take 20 piece → BeginsShort piece → record_of short_header (take 20 piece) ≡ short_record s
    → Takes (state_of sets (Some short_header) (take n room) shows start fault) piece (short_step s) (state_of sets (Some short_header) (take 20 room') true (start + 20) fault)
unfolding item_in
takes_by sets shows start n fault piece room room' s holds none len bytes front b is =
    let p = pends sets (Some short_header) room n shows 0 holds (sym (ap length none)) in
    let filled : IsFilled sets (Some short_header) (take 0 room) piece room' 20 = record { least = omega arith; most = omega (arith, b.long); holds = front; none = front_none sets room' piece front b } in
    let t = whole sets (Some short_header) (take n room) shows start fault piece room room' 0 20 bytes p refl (omega arith) filled (sym (front_size room' piece front b)) in
    let told : record_of short_header (take 20 room') ≡ short_record s = ap (record_of short_header) front ∙ is in
    subst (λ (r : Record). Takes (state_of sets (Some short_header) (take n room) shows start fault) piece (record { taken = 20; item = item.Record r.head }) (state_of sets (Some short_header) (take 20 room') true (start + 20) fault)) told t

abbrev answer_ok : Step → Result Step Malformed
answer_ok step = Ok step

-- the call
pub takes_short : (v : DecoderState) (sets : Widths) (header : Option Header) (shows : Bool) (start n : ℕ) (fault : Option Malformed) (piece room room' : List ℕ) (s : ShortRecord) → state_of sets header (take n room) shows start fault ≡ v → AwaitsShort v
    → Holds sets header room n shows → length room' ≡ 4104 → IsBytes room' → take 20 room' ≡ take 20 piece → BeginsShort piece → record_of short_header (take 20 piece) ≡ short_record s
    → TakesShort v piece s (state_of sets header (take 20 room') true (start + 20) fault)
takes_short v sets header shows start n fault piece room room' s view awaits holds len bytes front b is =
    let e : header ≡ Some short_header = ap (λ (k : DecoderState). k.header) view ∙ awaits.header in
    let none : pending_in shows (take n room) ≡ [] = ap (λ (k : DecoderState). k.pending) view ∙ awaits.pending in
    let sound : fault ≡ None = ap (λ (k : DecoderState). k.fault) view ∙ awaits.fault in
    let new : DecoderState = state_of sets header (take 20 room') true (start + 20) fault in
    let t = takes_by sets shows start n fault piece room room' s (subst (λ (h : Option Header). Holds sets h room n shows) e holds) none len bytes front b is in
    let t' : Takes (state_of sets header (take n room) shows start fault) piece (short_step s) new =
    subst (λ (h : Option Header). Takes (state_of sets h (take n room) shows start fault) piece (short_step s) (state_of sets h (take 20 room') true (start + 20) fault)) (sym e) t in
    let first : (record_of short_header (take 20 piece)).head.flags ≡ s.flags = ap (λ (r : Record). r.head.flags) is in
    let flags : IsShortFlags (record_of short_header (take 20 piece)).head.flags = rw (head_of short_header (take 20 piece)) (short_front piece b).flags in
    let fed : Feeds v piece (Ok (short_step s)) new = fed_from (λ w. Takes w piece (short_step s) new) (λ w m. (answer_ok (short_step s) ≡ Err m) × (new ≡ w)) (state_of sets header (take n room) shows start fault) v view sound t' in
    record {
      fed = fed;
      stands = stands v new piece (Ok (short_step s)) fed;
      header = e;
      shown = ap (λ (h : Option Header). shown_in true h (take 20 room')) e ∙ ap (λ (l : List ℕ). Some (record_of short_header l)) front ∙ ap (λ (r : Record). Some r) is;
      flags = subst IsShortFlags first flags;
    }
