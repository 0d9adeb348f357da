-- One feed of the decoder, over plain values.
use Rattle.std.proofs.Common.{◌≡◌, ℕ, ◌+◌, ◌-◌, ◌<◌, ◌≤◌, Bool, true, false, List, [], ◌++◌, length, take, replicate, get_or, Option, Some, None, refl, sym, ap, subst, ◌∙◌, arith, inl, inr}
use Rattle.std.specs.Prelude.{MatchOption}
use Rattle.std.proofs.lemmas.Bool.{cases_lt, cases_Bool, cond-true, cond-false}
use Rattle.std.proofs.lemmas.List.{append-nil, length-take, length-replicate}
use Rattle.eb_base.specs.declared.width.Widths.{Widths}
use Rattle.eb_base.proofs.FieldLemmas.{IsBytes}
use Rattle.eb_codec.specs.declared.item.Header.{Header}
use Rattle.eb_codec.specs.declared.item.Why.{Why}
use Rattle.eb_codec.specs.declared.event.Malformed.{Malformed}
use Rattle.eb_codec.specs.declared.event.Item.TheVariants as item
use Rattle.eb_codec.specs.Rules.{has}
use Rattle.eb_codec.specs.Stream.{HaveWidths, StreamItem, Probed, Headed, Recorded, BreaksNone, Spells, IsPartial}
use Rattle.eb_codec.specs.Reading.{size, item_in, record_of, probe_of, header_of}
use Rattle.eb_codec.specs.Decoding.{DecoderState, told, Gives, TakesAll, Takes, Refuses}
use Rattle.eb_codec.specs.Filling.{IsFilled, IsBroken, tells_record, kept_octets, header_told}
use Rattle.eb_codec.specs.Inside.{pending_in, state_of, Holds}
use Rattle.eb_codec.proofs.FieldLemmas.{IsBytes-take}
use Rattle.eb_codec.proofs.ItemLemmas.{size-ge, spells_item_in}
use Rattle.eb_codec.proofs.CompletionLemmas.{is_partial, IsBytes-zeros}
use Rattle.eb_codec.proofs.BadLemmas.{bad_octet}
use Rattle.eb_codec.proofs.ViewLemmas.{is_record}

-- the front of the room is what pends
pub record Pends (sets : Widths) (header : Option Header) (pending room : List ℕ) (len : ℕ) : Type 0 where
  pub is : take len room ≡ pending
  pub none : BreaksNone sets header pending
  pub partial : len < size header pending

pub pends : (sets : Widths) (header : Option Header) (room : List ℕ) (n : ℕ) (shows : Bool) (len : ℕ) → Holds sets header room n shows → len ≡ length (pending_in shows (take n room)) → Pends sets header (pending_in shows (take n room)) room len
pends sets header room n true len h e = record {
  is = ap (λ (k : ℕ). take k room) e;
  none = λ k lt. absurd (omega arith);
  partial = omega (arith, size-ge header []);
}
pends sets header room n false len h e =
    let long : length (take n room) ≡ n = omega (arith, length-take n room, h.is_room, h.fits) in
    record {
      is = ap (λ (k : ℕ). take k room) (e ∙ long);
      none = h.item.0;
      partial = omega (arith, h.item.1);
    }

-- less than an item
pub not_yet : (sets : Widths) (header : Option Header) (held : List ℕ) (shows : Bool) (start : ℕ) (fault : Option Malformed) (piece room room' : List ℕ) (len n : ℕ) → HaveWidths sets → IsBytes room' → Pends sets header (pending_in shows held) room len → length (take len room) ≡ len
    → n ≤ length room' → IsFilled sets header (take len room) piece room' n → n < size header (take n room') → n ≡ len + length piece
    → Takes (state_of sets header held shows start fault) piece (record { taken = n - len; item = item.NotYet }) (state_of sets header (take n room') false start fault)
not_yet sets header held shows start fault piece room room' len n have bytes p plen fits filled lt all =
    let pending : List ℕ = pending_in shows held in
    let same : take n room' ≡ pending ++ take (n - len) piece = filled.holds ∙ ap (λ (k : ℕ). take len room ++ take (n - k) piece) plen ∙ ap (λ (l : List ℕ). l ++ take (n - len) piece) p.is in
    let partial : IsPartial sets header (take n room') = is_partial sets header (take n room') have filled.none (IsBytes-take n room' bytes) (omega (arith, length-take n room')) in
    record {
      taken = omega arith;
      moves = λ some. omega arith;
      gives = (subst (IsPartial sets header) same partial, ap (λ (l : List ℕ). record { sets = sets; header = header; start = start; pending = l; shown = None; fault = fault }) same);
    }

-- the first bad octet
pub refused : (sets : Widths) (header : Option Header) (held : List ℕ) (shows : Bool) (start : ℕ) (fault : Option Malformed) (piece room room' : List ℕ) (len at : ℕ) (why : Why) → HaveWidths sets → IsBytes (pending_in shows held ++ piece) → Pends sets header (pending_in shows held) room len
    → IsBroken sets header (take len room ++ piece) at why
    → Refuses (state_of sets header held shows start fault) piece (record { place = start + at; why = why }) (state_of sets header (take 0 room') false start (Some (record { place = start + at; why = why })))
refused sets header held shows start fault piece room room' len at why have bytes p broke =
    let octets : List ℕ = pending_in shows held ++ piece in
    let same : take len room ++ piece ≡ octets = ap (λ (l : List ℕ). l ++ piece) p.is in
    let broke' : IsBroken sets header octets at why = subst (λ (l : List ℕ). IsBroken sets header l at why) same broke in
    record { at = (at, refl, bad_octet sets header octets at why have bytes broke'.inside broke'.none broke'.rule); after = refl }

same_state : (sets : Widths) (h : Header) (fault : Option Malformed) (start n m : ℕ) (a b : List ℕ) → n ≡ m → a ≡ b
    → state_of sets (Some h) a true (start + n) fault ≡ record { sets = sets; header = Some h; start = start + m; pending = []; shown = Some (record_of h b); fault = fault }
same_state sets h fault start n m a b p q = λ i. record { sets = sets; header = Some h; start = start + p i; pending = []; shown = Some (record_of h (q i)); fault = fault }

takes_all : (x : StreamItem) (taken len : ℕ) → taken ≤ len → TakesAll (told x) taken len
takes_all (Probed p) taken len le = le
takes_all (Headed h) taken len le = le
takes_all (Recorded r) taken len le = le

-- a whole item
pub gives_whole : (sets : Widths) (header : Option Header) (held : List ℕ) (shows : Bool) (start : ℕ) (fault : Option Malformed) (octets room' : List ℕ) (n : ℕ) → BreaksNone sets header octets → length octets ≡ size header octets → IsBytes octets → take n room' ≡ octets → length octets ≡ n
    → Gives (state_of sets header held shows start fault) octets (told (item_in header octets))
    (state_of sets (header_told header (told (item_in header octets))) (take (kept_octets (told (item_in header octets)) n) room') (tells_record (told (item_in header octets))) (start + n) fault)
unfolding item_in
gives_whole sets None held shows start fault octets room' n none len bytes front n-is =
    let s : Spells sets None (item_in None octets) octets = spells_item_in sets None octets none len bytes in
    elim (cases_Bool (has (get_or octets 2 0) 1)) [
      | inl y ↦
          let e : item_in None octets ≡ Probed (probe_of octets) = cond-true _ _ _ y in
          rw y (subst (λ (x : StreamItem). Spells sets None x octets) e s, ap (λ (k : ℕ). record { sets = sets; header = None; start = start + k; pending = []; shown = None; fault = fault }) (sym n-is))
      | inr z ↦
          let e : item_in None octets ≡ Headed (header_of octets) = cond-false _ _ _ z in
          rw z (subst (λ (x : StreamItem). Spells sets None x octets) e s, ap (λ (k : ℕ). record { sets = sets; header = Some (header_of octets); start = start + k; pending = []; shown = None; fault = fault }) (sym n-is))
    ]
gives_whole sets (Some h) held shows start fault octets room' n none len bytes front n-is = (
  record_of h octets,
  refl,
  spells_item_in sets (Some h) octets none len bytes,
  same_state sets h fault start n (length octets) (take n room') octets (sym n-is) front,
)

-- a whole item wasn't there before
moves_on : (sets : Widths) (header : Option Header) (pending piece room room' : List ℕ) (len n : ℕ) → Pends sets header pending room len → length (take len room) ≡ len → IsFilled sets header (take len room) piece room' n → n ≡ size header (take n room') → 0 < n - len
moves_on sets header pending piece room room' len n p plen filled size-is =
    elim (cases_lt len n) [
      | inl lt ↦ omega arith
      | inr ge ↦
          let same : n ≡ len = omega (arith, filled.least) in
          let z : n - length (take len room) ≡ 0 = omega arith in
          let front : take n room' ≡ pending = filled.holds ∙ ap (λ (k : ℕ). take len room ++ take k piece) z ∙ append-nil (take len room) ∙ p.is in
          let e = ap (size header) front in
          absurd (omega (arith, p.partial))
    ]

pub whole : (sets : Widths) (header : Option Header) (held : List ℕ) (shows : Bool) (start : ℕ) (fault : Option Malformed) (piece room room' : List ℕ) (len n : ℕ) → IsBytes room' → Pends sets header (pending_in shows held) room len → length (take len room) ≡ len
    → n ≤ length room' → IsFilled sets header (take len room) piece room' n → n ≡ size header (take n room')
    → Takes (state_of sets header held shows start fault) piece (record { taken = n - len; item = told (item_in header (take n room')) })
    (state_of sets (header_told header (told (item_in header (take n room')))) (take (kept_octets (told (item_in header (take n room'))) n) room') (tells_record (told (item_in header (take n room')))) (start + n) fault)
whole sets header held shows start fault piece room room' len n bytes p plen fits filled size-is =
    let octets : List ℕ = take n room' in
    let old : DecoderState = state_of sets header held shows start fault in
    let long : length octets ≡ n = omega (arith, length-take n room') in
    let same : octets ≡ pending_in shows held ++ take (n - len) piece = filled.holds ∙ ap (λ (k : ℕ). take len room ++ take (n - k) piece) plen ∙ ap (λ (l : List ℕ). l ++ take (n - len) piece) p.is in
    let moved : 0 < n - len = moves_on sets header (pending_in shows held) piece room room' len n p plen filled size-is in
    let new : DecoderState = state_of sets (header_told header (told (item_in header octets))) (take (kept_octets (told (item_in header octets)) n) room') (tells_record (told (item_in header octets))) (start + n) fault in
    let gives : Gives old octets (told (item_in header octets)) new = gives_whole sets header held shows start fault octets room' n filled.none (long ∙ size-is) (IsBytes-take n room' bytes) refl long in
    record {
      taken = takes_all (item_in header octets) (n - len) (length piece) (omega (arith, filled.most));
      moves = λ some. moved;
      gives = subst (λ (l : List ℕ). Gives old l (told (item_in header octets)) new) same gives;
    }

-- the room when nothing pends
pub holds_nothing : (sets : Widths) (header : Option Header) (room : List ℕ) → HaveWidths sets → length room ≡ 4104 → IsBytes room → Holds sets header room 0 false
holds_nothing sets header room have len bytes = record { widths = have; is_room = len; fits = omega arith; bytes = bytes; item = (λ k lt. absurd (omega arith), omega (arith, size-ge header []), omega arith) }

pub holds_part : (sets : Widths) (header : Option Header) (room : List ℕ) (n : ℕ) → HaveWidths sets → length room ≡ 4104 → IsBytes room → n < 4104 → BreaksNone sets header (take n room) → n < size header (take n room) → Holds sets header room n false
holds_part sets header room n have len bytes most none lt =
    let long : length (take n room) ≡ n = omega (arith, length-take n room) in
    record { widths = have; is_room = len; fits = omega arith; bytes = bytes; item = (none, omega arith, omega arith) }

-- what is kept of a whole item
pub holds_whole : (sets : Widths) (header : Option Header) (room' : List ℕ) (n : ℕ) → HaveWidths sets → length room' ≡ 4104 → IsBytes room' → BreaksNone sets header (take n room') → n ≤ 4104 → n ≡ size header (take n room')
    → Holds sets (header_told header (told (item_in header (take n room')))) room' (kept_octets (told (item_in header (take n room'))) n) (tells_record (told (item_in header (take n room'))))
unfolding item_in
holds_whole sets None room' n have len bytes none most size-is =
    elim (cases_Bool (has (get_or (take n room') 2 0) 1)) [
      | inl y ↦ rw y (holds_nothing sets None room' have len bytes)
      | inr z ↦ rw z (holds_nothing sets (Some (header_of (take n room'))) room' have len bytes)
    ]
holds_whole sets (Some h) room' n have len bytes none most size-is =
    let whole-is : length (take n room') ≡ size (Some h) (take n room') = omega (arith, length-take n room') in
    record { widths = have; is_room = len; fits = most; bytes = bytes; item = is_record sets h (take n room') none whole-is (IsBytes-take n room' bytes) }

pub holds_zeros : (sets : Widths) (room : List ℕ) (n : ℕ) → n ≡ 4104 → HaveWidths sets → room ≡ replicate n 0 → Holds sets None room 0 false
holds_zeros sets room n n-is have e =
    holds_nothing sets None room have (ap length e ∙ length-replicate n 0 ∙ n-is) (subst IsBytes (sym e) (IsBytes-zeros n))

if_none : (P : Type 0) (Q : Malformed → Type 0) (o : Option Malformed) → o ≡ None → P → MatchOption o P Q
if_none P Q None e p = p
if_none P Q (Some x) e p = absurd cc

-- what holds of the decoder that the fields stand for
pub fed_from : (P : DecoderState → Type 0) (Q : DecoderState → Malformed → Type 0) (w v : DecoderState) → w ≡ v → w.fault ≡ None → P w → MatchOption v.fault (P v) (Q v)
fed_from P Q w v e n p = if_none (P v) (Q v) v.fault (ap (λ (x : DecoderState). x.fault) (sym e) ∙ n) (subst P e p)
