-- Items of any kind: whole octets that break no rule spell what they read as, and nothing else; which of the
-- octets decide; and what hasn't broken a rule yet goes on to an item.
use Rattle.std.proofs.Common.{◌≡◌, ℕ, zero, suc, ◌<◌, ◌≤◌, false, eqb, List, [], ◌∷◌, ◌++◌, length, take, get_or, Option, Some, None, refl, sym, ap, ◌∙◌, arith, inl, inr}
use Rattle.std.proofs.lemmas.Bool.{ne_eqb, cases_Bool, cond-true, cond-false}
use Rattle.std.proofs.lemmas.List.{take_at, append_cancel_left}
use Rattle.eb_base.specs.declared.width.Widths.{Widths}
use Rattle.eb_base.proofs.FieldLemmas.{IsBytes}
use Rattle.eb_codec.specs.declared.item.Header.{Header}
use Rattle.eb_codec.specs.declared.item.Record.{Record}
use Rattle.eb_codec.specs.Rules.{has, breaks, broken}
use Rattle.eb_codec.specs.Sizes.{unit_octets}
use Rattle.eb_codec.specs.Form.{record_form}
use Rattle.eb_codec.specs.Stream.{StreamItem, Probed, Headed, Recorded, BreaksNone, HasForm, Spells}
use Rattle.eb_codec.specs.Reading.{header_of, probe_of, record_of, record_octets, size, item_in}
use Rattle.eb_codec.proofs.FormLemmas.{length-Fills}
use Rattle.eb_codec.proofs.RecordLemmas.{four-unit, fills_record, record_fits, record_read, length-record_form}
use Rattle.eb_codec.proofs.RuleLemmas.{head_legal, from_none}
use Rattle.eb_codec.proofs.HeadLemmas.{probe_form_fills, header_form_fills, probe_read, header_read}

-- ---- sizes

record_octets-ge : (h : Header) (w r : ℕ) → unit_octets h ≤ record_octets h w r
unfolding record_octets
record_octets-ge h w r = omega arith

pub size-ge : (header : Option Header) (o : List ℕ) → 4 ≤ size header o
unfolding size
size-ge None o = elim (cases_Bool (has (get_or o 2 0) 1)) [ inl y ↦ rw y (omega arith) | inr n ↦ rw n (four-unit (header_of o)) ]
size-ge (Some h) o = omega (arith, four-unit h, record_octets-ge h (get_or o 2 0) (get_or o 3 0))

-- ---- what whole octets read as

pub item_has_form : (sets : Widths) (header : Option Header) (o : List ℕ) → BreaksNone sets header o → length o ≡ size header o → IsBytes o → HasForm header (item_in header o) o
unfolding size item_in
item_has_form sets None o none len bytes =
    let long : 4 ≤ length o = omega (arith, size-ge None o) in
    let legal = head_legal sets o long none in
    elim (cases_Bool (has (get_or o 2 0) 1)) [
      | inl y ↦ rw y (probe_form_fills sets o legal y (len ∙ cond-true (has (get_or o 2 0) 1) 8 (unit_octets (header_of o)) y) bytes)
      | inr n ↦ rw n (header_form_fills sets o legal n (len ∙ cond-false (has (get_or o 2 0) 1) 8 (unit_octets (header_of o)) n) bytes)
    ]
item_has_form sets (Some h) o none len bytes = (record_fits h o bytes, fills_record h o len bytes)

pub spells_item_in : (sets : Widths) (header : Option Header) (o : List ℕ) → BreaksNone sets header o → length o ≡ size header o → IsBytes o → Spells sets header (item_in header o) o
spells_item_in sets header o none len bytes = record { form = item_has_form sets header o none len bytes; legal = none }

-- what an item spells is as long as its first octets say, and reads as the item
pub form_read : (header : Option Header) (x : StreamItem) (o : List ℕ) → HasForm header x o → (item_in header o ≡ x) × (length o ≡ size header o)
unfolding size item_in record_of
form_read None (Probed p) o f =
    let r = probe_read p o f.0 f.1 in
    (cond-true (has (get_or o 2 0) 1) (Probed (probe_of o)) (Headed (header_of o)) r.1 ∙ ap Probed r.0, r.2 ∙ sym (cond-true (has (get_or o 2 0) 1) 8 (unit_octets (header_of o)) r.1))
form_read None (Headed h) o f =
    let r = header_read h o f in
    (cond-false (has (get_or o 2 0) 1) (Probed (probe_of o)) (Headed (header_of o)) r.1 ∙ ap Headed r.0, r.2 ∙ ap unit_octets (sym r.0) ∙ sym (cond-false (has (get_or o 2 0) 1) 8 (unit_octets (header_of o)) r.1))
form_read (Some h) (Recorded r) o f =
    let e = record_read h r o f.0 f.1 in
    let w : length r.values ≡ get_or o 2 0 = f.0.writes ∙ sym (ap (λ (x : Record). x.head.writes) e) in
    let n : length r.addresses ≡ get_or o 3 0 = f.0.reads ∙ sym (ap (λ (x : Record). x.head.reads) e) in
    (ap Recorded e, length-Fills o (record_form h r) f.1 ∙ length-record_form h r ∙ ap (λ (x : ℕ). record_octets h x (length r.addresses)) w ∙ ap (record_octets h (get_or o 2 0)) n)
form_read None (Recorded r) o f = absurd f
form_read (Some h) (Probed p) o f = absurd f
form_read (Some h) (Headed g) o f = absurd f

-- ---- which octets decide

-- from the fifth octet on no rule breaks
pub broken_later : (sets : Widths) (header : Option Header) (o : List ℕ) (k : ℕ) → 4 ≤ k → broken sets header o k ≡ None
unfolding broken
broken_later sets None o k le =
    let e0 : eqb k 0 ≡ false = ne_eqb k 0 (λ e. omega arith) in
    let e1 : eqb k 1 ≡ false = ne_eqb k 1 (λ e. omega arith) in
    let e2 : eqb k 2 ≡ false = ne_eqb k 2 (λ e. omega arith) in
    let e3 : eqb k 3 ≡ false = ne_eqb k 3 (λ e. omega arith) in
    from_none (breaks sets None o k) (record { magic = rw (e0, e1) refl; version = rw e2 refl; response = rw e2 refl; reserved = rw e2 refl; width = rw e3 refl; flag = refl; beyond = refl; no_enable = refl; no_reply = refl })
broken_later sets (Some h) o k le =
    let e0 : eqb k 0 ≡ false = ne_eqb k 0 (λ e. omega arith) in
    let e1 : eqb k 1 ≡ false = ne_eqb k 1 (λ e. omega arith) in
    let e2 : eqb k 2 ≡ false = ne_eqb k 2 (λ e. omega arith) in
    let e3 : eqb k 3 ≡ false = ne_eqb k 3 (λ e. omega arith) in
    from_none (breaks sets (Some h) o k) (record { magic = refl; version = refl; response = refl; reserved = refl; width = refl; flag = rw e0 refl; beyond = rw e1 refl; no_enable = rw (e2, e3) refl; no_reply = rw e3 refl })

broken_front-0 : (sets : Widths) (header : Option Header) (a c : List ℕ) → 0 < length a → broken sets header (a ++ c) 0 ≡ broken sets header a 0
unfolding broken
broken_front-0 sets None (x ∷ a) c lt = refl
broken_front-0 sets (Some h) (x ∷ a) c lt = refl
broken_front-0 sets header [] c lt = absurd (omega arith)

broken_front-1 : (sets : Widths) (header : Option Header) (a c : List ℕ) → 1 < length a → broken sets header (a ++ c) 1 ≡ broken sets header a 1
unfolding broken
broken_front-1 sets None (x ∷ y ∷ a) c lt = refl
broken_front-1 sets (Some h) (x ∷ y ∷ a) c lt = refl
broken_front-1 sets header (x ∷ []) c lt = absurd (omega arith)
broken_front-1 sets header [] c lt = absurd (omega arith)

broken_front-2 : (sets : Widths) (header : Option Header) (a c : List ℕ) → 2 < length a → broken sets header (a ++ c) 2 ≡ broken sets header a 2
unfolding broken
broken_front-2 sets None (x ∷ y ∷ z ∷ a) c lt = refl
broken_front-2 sets (Some h) (x ∷ y ∷ z ∷ a) c lt = refl
broken_front-2 sets header (x ∷ y ∷ []) c lt = absurd (omega arith)
broken_front-2 sets header (x ∷ []) c lt = absurd (omega arith)
broken_front-2 sets header [] c lt = absurd (omega arith)

broken_front-3 : (sets : Widths) (header : Option Header) (a c : List ℕ) → 3 < length a → broken sets header (a ++ c) 3 ≡ broken sets header a 3
unfolding broken
broken_front-3 sets None (x ∷ y ∷ z ∷ t ∷ a) c lt = refl
broken_front-3 sets (Some h) (x ∷ y ∷ z ∷ t ∷ a) c lt = refl
broken_front-3 sets header (x ∷ y ∷ z ∷ []) c lt = absurd (omega arith)
broken_front-3 sets header (x ∷ y ∷ []) c lt = absurd (omega arith)
broken_front-3 sets header (x ∷ []) c lt = absurd (omega arith)
broken_front-3 sets header [] c lt = absurd (omega arith)

-- whether an octet breaks a rule doesn't depend on what comes later
pub broken_front : (sets : Widths) (header : Option Header) (a c : List ℕ) (k : ℕ) → k < length a → broken sets header (a ++ c) k ≡ broken sets header a k
broken_front sets header a c zero lt = broken_front-0 sets header a c lt
broken_front sets header a c (suc zero) lt = broken_front-1 sets header a c lt
broken_front sets header a c (suc (suc zero)) lt = broken_front-2 sets header a c lt
broken_front sets header a c (suc (suc (suc zero))) lt = broken_front-3 sets header a c lt
broken_front sets header a c (suc (suc (suc (suc k)))) lt = broken_later sets header (a ++ c) (suc (suc (suc (suc k)))) (omega arith) ∙ sym (broken_later sets header a (suc (suc (suc (suc k)))) (omega arith))

pub size_front : (header : Option Header) (a c : List ℕ) → 4 ≤ length a → size header (a ++ c) ≡ size header a
unfolding size
size_front None (x ∷ y ∷ z ∷ t ∷ a) c le = refl
size_front (Some h) (x ∷ y ∷ z ∷ t ∷ a) c le = refl
size_front header (x ∷ y ∷ z ∷ []) c le = absurd (omega arith)
size_front header (x ∷ y ∷ []) c le = absurd (omega arith)
size_front header (x ∷ []) c le = absurd (omega arith)
size_front header [] c le = absurd (omega arith)

-- no spelling begins another that may stand in its place, and none is of two items
pub one_spelling : (sets : Widths) (header : Option Header) (x y : StreamItem) (a b c d : List ℕ) → Spells sets header x a → Spells sets header y b → a ++ c ≡ b ++ d → (x ≡ y) × (a ≡ b) × (c ≡ d)
one_spelling sets header x y a b c d p q e =
    let r = form_read header x a p.form in
    let s = form_read header y b q.form in
    let same_len : length a ≡ length b = r.1 ∙ sym (size_front header a c (omega (arith, size-ge header a, r.1))) ∙ ap (size header) e ∙ size_front header b d (omega (arith, size-ge header b, s.1)) ∙ sym s.1 in
    let front : a ≡ b = sym (take_at a c (length a) refl) ∙ ap (take (length a)) e ∙ take_at b d (length a) (sym same_len) in
    let back : c ≡ d = append_cancel_left a c d (e ∙ ap (λ (z : List ℕ). z ++ d) (sym front)) in
    (sym r.0 ∙ ap (item_in header) front ∙ s.0, front, back)
