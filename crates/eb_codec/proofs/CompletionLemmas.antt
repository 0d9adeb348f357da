-- What hasn't broken a rule yet and is no whole item goes on to an item.
use Rattle.std.proofs.Common.{◌≡◌, ℕ, zero, suc, ◌+◌, ◌-◌, ◌*◌, ◌/◌, ◌%◌, ◌^◌, ◌<◌, ◌≤◌, Bool, true, false, ◌&&◌, ◌||◌, cond, eqb, leb, List, [], ◌∷◌, ◌++◌, length, replicate, Option, Some, None, refl, sym, ap, subst, ◌∙◌, arith, inl, inr, lit<}
use Rattle.std.proofs.lemmas.Bool.{or_right, or_cases, and_from, and_parts, not_from_true, and_right, eqb-true, agree_below, agree_below_at, cases_Bool, cases_lt, cases_eq}
use Rattle.std.proofs.lemmas.List.{length-append, length-replicate, get_or_append_left, get_or-append_right, get_or-replicate, get_or_past, append-nil, append_assoc}
use Rattle.eb_base.specs.declared.width.Width.{Width}
use Rattle.eb_base.specs.declared.width.Width.TheVariants.{W8, W16, W32, W64}
use Rattle.eb_base.specs.declared.width.Widths.{Widths}
use Rattle.eb_base.specs.Width.{octets}
use Rattle.eb_base.proofs.FieldLemmas.{IsBytes}
use Rattle.eb_codec.specs.declared.item.Header.{Header}
use Rattle.eb_codec.specs.Rules.{has, is_one_width, has_common, has_widths, breaks, broken}
use Rattle.eb_codec.specs.Stream.{HaveWidths, StreamItem, BreaksNone, Spells, IsPartial}
use Rattle.eb_codec.specs.Reading.{size, item_in}
use Rattle.eb_codec.proofs.RuleLemmas.{from_none}
use Rattle.eb_codec.proofs.ItemLemmas.{form_read, size-ge, size_front, spells_item_in, broken_front, broken_later}

-- the lowest width of a set
abbrev lowest : ℕ → ℕ
lowest set = cond (has set 1) 1 (cond (has set 2) 2 (cond (has set 4) 4 8))

abbrev lowest_fits : ℕ → Bool
lowest_fits set = eqb set 0 || (is_one_width (lowest set) && has (lowest set) set)

lowest_all : agree_below lowest_fits (λ _. true) 16 ≡ true
lowest_all = refl

lowest-is : (set : ℕ) → 0 < set → set < 16 → (p : Bool) → has_common (lowest set) set p ≡ true
lowest-is set pos lt p =
    let e = agree_below_at lowest_fits (λ _. true) 16 set lowest_all lt in
    elim (or_cases (eqb set 0) (is_one_width (lowest set) && has (lowest set) set) e) [
      | inl z ↦ absurd (omega (arith, eqb-true set 0 z))
      | inr y ↦ let parts = and_parts (is_one_width (lowest set)) (has (lowest set) set) y in and_from (p || is_one_width (lowest set)) (has (lowest set) set) (or_right p (is_one_width (lowest set)) parts.0) parts.1
    ]

lowest_small : (set : ℕ) → lowest set < 16
lowest_small set = elim (cases_Bool (has set 1)) [
  | inl a ↦ rw a (lit< tt)
  | inr a ↦ elim (cases_Bool (has set 2)) [
    | inl b ↦ rw (a, b) (lit< tt)
    | inr b ↦ elim (cases_Bool (has set 4)) [ inl c ↦ rw (a, b, c) (lit< tt) | inr c ↦ rw (a, b, c) (lit< tt) ]
  ]
]

-- one more octet
pub step_none : (sets : Widths) (header : Option Header) (o : List ℕ) (c : ℕ) → BreaksNone sets header o → broken sets header (o ++ c ∷ []) (length o) ≡ None → BreaksNone sets header (o ++ c ∷ [])
step_none sets header o c none at k lt =
    elim (cases_eq k (length o)) [
      | inl e ↦ ap (broken sets header (o ++ c ∷ [])) e ∙ at
      | inr ne ↦
          let lt' : k < length o = omega (arith, length-append o (c ∷ [])) in
          broken_front sets header o (c ∷ []) k lt' ∙ none k lt'
    ]

next_head : (sets : Widths) (o : List ℕ) → HaveWidths sets → length o < 4 → (c : ℕ) × (c < 256) × (broken sets None (o ++ c ∷ []) (length o) ≡ None)
unfolding broken
next_head sets [] have lt = (0x4E, lit< tt, refl)
next_head sets (a ∷ []) have lt = (0x6F, lit< tt, refl)
next_head sets (a ∷ b ∷ []) have lt = (0x10, lit< tt, refl)
next_head sets (a ∷ b ∷ c ∷ []) have lt =
    let address : ℕ = lowest sets.addresses in
    let port : ℕ = lowest sets.ports in
    let s1 = lowest_small sets.addresses in
    let s2 = lowest_small sets.ports in
    let h : (16 * address + port) / 16 ≡ address = omega arith in
    let l : (16 * address + port) % 16 ≡ port = omega arith in
    let fits : has_widths sets c (16 * address + port) ≡ true =
    and_from (has_common ((16 * address + port) / 16) sets.addresses (has c 1)) (has_common ((16 * address + port) % 16) sets.ports (has c 1))
    (rw h (lowest-is sets.addresses have.address have.are_sets.0 (has c 1))) (rw l (lowest-is sets.ports have.port have.are_sets.1 (has c 1))) in
    (16 * address + port, omega arith, from_none (breaks sets None (a ∷ b ∷ c ∷ (16 * address + port) ∷ []) 3) (record { magic = refl; version = refl; response = refl; reserved = refl; width = not_from_true (has_widths sets c (16 * address + port)) fits; flag = refl; beyond = refl; no_enable = refl; no_reply = refl }))
next_head sets (a ∷ b ∷ c ∷ d ∷ o) have lt = absurd (omega arith)

not_beyond : (w : Width) → leb (2 ^ octets w) 0 ≡ false
not_beyond W8 = refl
not_beyond W16 = refl
not_beyond W32 = refl
not_beyond W64 = refl

and-false : (b : Bool) → (b && false) ≡ false
and-false b = and_right b false refl

-- 0 breaks no rule of a record
next_record : (sets : Widths) (h : Header) (o : List ℕ) → length o < 4 → broken sets (Some h) (o ++ 0 ∷ []) (length o) ≡ None
unfolding broken
next_record sets h [] lt = refl
next_record sets h (a ∷ []) lt = rw (not_beyond h.port) refl
next_record sets h (a ∷ b ∷ []) lt = rw (and-false (eqb b 0)) refl
next_record sets h (a ∷ b ∷ c ∷ []) lt = rw (and-false (eqb b 0), and-false h.no_reply) refl
next_record sets h (a ∷ b ∷ c ∷ d ∷ o) lt = absurd (omega arith)

next : (sets : Widths) (header : Option Header) (o : List ℕ) → HaveWidths sets → length o < 4 → (c : ℕ) × (c < 256) × (broken sets header (o ++ c ∷ []) (length o) ≡ None)
next sets None o have lt = next_head sets o have lt
next sets (Some h) o have lt = (0, lit< tt, next_record sets h o lt)

pub IsBytes-append : (a b : List ℕ) → IsBytes a → IsBytes b → IsBytes (a ++ b)
IsBytes-append a b p q i = elim (cases_lt i (length a)) [ inl lt ↦ rw (get_or_append_left a b 0 i lt) (p i) | inr le ↦ rw (get_or-append_right a b (length a) i 0 refl le) (q (i - length a)) ]

IsBytes-one : (c : ℕ) → c < 256 → IsBytes (c ∷ [])
IsBytes-one c lt zero = lt
IsBytes-one c lt (suc i) = lit< tt

pub IsBytes-zeros : (n : ℕ) → IsBytes (replicate n 0)
IsBytes-zeros n i = elim (cases_lt i n) [ inl lt ↦ rw (get_or-replicate {A = ℕ} n i 0 0 lt) (lit< tt) | inr le ↦ rw (get_or_past {X = ℕ} (replicate n 0) i 0 (omega (arith, length-replicate {A = ℕ} n 0))) (lit< tt) ]

-- octets that break no rule
record Sound (sets : Widths) (header : Option Header) (o : List ℕ) : Type 0 where
  none : BreaksNone sets header o
  bytes : IsBytes o

-- up to four octets
grow : (n : ℕ) (sets : Widths) (header : Option Header) (o : List ℕ) → HaveWidths sets → Sound sets header o → length o + n ≡ 4 → (more : List ℕ) × Sound sets header (o ++ more) × (length (o ++ more) ≡ 4) × IsBytes more
grow zero sets header o have sound len = ([], subst (Sound sets header) (sym (append-nil o)) sound, ap length (append-nil o) ∙ omega arith, λ i. lit< tt)
grow (suc n) sets header o have sound len =
    let c = next sets header o have (omega arith) in
    let one : List ℕ = c.0 ∷ [] in
    let longer : Sound sets header (o ++ one) = record { none = step_none sets header o c.0 sound.none c.2; bytes = IsBytes-append o one sound.bytes (IsBytes-one c.0 c.1) } in
    let rest = grow n sets header (o ++ one) have longer (omega (arith, length-append o one)) in
    (one ++ rest.0, subst (Sound sets header) (append_assoc o one rest.0) rest.1, ap length (sym (append_assoc o one rest.0)) ∙ rest.2, IsBytes-append one rest.0 (IsBytes-one c.0 c.1) rest.3)

-- from four octets on padding completes the item
finish : (sets : Widths) (header : Option Header) (o : List ℕ) → Sound sets header o → 4 ≤ length o → length o ≤ size header o → (x : StreamItem) × (more : List ℕ) × Spells sets header x (o ++ more) × IsBytes more
finish sets header o sound long le =
    let zeros : List ℕ = replicate (size header o - length o) 0 in
    let whole : List ℕ = o ++ zeros in
    let len : length whole ≡ size header whole = omega (arith, length-append o zeros, length-replicate {A = ℕ} (size header o - length o) 0, size_front header o zeros long) in
    let none : BreaksNone sets header whole = λ k lt. elim (cases_lt k (length o)) [
      | inl lt' ↦ broken_front sets header o zeros k lt' ∙ sound.none k lt'
      | inr ge ↦ broken_later sets header whole k (omega arith)
    ] in
    (item_in header whole, zeros, spells_item_in sets header whole none len (IsBytes-append o zeros sound.bytes (IsBytes-zeros (size header o - length o))), IsBytes-zeros (size header o - length o))

pub begins : (sets : Widths) (header : Option Header) (o : List ℕ) → HaveWidths sets → BreaksNone sets header o → IsBytes o → length o < size header o → (x : StreamItem) × (more : List ℕ) × Spells sets header x (o ++ more) × IsBytes more
begins sets header o have none bytes lt =
    let sound : Sound sets header o = record { none = none; bytes = bytes } in
    elim (cases_lt (length o) 4) [
      | inl short ↦
          let g = grow (4 - length o) sets header o have sound (omega arith) in
          let f = finish sets header (o ++ g.0) g.1 (omega (arith, g.2)) (omega (arith, g.2, size-ge header (o ++ g.0))) in
          (f.0, g.0 ++ f.1, subst (Spells sets header f.0) (append_assoc o g.0 f.1) f.2, IsBytes-append g.0 f.1 g.3 f.3)
      | inr long ↦ finish sets header o sound long (omega arith)
    ]

not_whole : (sets : Widths) (header : Option Header) (o more : List ℕ) (x : StreamItem) → length o < size header o → Spells sets header x (o ++ more) → IsBytes more → IsPartial sets header o
not_whole sets header o [] x lt s bytes =
    let e = (form_read header x (o ++ []) s.form).1 in
    let n : length o ≡ size header o = ap length (sym (append-nil o)) ∙ e ∙ ap (size header) (append-nil o) in
    absurd (omega arith)
not_whole sets header o (b ∷ more) x lt s bytes = (x, b, more, s, bytes)

-- what breaks no rule and is no whole item is partial
pub is_partial : (sets : Widths) (header : Option Header) (o : List ℕ) → HaveWidths sets → BreaksNone sets header o → IsBytes o → length o < size header o → IsPartial sets header o
is_partial sets header o have none bytes lt =
    let b = begins sets header o have none bytes lt in
    not_whole sets header o b.1 b.0 lt b.2 b.3
