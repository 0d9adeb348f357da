-- Texts in their fields: what the longest suffix of spaces and zeros leaves.
use Rattle.std.proofs.Common.{◌≡◌, ℕ, zero, suc, ◌+◌, ◌-◌, ◌<◌, ◌≤◌, Bool, true, false, not, ◌&&◌, eqb, List, [], ◌∷◌, ◌++◌, length, take, get_or, replicate, Some, None, refl, sym, ap, ◌∙◌, arith, inl, inr}
use Rattle.std.specs.Prelude.{nat_lt}
use Rattle.std.specs.List.{position_or_len}
use Rattle.std.proofs.lemmas.Bool.{cases_Bool, and_parts, and_from, and_cases, both_ways, or_parts, le-leb, lt-ltb, le-ltb, not_from_false, cases_lt}
use Rattle.std.proofs.lemmas.Bool.Decides.{nat_tests}
use Rattle.std.proofs.lemmas.List.{take_more, length-append, length-replicate}
use Rattle.eb_base.specs.Name.{is_printed, are_printed, ends_in_space, is_name}
use Rattle.sdb_record.specs.Text.{is_blank, are_blank, text_in, spaced, unprinted}

-- ---- one octet more

are_blank-push : (xs : List ℕ) (c : ℕ) → are_blank (xs ++ c ∷ []) ≡ (are_blank xs && is_blank c)
are_blank-push [] c = grind arith
are_blank-push (x ∷ xs) c = rw (are_blank-push xs c) (grind arith)

pub text_in-blank : (xs : List ℕ) (c : ℕ) → is_blank c ≡ true → text_in (xs ++ c ∷ []) ≡ text_in xs
text_in-blank [] c b = grind arith
text_in-blank (x ∷ xs) c b = grind (arith, are_blank-push xs c, text_in-blank xs c b)

pub text_in-other : (xs : List ℕ) (c : ℕ) → is_blank c ≡ false → text_in (xs ++ c ∷ []) ≡ xs ++ c ∷ []
text_in-other [] c b = grind arith
text_in-other (x ∷ xs) c b = grind (arith, are_blank-push xs c, text_in-other xs c b)

-- one blank octet less
pub text_less : (xs : List ℕ) (n : ℕ) → 0 < n → n ≤ length xs → is_blank (get_or xs (n - 1) 0) ≡ true → text_in (take n xs) ≡ text_in (take (n - 1) xs)
text_less xs n pos le b =
    let m : n - 1 + 1 ≡ n = omega arith in
    let lt : n - 1 < length xs = omega arith in
    ap (λ (k : ℕ). text_in (take k xs)) (sym m) ∙ ap text_in (take_more xs (n - 1) 0 lt) ∙ text_in-blank (take (n - 1) xs) (get_or xs (n - 1) 0) b

-- an octet that isn't blank ends the text
pub text_ends : (xs : List ℕ) (n : ℕ) → 0 < n → n ≤ length xs → is_blank (get_or xs (n - 1) 0) ≡ false → text_in (take n xs) ≡ take n xs
text_ends xs n pos le b =
    let m : n - 1 + 1 ≡ n = omega arith in
    let lt : n - 1 < length xs = omega arith in
    let e : take n xs ≡ take (n - 1) xs ++ get_or xs (n - 1) 0 ∷ [] = ap (λ (k : ℕ). take k xs) (sym m) ∙ take_more xs (n - 1) 0 lt in
    ap text_in e ∙ text_in-other (take (n - 1) xs) (get_or xs (n - 1) 0) b ∙ sym e

-- ---- a text that can be printed is a name

are_printed-append : (xs ys : List ℕ) → are_printed (xs ++ ys) ≡ (are_printed xs && are_printed ys)
are_printed-append [] ys = grind arith
are_printed-append (x ∷ xs) ys = rw (are_printed-append xs ys) (grind arith)

printed_through : (xs : List ℕ) → length xs ≤ position_or_len (λ c. not (is_printed c)) xs → are_printed xs ≡ true
printed_through [] le = refl
printed_through (x ∷ xs) le =
    elim (cases_Bool (is_printed x)) [
      | inl y ↦
          let e : position_or_len (λ c. not (is_printed c)) (x ∷ xs) ≡ 1 + position_or_len (λ c. not (is_printed c)) xs = rw y refl in
          and_from (is_printed x) (are_printed xs) y (printed_through xs (omega (arith, e)))
      | inr n ↦
          let e : position_or_len (λ c. not (is_printed c)) (x ∷ xs) ≡ 0 = rw n refl in
          absurd (omega (arith, e))
    ]

through_printed : (xs : List ℕ) → are_printed xs ≡ true → length xs ≤ position_or_len (λ c. not (is_printed c)) xs
through_printed [] p = omega arith
through_printed (x ∷ xs) p =
    let parts = and_parts (is_printed x) (are_printed xs) p in
    let y = parts.0 in
    let e : position_or_len (λ c. not (is_printed c)) (x ∷ xs) ≡ 1 + position_or_len (λ c. not (is_printed c)) xs = rw y refl in
    omega (arith, e, through_printed xs parts.1)

pub printed : (xs : List ℕ) → unprinted xs ≡ None → are_printed xs ≡ true
printed xs e =
    elim (cases_lt (position_or_len (λ c. not (is_printed c)) xs) (length xs)) [
      | inl lt ↦ let t = lt-ltb _ _ lt in let f : unprinted xs ≡ Some (position_or_len (λ c. not (is_printed c)) xs) = rw t refl in absurd cc
      | inr le ↦ printed_through xs le
    ]

pub none_unprinted : (xs : List ℕ) → are_printed xs ≡ true → unprinted xs ≡ None
none_unprinted xs p = let t = le-ltb (position_or_len (λ c. not (is_printed c)) xs) (length xs) (through_printed xs p) in rw t refl

-- the text before the padding of a name can be printed
pub printed_front : (xs ys : List ℕ) → are_printed (xs ++ ys) ≡ true → are_printed xs ≡ true
printed_front xs ys p = let parts = and_parts (are_printed xs) (are_printed ys) (sym (are_printed-append xs ys) ∙ p) in parts.0

printed_spaces : (n : ℕ) → are_printed (replicate n 0x20) ≡ true
printed_spaces zero = refl
printed_spaces (suc n) = printed_spaces n

pub printed_spaced : (size : ℕ) (text : List ℕ) → are_printed text ≡ true → are_printed (spaced size text) ≡ true
printed_spaced size text p = are_printed-append text (replicate (size - length text) 0x20) ∙ and_from _ _ p (printed_spaces (size - length text))

pub length-spaced : (size : ℕ) (text : List ℕ) → length text ≤ size → length (spaced size text) ≡ size
length-spaced size text le = omega (arith, length-append text (replicate (size - length text) 0x20), length-replicate {A = ℕ} (size - length text) 0x20)

pub length-text_in : (xs : List ℕ) → length (text_in xs) ≤ length xs
length-text_in [] = omega arith
length-text_in (x ∷ xs) =
    elim (cases_Bool (are_blank (x ∷ xs))) [
      | inl y ↦ let e : text_in (x ∷ xs) ≡ [] = rw y refl in omega (arith, ap length e)
      | inr n ↦ let e : text_in (x ∷ xs) ≡ x ∷ text_in xs = rw n refl in omega (arith, ap length e, length-text_in xs)
    ]

-- nothing is left of blank octets alone
text_in-none : (xs : List ℕ) → text_in xs ≡ [] → are_blank xs ≡ true
text_in-none [] e = refl
text_in-none (x ∷ xs) e =
    elim (cases_Bool (are_blank (x ∷ xs))) [
      | inl y ↦ y
      | inr n ↦ let f : text_in (x ∷ xs) ≡ x ∷ text_in xs = rw n refl in absurd cc
    ]

ends_in_space-cons : (x y : ℕ) (ys : List ℕ) → ends_in_space (x ∷ y ∷ ys) ≡ ends_in_space (y ∷ ys)
ends_in_space-cons x y ys =
    let a : length (x ∷ y ∷ ys) - 1 ≡ suc (length (y ∷ ys) - 1) = omega arith in
    let g : get_or (x ∷ y ∷ ys) (length (x ∷ y ∷ ys) - 1) 0 ≡ get_or (y ∷ ys) (length (y ∷ ys) - 1) 0 = ap (λ (k : ℕ). get_or (x ∷ y ∷ ys) k 0) a in
    let l : nat_lt 0 (length (x ∷ y ∷ ys)) ≡ true = lt-ltb _ _ (omega arith) in
    let m : nat_lt 0 (length (y ∷ ys)) ≡ true = lt-ltb _ _ (omega arith) in
    ap (λ (b : Bool). b && eqb (get_or (x ∷ y ∷ ys) (length (x ∷ y ∷ ys) - 1) 0) 0x20) l ∙ ap (λ (c : ℕ). eqb c 0x20) g ∙ ap (λ (b : Bool). b && eqb (get_or (y ∷ ys) (length (y ∷ ys) - 1) 0) 0x20) (sym m)

no_space_by : (x : ℕ) (t : List ℕ) → (t ≡ [] → is_blank x ≡ false) → ends_in_space t ≡ false → ends_in_space (x ∷ t) ≡ false
no_space_by x [] one rest = let b : is_blank x ≡ false = one refl in let p = or_parts (eqb x 0x20) (eqb x 0x00) b in p.0
no_space_by x (y ∷ ys) one rest = ends_in_space-cons x y ys ∙ rest

pub ends_in_text : (xs : List ℕ) → ends_in_space (text_in xs) ≡ false
ends_in_text [] = refl
ends_in_text (x ∷ xs) =
    elim (cases_Bool (are_blank (x ∷ xs))) [
      | inl y ↦ let e : text_in (x ∷ xs) ≡ [] = rw y refl in ap ends_in_space e
      | inr n ↦
          let e : text_in (x ∷ xs) ≡ x ∷ text_in xs = rw n refl in
          ap ends_in_space e ∙ no_space_by x (text_in xs)
          (λ none. elim (and_cases (is_blank x) (are_blank xs) n) [ inl b ↦ b | inr b ↦ absurd (both_ways _ b (text_in-none xs none)) ])
          (ends_in_text xs)
    ]

pub text_is_name : (xs : List ℕ) → length xs ≤ 19 → unprinted (text_in xs) ≡ None → is_name (text_in xs) ≡ true
text_is_name xs le e =
    and_from _ _ (and_from _ _ (le-leb _ _ (omega (arith, length-text_in xs))) (printed (text_in xs) e)) (not_from_false _ (ends_in_text xs))

-- ---- padded with spaces and read again

blank_is_space : (x : ℕ) → is_blank x ≡ true → is_printed x ≡ true → 0x20 ≡ x
blank_is_space x b p = grind (arith, nat_tests)

all_spaces : (xs : List ℕ) → are_blank xs ≡ true → are_printed xs ≡ true → replicate (length xs) 0x20 ≡ xs
all_spaces [] b p = refl
all_spaces (x ∷ xs) b p =
    let bs = and_parts (is_blank x) (are_blank xs) b in
    let ps = and_parts (is_printed x) (are_printed xs) p in
    let e = blank_is_space x bs.0 ps.0 in
    let f = all_spaces xs bs.1 ps.1 in
    cc

-- A text of octets that can be printed is its front, padded with the spaces at its end.
pub spaced_again : (text : List ℕ) → are_printed text ≡ true → spaced (length text) (text_in text) ≡ text
spaced_again [] p = refl
spaced_again (x ∷ xs) p =
    elim (cases_Bool (are_blank (x ∷ xs))) [
      | inl y ↦
          let e : text_in (x ∷ xs) ≡ [] = rw y refl in
          let z : length (x ∷ xs) - 0 ≡ length (x ∷ xs) = omega arith in
          ap (spaced (length (x ∷ xs))) e ∙ ap (λ (n : ℕ). replicate n 0x20) z ∙ all_spaces (x ∷ xs) y p
      | inr n ↦
          let e : text_in (x ∷ xs) ≡ x ∷ text_in xs = rw n refl in
          let ps = and_parts (is_printed x) (are_printed xs) p in
          let z : length (x ∷ xs) - length (x ∷ text_in xs) ≡ length xs - length (text_in xs) = omega arith in
          ap (spaced (length (x ∷ xs))) e ∙ ap (λ (k : ℕ). x ∷ (text_in xs ++ replicate k 0x20)) z ∙ ap (λ (l : List ℕ). x ∷ l) (spaced_again xs ps.1)
    ]
