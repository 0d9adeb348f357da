-- A word says one number at most, and has no slash.
use Rattle.std.proofs.Common.{◌≡◌, ◌≢◌, ℕ, ◌+◌, ◌-◌, ◌*◌, ◌^◌, ◌<◌, ◌==◌, ◌||◌, not, nat_lt, if◌then◌else◌, Bool, true, false, List, [], ◌∷◌, min, length, take, get_or, Option, Some, None, option_and_then, inl, inr, refl, sym, ◌∙◌, ap, arith}
use Rattle.std.proofs.lemmas.Bool.Decides.{nat_tests}
use Rattle.std.proofs.lemmas.List.{take_more}
use Rattle.soc_desc.specs.Checks.{digit, digits_after, hex_of}
use Rattle.eb_text.specs.Command.{AreDigits, Says, decimal_value}
use Rattle.eb_text.proofs.DecimalLemmas.{number_push}
use Rattle.eb_client.specs.Place.{SaysNumber, HasNoSlash}

-- a number that stops at its type's end goes on by one more digit
pub more_digits : (text : List ℕ) (i number product sum : ℕ) → i < length text → number ≡ min (decimal_value (take i text)) (2 ^ 128 - 1)
    → product ≡ min (number * 10) (2 ^ 128 - 1) → sum ≡ min (product + (get_or text i 0 - 48)) (2 ^ 128 - 1) → sum ≡ min (decimal_value (take (i + 1) text)) (2 ^ 128 - 1)
more_digits text i number product sum lt is product_is sum_is =
    let next : decimal_value (take (i + 1) text) ≡ 10 * decimal_value (take i text) + (get_or text i 0 - 48) = ap decimal_value (take_more text i 0 lt) ∙ number_push (take i text) (get_or text i 0) in
    omega (arith, next, is, product_is, sum_is)

-- ---- no slash

pub digits_no_slash : (text : List ℕ) → AreDigits text → HasNoSlash text
digits_no_slash [] digits = tt
digits_no_slash (c ∷ text) digits = ((λ same. omega (arith, same, digits.0.0)), digits_no_slash text digits.1)

hex_digit_no_slash : (c d : ℕ) → digit c ≡ Some d → c ≢ 47
hex_digit_no_slash c d is = λ same. let none : digit 47 ≡ Some d = sym (ap digit same) ∙ is in cc none

-- a value behind a value that may be missing
and_then_some : {A B : Type 0} (f : A → Option B) (o : Option A) (b : B) → option_and_then f o ≡ Some b → (a : A) × (o ≡ Some a) × (f a ≡ Some b)
and_then_some f None b is = cc is
and_then_some f (Some a) b is = (a, refl, is)

after_no_slash : (n m : ℕ) (text : List ℕ) → digits_after n text ≡ Some m → HasNoSlash text
after_no_slash n m [] is = tt
after_no_slash n m (c ∷ text) is =
    let p = and_then_some (λ (d : ℕ). digits_after (16 * n + d) text) (digit c) m is in (hex_digit_no_slash c p.0 p.1, after_no_slash (16 * n + p.0) m text p.2)

hex_by : (few most zero_first x_next : Bool) (o : Option ℕ) (n : ℕ) → (if few || most || not zero_first || not x_next then None else o) ≡ Some n → (zero_first ≡ true) × (x_next ≡ true) × (o ≡ Some n)
hex_by true most zero_first x_next o n is = cc is
hex_by false true zero_first x_next o n is = cc is
hex_by false false false x_next o n is = cc is
hex_by false false true false o n is = cc is
hex_by false false true true o n is = (refl, refl, is)

hex_parts : (a b : ℕ) (cs : List ℕ) (n : ℕ) → hex_of (a ∷ b ∷ cs) ≡ Some n → (a ≡ 48) × (b ≡ 120) × (digits_after 0 cs ≡ Some n)
hex_parts a b cs n is =
    let parts = hex_by (nat_lt (length (a ∷ b ∷ cs)) 3) (nat_lt 18 (length (a ∷ b ∷ cs))) (a == 48) (b == 120) (digits_after 0 cs) n is in
    let first : a ≡ 48 = grind (arith, nat_tests, parts.0) in
    let second : b ≡ 120 = grind (arith, nat_tests, parts.1) in
    (first, second, parts.2)

pub hex_no_slash : (word : List ℕ) (n : ℕ) → hex_of word ≡ Some n → HasNoSlash word
hex_no_slash [] n is = tt
hex_no_slash (a ∷ []) n is = cc is
hex_no_slash (a ∷ b ∷ cs) n is =
    let parts = hex_parts a b cs n is in ((λ same. omega (arith, same, parts.0)), ((λ same. omega (arith, same, parts.1)), after_no_slash 0 n cs parts.2))

hex_no_digits : (word : List ℕ) (n : ℕ) → hex_of word ≡ Some n → AreDigits word → ⊥
hex_no_digits [] n is digits = cc is
hex_no_digits (a ∷ []) n is digits = cc is
hex_no_digits (a ∷ b ∷ cs) n is digits = let parts = hex_parts a b cs n is in omega (arith, parts.1, digits.1.0.1)

pub number_no_slash : (word : List ℕ) (n : ℕ) → SaysNumber word n → HasNoSlash word
number_no_slash word n (inl hex) = hex_no_slash word n hex
number_no_slash word n (inr says) = digits_no_slash word says.0.decimal_word.digits

-- ---- one number

pub says_once : (word : List ℕ) (n m : ℕ) → Says word n → Says word m → n ≡ m
says_once word n m a b = a.number ∙ sym b.number

pub number_once : (word : List ℕ) (n m : ℕ) → SaysNumber word n → SaysNumber word m → n ≡ m
number_once word n m (inl a) (inl b) = let same : Some n ≡ Some m = sym a ∙ b in cc same
number_once word n m (inl a) (inr b) = absurd (hex_no_digits word n a b.0.decimal_word.digits)
number_once word n m (inr a) (inl b) = absurd (hex_no_digits word m b a.0.decimal_word.digits)
number_once word n m (inr a) (inr b) = says_once word n m a.0 b.0
