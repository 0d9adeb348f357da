-- Digits in upper case are those in lower case, each made upper case.
use Rattle.std.proofs.Common.{◌≡◌, ℕ, zero, suc, ◌/◌, ◌%◌, ◌<◌, ◌==◌, ◌&&◌, Bool, true, List, [], ◌∷◌, map, slice_index, inl, inr, refl, ap, ◌∙◌, arith}
use Rattle.std.specs.Char.{to_ascii_uppercase}
use Rattle.std.proofs.lemmas.Bool.{and_parts, cases_lt, eqb-true}
use Rattle.hex.specs.Hex.{encode_with, encode_lower, encode_upper, lower_digits, upper_digits}
use Rattle.eb_base.specs.Field.{IsBytes}

abbrev same_digit : ℕ → Bool
same_digit d = to_ascii_uppercase (slice_index lower_digits d) == slice_index upper_digits d

abbrev all_same : ℕ → Bool
all_same zero = true
all_same (suc n) = same_digit n && all_same n

all_same-at : (n d : ℕ) → all_same n ≡ true → d < n → same_digit d ≡ true
all_same-at zero d all lt = absurd (omega arith)
all_same-at (suc n) d all lt =
    let parts = and_parts (same_digit n) (all_same n) all in
    elim (cases_lt d n) [
      | inl below ↦ all_same-at n d parts.1 below
      | inr top ↦
          let e : d ≡ n = omega arith in
          rw e parts.0
    ]

upper_digit : (d : ℕ) → d < 16 → to_ascii_uppercase (slice_index lower_digits d) ≡ slice_index upper_digits d
upper_digit d lt = eqb-true _ _ (all_same-at 16 d refl lt)

-- the digits of octets, made upper case
upper-encode_lower : (octets : List ℕ) → IsBytes octets → map to_ascii_uppercase (encode_lower octets) ≡ encode_upper octets
unfolding encode_with
upper-encode_lower [] fits = refl
upper-encode_lower (b ∷ octets) fits =
    let byte : b < 256 = fits 0 in
    let high = upper_digit (b / 16) (omega arith) in
    let low = upper_digit (b % 16) (omega arith) in
    let rest = upper-encode_lower octets (λ i. fits (suc i)) in
    λ i. high i ∷ low i ∷ rest i

pub made_upper : (octets lower upper : List ℕ) → IsBytes octets → lower ≡ encode_lower octets → upper ≡ map to_ascii_uppercase lower → upper ≡ encode_upper octets
made_upper octets lower upper fits is made = made ∙ ap (λ l. map to_ascii_uppercase l) is ∙ upper-encode_lower octets fits
