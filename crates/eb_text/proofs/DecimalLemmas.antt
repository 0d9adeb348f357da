-- How a loop over digits goes on.
use Rattle.std.proofs.Common.{◌≡◌, ℕ, zero, suc, ◌+◌, ◌-◌, ◌*◌, ◌<◌, List, [], ◌∷◌, ◌++◌, min, ◌^◌, length, take, get_or, sym, ◌∙◌, ap, subst, arith}
use Rattle.std.proofs.lemmas.List.{take_more}
use Rattle.std.proofs.lemmas.Grind.{fold-append}
use Rattle.eb_text.specs.Command.{AreDigits, IsDigit, decimal_value}

pub digits_append : (xs ys : List ℕ) → AreDigits xs → AreDigits ys → AreDigits (xs ++ ys)
digits_append [] ys a b = b
digits_append (x ∷ xs) ys a b = (a.0, digits_append xs ys a.1 b)

pub digit_in : (xs : List ℕ) (i : ℕ) → i < length xs → AreDigits xs → IsDigit (get_or xs i 0)
digit_in [] i lt digits = absurd (omega arith)
digit_in (x ∷ xs) zero lt digits = digits.0
digit_in (x ∷ xs) (suc i) lt digits = digit_in xs i (omega arith) digits.1

pub number_push : (xs : List ℕ) (x : ℕ) → decimal_value (xs ++ x ∷ []) ≡ 10 * decimal_value xs + (x - 48)
number_push xs x = fold-append (λ (n digit : ℕ). 10 * n + (digit - 48)) 0 xs (x ∷ [])

-- a number that stops at its type's end goes on by one more digit
pub goes_on : (text : List ℕ) (i number product sum : ℕ) → i < length text → number ≡ min (decimal_value (take i text)) (2 ^ 64 - 1)
    → product ≡ min (number * 10) (2 ^ 64 - 1) → sum ≡ min (product + (get_or text i 0 - 48)) (2 ^ 64 - 1) → sum ≡ min (decimal_value (take (i + 1) text)) (2 ^ 64 - 1)
goes_on text i number product sum lt is product_is sum_is =
    let next : decimal_value (take (i + 1) text) ≡ 10 * decimal_value (take i text) + (get_or text i 0 - 48) = ap decimal_value (take_more text i 0 lt) ∙ number_push (take i text) (get_or text i 0) in
    omega (arith, next, is, product_is, sum_is)

pub digits_more : (text : List ℕ) (i : ℕ) → i < length text → AreDigits (take i text) → IsDigit (get_or text i 0) → AreDigits (take (i + 1) text)
digits_more text i lt digits digit = subst (λ (l : List ℕ). AreDigits l) (sym (take_more text i 0 lt)) (digits_append (take i text) (get_or text i 0 ∷ []) digits (digit, tt))
