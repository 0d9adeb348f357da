-- A name without the spaces that pad it.
use Rattle.std.proofs.Common.{◌≡◌, ℕ, zero, suc, ◌+◌, ◌-◌, ◌<◌, ◌≤◌, true, false, List, [], ◌∷◌, length, take, get_or, refl, sym, ap, ◌∙◌, arith}
use Rattle.std.proofs.lemmas.Bool.{and_parts}
use Rattle.std.proofs.lemmas.Bool.Decides.{nat_tests}
use Rattle.std.proofs.lemmas.List.{take_all}
use Rattle.std.specs.Char.{is_ascii_whitespace}
use Rattle.std.specs.Str.{IsAsciiWhitespaceFrom, IsTrimAsciiEnd}
use Rattle.eb_base.specs.Name.{is_printed, are_printed}
use Rattle.sdb_record.specs.Text.{is_blank, text_in}
use Rattle.sdb_record.proofs.TextLemmas.{text_less, text_ends}

printed_at : (s : List ℕ) (i : ℕ) → i < length s → are_printed s ≡ true → is_printed (get_or s i 0) ≡ true
printed_at [] i lt p = absurd (omega arith)
printed_at (c ∷ cs) zero lt p = let parts = and_parts (is_printed c) (are_printed cs) p in parts.0
printed_at (c ∷ cs) (suc i) lt p = let parts = and_parts (is_printed c) (are_printed cs) p in printed_at cs i (omega arith) parts.1

-- of what can be printed, the space alone is white and may pad
space_is_blank : (c : ℕ) → is_printed c ≡ true → is_ascii_whitespace c ≡ true → is_blank c ≡ true
space_is_blank c p w = grind (arith, nat_tests)

other_is_none : (c : ℕ) → is_printed c ≡ true → is_ascii_whitespace c ≡ false → is_blank c ≡ false
other_is_none c p w = grind (arith, nat_tests)

-- the spaces at the end are no part of the text
spaces : (s : List ℕ) (d n : ℕ) → n + d ≡ length s → are_printed s ≡ true → IsAsciiWhitespaceFrom s n → text_in (take n s) ≡ text_in s
spaces s zero n size p white = ap text_in (take_all n s (omega (arith, size)))
spaces s (suc d) n size p white =
    let one : n + 1 - 1 ≡ n = omega arith in
    let blank : is_blank (get_or s n 0) ≡ true = space_is_blank (get_or s n 0) (printed_at s n (omega (arith, size)) p) (white n (omega arith) (omega (arith, size))) in
    let less : text_in (take (n + 1) s) ≡ text_in (take (n + 1 - 1) s) =
    text_less s (n + 1) (omega arith) (omega (arith, size)) (ap (λ (k : ℕ). is_blank (get_or s k 0)) one ∙ blank) in
    sym (less ∙ ap (λ (k : ℕ). text_in (take k s)) one) ∙ spaces s d (n + 1) (omega (arith, size)) p (λ i le lt. white i (omega (arith, le)) lt)

ends : (s : List ℕ) (n : ℕ) → n ≤ length s → are_printed s ≡ true → (0 < n → is_ascii_whitespace (get_or s (n - 1) 0) ≡ false) → take n s ≡ text_in (take n s)
ends s zero le p stops = refl
ends s (suc k) le p stops =
    let lt : suc k - 1 < length s = omega (arith, le) in
    sym (text_ends s (suc k) (omega arith) le (other_is_none (get_or s (suc k - 1) 0) (printed_at s (suc k - 1) lt p) (stops (omega arith))))

-- what can be printed, without the white space at its end, is its text
pub trimmed : (s r : List ℕ) → are_printed s ≡ true → IsTrimAsciiEnd s r → r ≡ text_in s
trimmed s r p (n, is, size, le, white, stops) = is ∙ ends s n le p stops ∙ spaces s (length s - n) n (omega (arith, le)) p white
