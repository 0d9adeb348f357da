-- Digits piece by piece.
use Rattle.std.proofs.Common.{◌≡◌, ℕ, ◌/◌, ◌%◌, slice_index, List, [], ◌∷◌, ◌++◌, length, take, drop, refl, sym, ap, ◌∙◌, subst, arith}
use Rattle.std.proofs.lemmas.List.{take-append-drop}
use Rattle.hex.specs.Hex.{encode_with, upper_digits}
use Rattle.eb_io.specs.Text.{hex_text}
use Rattle.eb_io.proofs.PageLemmas.{Paging}
use Rattle.eb_io.specs.Reading.{Reading}
use Rattle.eb_io.specs.Writing.{Writing}

with_both : (t xs ys : List ℕ) → encode_with t (xs ++ ys) ≡ encode_with t xs ++ encode_with t ys
unfolding encode_with
with_both t [] ys = refl
with_both t (x ∷ xs) ys = ap (λ (l : List ℕ). slice_index t (x / 16) ∷ slice_index t (x % 16) ∷ l) (with_both t xs ys)

-- no octets are left
pub digits_end : (xs : List ℕ) → length xs ≡ 0 → hex_text xs ≡ []
unfolding encode_with
digits_end [] none = refl
digits_end (x ∷ xs) none = absurd (omega (arith, none))

-- the digits of octets are those of a piece, and then those of the rest
pub hex_parts : (n : ℕ) (xs : List ℕ) → hex_text xs ≡ hex_text (take n xs) ++ hex_text (drop n xs)
hex_parts n xs = ap hex_text (sym (take-append-drop n xs)) ∙ with_both upper_digits (take n xs) (drop n xs)

module _ {S : Type 0} (writing : S → Writing) (reading : S → Reading) where
  -- a piece of the rest is the next part
  pub next_piece : (old mid : S) (page held text rest piece : List ℕ) (n : ℕ) → piece ≡ hex_text (take n rest) → Paging writing reading old mid page held text (hex_text rest)
      → Paging writing reading old mid page held text (piece ++ hex_text (drop n rest))
  next_piece old mid page held text rest piece n is went =
      subst (λ (l : List ℕ). Paging writing reading old mid page held text l) (hex_parts n rest ∙ ap (λ (l : List ℕ). l ++ hex_text (drop n rest)) (sym is)) went
