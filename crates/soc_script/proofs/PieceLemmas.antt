-- The first piece of a text, and those behind it.
use Rattle.std.proofs.Common.{◌≡◌, ◌≢◌, ℕ, ◌+◌, ◌<◌, ◌≤◌, ◌==◌, nat_lt, Bool, inl, inr, true, false, not, List, ◌∷◌, length, get_or, take, drop, arith}
use Rattle.std.specs.List.{All, position_or_len}
use Rattle.std.proofs.lemmas.Bool.{cases_lt}
use Rattle.std.proofs.lemmas.List.{take_all, get_or_default}
use Rattle.std.proofs.lemmas.List.Sums.{prefix_len_is}
use Rattle.std.proofs.lemmas.List.Splits.{slice_split_first, slice_split_none}
use Rattle.soc_script.specs.Words.{pieces_of, pieces_left, left_behind}

differs : (c octet : ℕ) → c ≢ octet → (c == octet) ≡ false
differs c octet n = grind arith

same : (c octet : ℕ) → c ≡ octet → (c == octet) ≡ true
same c octet e = grind arith

opposite : (b : Bool) → b ≡ false → not b ≡ true
opposite b e = rw e

other : (b : Bool) → b ≡ true → not b ≡ false
other b e = rw e

module _ (octet : ℕ) (text : List ℕ) (at : ℕ) (within : at ≤ length text) (before : (k : ℕ) → k < at → get_or text k 0 ≢ octet) (found : at < length text → get_or text at 0 ≡ octet) where
  end_is : position_or_len (λ b. b == octet) text ≡ at
  end_is = prefix_len_is (λ b. not (b == octet)) text at 0 within
      (λ k l. opposite (get_or text k 0 == octet) (differs (get_or text k 0) octet (before k l)))
      (λ l. other (get_or text at 0 == octet) (same (get_or text at 0) octet (found l)))

  pub next_piece : pieces_of octet text ≡ take at text ∷ pieces_left octet (left_behind at text)
  next_piece =
      elim (cases_lt at (length text)) [
        | inl l ↦
            let more : nat_lt at (length text) ≡ true = grind arith in
            let some : position_or_len (λ b. b == octet) text < length text = rw end_is l in
            let first : pieces_of octet text ≡ take at text ∷ pieces_of octet (drop (at + 1) text) =
            rw (end_is) at (slice_split_first (λ b. b == octet) text 0 some) in
            rw more first
        | inr g ↦
            let no_more : nat_lt at (length text) ≡ false = grind arith in
            let whole : take at text ≡ text = take_all at text g in
            let none : All (λ b. (b == octet) ≡ false) text = λ k d l.
            let here : get_or text k d ≢ octet = rw (get_or_default text k d 0 l) (before k (omega arith)) in
            differs (get_or text k d) octet here in
            rw (no_more, whole) (slice_split_none (λ b. b == octet) text none)
      ]
