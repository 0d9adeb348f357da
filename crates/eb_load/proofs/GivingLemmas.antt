-- How what was given grows.
use Rattle.std.proofs.Common.{◌≡◌, ℕ, ◌+◌, ◌≤◌, List, ◌++◌, length, take, drop, arith, sym, ap, ◌∙◌, append_assoc, length-append, length-take, length-drop}
use Rattle.std.proofs.lemmas.List.{take_at}
use Rattle.eb_load.proofs.PieceLemmas.{given_front}

front_len : (all : List ℕ) (given : ℕ) → given ≤ length all → length (take given all) ≡ given
front_len all given le = length-take given all ∙ omega arith

few_more : (all left chunk more : List ℕ) (given n : ℕ) → given ≤ length all → all ≡ take given all ++ left → left ≡ chunk ++ more → length chunk ≡ n → given + n ≤ length all
few_more all left chunk more given n le parts is long =
    omega (arith, ap length parts, ap length is, length-append (take given all) left, length-append chunk more, front_len all given le, long)

whole : (all left chunk more : List ℕ) (given : ℕ) → all ≡ take given all ++ left → left ≡ chunk ++ more → all ≡ (take given all ++ chunk) ++ more
whole all left chunk more given parts is = parts ∙ ap (λ (l : List ℕ). take given all ++ l) is ∙ sym (append_assoc (take given all) chunk more)

given_more : (all left chunk more : List ℕ) (given n : ℕ) → given ≤ length all → all ≡ take given all ++ left → left ≡ chunk ++ more → length chunk ≡ n → take (given + n) all ≡ take given all ++ chunk
given_more all left chunk more given n le parts is long =
    let count : length (take given all ++ chunk) ≡ given + n = omega (arith, length-append (take given all) chunk, front_len all given le, long) in
    ap (λ (l : List ℕ). take (given + n) l) (whole all left chunk more given parts is) ∙ take_at (take given all ++ chunk) more (given + n) count

parts_more : (all left chunk more : List ℕ) (given n : ℕ) → given ≤ length all → all ≡ take given all ++ left → left ≡ chunk ++ more → length chunk ≡ n → all ≡ take (given + n) all ++ more
parts_more all left chunk more given n le parts is long =
    whole all left chunk more given parts is ∙ ap (λ (l : List ℕ). l ++ more) (sym (given_more all left chunk more given n le parts is long))

-- ---- the octets that were copied from the piece to the room

module _ (items chunk tail rest all : List ℕ) (at n given : ℕ) (is : chunk ≡ take n (drop at items)) (within : at + n ≤ length items) (few : given ≤ length all)
    (parts : all ≡ take given all ++ (drop at items ++ rest)) where
  gave : drop at items ++ rest ≡ take n (chunk ++ tail) ++ (drop (at + n) items ++ rest)
  gave = given_front items chunk tail rest at n is within

  long : length (take n (chunk ++ tail)) ≡ n
  long =
      let copied : length chunk ≡ n = ap length is ∙ simp (length-take, length-drop) (omega arith) in
      ap length (take_at chunk tail n copied) ∙ copied

  pub few_after : given + n ≤ length all
  few_after = few_more all (drop at items ++ rest) (take n (chunk ++ tail)) (drop (at + n) items ++ rest) given n few parts gave long

  pub given_after : take (given + n) all ≡ take given all ++ take n (chunk ++ tail)
  given_after = given_more all (drop at items ++ rest) (take n (chunk ++ tail)) (drop (at + n) items ++ rest) given n few parts gave long

  pub parts_after : all ≡ take (given + n) all ++ (drop (at + n) items ++ rest)
  parts_after = parts_more all (drop at items ++ rest) (take n (chunk ++ tail)) (drop (at + n) items ++ rest) given n few parts gave long
