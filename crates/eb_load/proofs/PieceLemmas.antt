-- What is given of a piece.
use Rattle.std.proofs.Common.{◌≡◌, ℕ, ◌+◌, ◌≤◌, List, ◌++◌, length, take, drop, arith, ap, ◌∙◌, append_assoc, length-take, length-drop}
use Rattle.std.proofs.lemmas.List.{take_at, take-append-drop, drop-drop}

-- The next n octets stand at the front of the room; the others of the piece, and the rest behind them, are left.
pub given_front : (items chunk tail rest : List ℕ) (at n : ℕ) → chunk ≡ take n (drop at items) → at + n ≤ length items → drop at items ++ rest ≡ take n (chunk ++ tail) ++ (drop (at + n) items ++ rest)
given_front items chunk tail rest at n is within =
    let l : List ℕ = drop at items in
    let long : length chunk ≡ n = ap length is ∙ simp (length-take, length-drop) (omega arith) in
    let front = take_at chunk tail n long in
    let whole = take-append-drop n l in
    let assoc = append_assoc (take n l) (drop n l) rest in
    let back = drop-drop n at items in
    cc
