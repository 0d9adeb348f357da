-- The text of a path, place by place.
use Rattle.std.proofs.Common.{◌≡◌, ℕ, ◌<◌, List, [], ◌∷◌, ◌++◌, length, drop, get_or, refl, arith, append_assoc}
use Rattle.std.specs.Prelude.{decimal}
use Rattle.eb_text.specs.Listing.{steps_text, path_text}

pub first_place : (path : List ℕ) → 0 < length path → decimal (get_or path 0 0) ++ steps_text (drop 1 path) ≡ path_text path
first_place [] some = absurd (omega arith)
first_place (i ∷ steps) some = refl

-- a line in two parts, the first of which is the path
pub two_parts : (a b c d : List ℕ) → a ++ (b ++ c ++ d) ≡ a ++ b ++ c ++ d
two_parts a b c d = simp (append_assoc) refl
