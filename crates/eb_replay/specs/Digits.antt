-- A reply in digits.
use Rattle.std.specs.Prelude.{ℕ, List, [], ◌∷◌, codes}
use Rattle.eb_io.specs.Text.{hex_text}

-- the octets of a reply in hexadecimal digits, or a mark where there are none
abbrev pub reply_text : List ℕ → List ℕ
reply_text [] = codes "-"
reply_text (x ∷ xs) = hex_text (x ∷ xs)
