-- Lines, and numbers in them. `decimal` of std is a number in decimal digits.
use Rattle.std.specs.Prelude.{ℕ, List, [], ◌∷◌, ◌++◌}
use Rattle.hex.specs.Hex.{encode_upper}
use Rattle.eb_base.specs.declared.width.Width.TheVariants.{W64}
use Rattle.eb_base.specs.Field.{octets_of}

-- a line, with its end
abbrev pub line : List ℕ → List ℕ
line text = text ++ 10 ∷ []

-- octets in hexadecimal digits, in upper case, two an octet
abbrev pub hex_text : List ℕ → List ℕ
hex_text octets = encode_upper octets

-- a number in 16 hexadecimal digits
abbrev pub digits_16 : ℕ → List ℕ
digits_16 n = hex_text (octets_of W64 n)

-- an octet in 2 hexadecimal digits
abbrev pub digits_2 : ℕ → List ℕ
digits_2 n = hex_text (n ∷ [])
