-- A text in a field of a record, and what may stand behind it there.
use Rattle.std.specs.Prelude.{ℕ, ◌-◌, ◌&&◌, ◌||◌, ◌==◌, if◌then◌else◌, List, [], ◌∷◌, ◌++◌, length, replicate, position, Option, Bool, true, not}
use Rattle.eb_base.specs.Name.{is_printed}

-- an octet that may stand behind a text
abbrev pub is_blank : ℕ → Bool
is_blank c = c == 0x20 || c == 0x00

abbrev pub are_blank : List ℕ → Bool
are_blank [] = true
are_blank (c ∷ cs) = is_blank c && are_blank cs

-- what stands before the longest suffix of octets 0x20 and 0x00
abbrev pub text_in : List ℕ → List ℕ
text_in [] = []
text_in (c ∷ cs) = if are_blank (c ∷ cs) then [] else c ∷ text_in cs

-- a text in a field of so many octets, padded with spaces
abbrev pub spaced : ℕ → List ℕ → List ℕ
spaced size text = text ++ replicate (size - length text) 0x20

-- the place of the first octet outside 0x20 to 0x7E
abbrev pub unprinted : List ℕ → Option ℕ
unprinted text = position (λ c. not (is_printed c)) text
