-- The lines of a text, and the words of a line.
use Rattle.std.specs.Prelude.{ℕ, ◌+◌, ◌-◌, ◌==◌, nat_lt, if◌then◌else◌, List, [], length, take, drop, slice_index, Option, Some, None}
use Rattle.std.specs.List.{slice_split}

-- what stands between the octets of this kind, in order
abbrev pub pieces_of : ℕ → List ℕ → List (List ℕ)
pieces_of octet text = slice_split (λ b. b == octet) text

-- the pieces of what is left of a text, if anything is
abbrev pub pieces_left : ℕ → Option (List ℕ) → List (List ℕ)
pieces_left octet None = []
pieces_left octet (Some text) = pieces_of octet text

-- what is left behind the octet at an index, if it is one of the text
abbrev pub left_behind : ℕ → List ℕ → Option (List ℕ)
left_behind at text = if nat_lt at (length text) then Some (drop (at + 1) text) else None

-- the words of a line, which single spaces join
abbrev pub words_of : List ℕ → List (List ℕ)
words_of line = pieces_of 32 line

-- a text without the newline at its end, if one stands there
abbrev pub without_newline : List ℕ → List ℕ
without_newline text = if slice_index text (length text - 1) == 10 then take (length text - 1) text else text

-- The lines of a text: each ends with a newline, which the last one may lack. The empty text has none.
abbrev pub lines_of : List ℕ → List (List ℕ)
lines_of text = if length text == 0 then [] else pieces_of 10 (without_newline text)
