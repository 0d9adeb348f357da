-- What a name is.
use Rattle.std.specs.Prelude.{◌≡◌, ℕ, ◌-◌, ◌&&◌, ◌==◌, List, [], ◌∷◌, ◌++◌, length, replicate, Bool, true, not, nat_le, nat_lt, slice_index}

-- an octet that can be printed
abbrev pub is_printed : ℕ → Bool
is_printed c = nat_le 0x20 c && nat_le c 0x7E

abbrev pub are_printed : List ℕ → Bool
are_printed [] = true
are_printed (c ∷ cs) = is_printed c && are_printed cs

abbrev pub ends_in_space : List ℕ → Bool
ends_in_space text = nat_lt 0 (length text) && slice_index text (length text - 1) == 0x20

abbrev pub is_name : List ℕ → Bool
is_name text = nat_le (length text) 19 && are_printed text && not (ends_in_space text)

-- the name in 19 octets
abbrev pub padded : List ℕ → List ℕ
padded text = text ++ replicate (19 - length text) 0x20

-- 19 octets are a name with its padding exactly where all can be printed
abbrev pub IsPadded : List ℕ → Type 0
IsPadded octets = (length octets ≡ 19) × (are_printed octets ≡ true)
