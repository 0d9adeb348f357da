-- Numbers in digits.
use Rattle.std.specs.Prelude.{ℕ, ◌+◌, ◌-◌, ◌*◌, nat_lt, nat_le, ◌&&◌, if◌then◌else◌, List, [], ◌∷◌, length, Option, Some, None, option_and_then}

-- a hexadecimal digit, of either case
abbrev pub digit_value : ℕ → Option ℕ
digit_value c =
    if nat_le 48 c && nat_le c 57 then Some (c - 48)
    else (if nat_le 65 c && nat_le c 70 then Some (c - 55)
    else (if nat_le 97 c && nat_le c 102 then Some (c - 87) else None))

-- a digit of this base
abbrev pub digit_below : ℕ → ℕ → Option ℕ
digit_below base c = option_and_then (λ d. if nat_lt d base then Some d else None) (digit_value c)

-- the number that these digits say behind others, which say n
abbrev pub number_behind : ℕ → ℕ → List ℕ → Option ℕ
number_behind base n [] = Some n
number_behind base n (c ∷ cs) = option_and_then (λ d. number_behind base (base * n + d) cs) (digit_below base c)

-- the number that a word of 1 to `most` digits of this base says
abbrev pub number_of : ℕ → ℕ → List ℕ → Option ℕ
number_of base most word = if nat_le 1 (length word) && nat_le (length word) most then number_behind base 0 word else None

-- in decimal digits, at most 5
abbrev pub decimal_of : List ℕ → Option ℕ
decimal_of word = number_of 10 5 word

-- in hexadecimal digits, at most so many
abbrev pub hex_number : ℕ → List ℕ → Option ℕ
hex_number most word = number_of 16 most word
