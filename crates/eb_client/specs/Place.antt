-- The numbers and places in the words of a client.
use Rattle.std.specs.Prelude.{◌≡◌, ◌≢◌, ◌⊎◌, ℕ, ◌%◌, ◌^◌, ◌<◌, List, [], ◌∷◌, ◌++◌, Some}
use Rattle.eb_base.specs.declared.width.Width.{Width}
use Rattle.eb_base.specs.declared.width.Width.TheVariants.{W32}
use Rattle.eb_base.specs.Width.{octets}
use Rattle.soc_desc.specs.Checks.{hex_of}
use Rattle.eb_text.specs.Command.{Says}

-- A word is this number: in 1 to 20 decimal digits, of 64 bits, or in `0x` and 1 to 16 hexadecimal digits of either case.
abbrev pub SaysNumber : List ℕ → ℕ → Type 0
SaysNumber word n = (hex_of word ≡ Some n) ⊎ (Says word n × (n < 2 ^ 64))

-- the octet of a slash
abbrev pub slash : ℕ
slash = 47

-- `WHERE/WIDTH`, the width in octets
pub record SaysPlaceOf (word : List ℕ) (place : ℕ) (width : Width) : Type 0 where
  pub place_word : List ℕ
  pub width_word : List ℕ
  pub parts : word ≡ place_word ++ slash ∷ width_word
  pub says_place : SaysNumber place_word place
  pub says_width : Says width_word (octets width)

-- `WHERE`, and then 32 bits are taken, or `WHERE/WIDTH`
abbrev pub SaysPlace : List ℕ → ℕ → Width → Type 0
SaysPlace word place width = (SaysNumber word place × (width ≡ W32)) ⊎ SaysPlaceOf word place width

-- The word names an access of this width at an address, which is a multiple of its octets.
pub record IsPlace (word : List ℕ) (place : ℕ) (width : Width) : Type 0 where
  pub says : SaysPlace word place width
  pub whole : place % octets width ≡ 0

-- no slash in a text
abbrev pub HasNoSlash : List ℕ → Type 0
HasNoSlash [] = Unit {0}
HasNoSlash (c ∷ text) = (c ≢ slash) × HasNoSlash text

-- The text before its first slash and behind it.
pub record IsCutAt (text before behind : List ℕ) : Type 0 where
  pub parts : text ≡ before ++ slash ∷ behind
  pub first : HasNoSlash before
