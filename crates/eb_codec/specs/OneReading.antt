-- Octets are read in one way, and to an end.
use Rattle.std.specs.Prelude.{◌≡◌, ◌↔◌, ◌⊎◌, ℕ, ◌<◌, List, ◌++◌, Option, Some, None, true, false}
use Rattle.eb_base.specs.declared.width.Widths.{Widths}
use Rattle.eb_base.specs.Field.{IsBytes}
use Rattle.eb_codec.specs.declared.item.Header.{Header}
use Rattle.eb_codec.specs.declared.item.Why.{Why}
use Rattle.eb_codec.specs.Rules.{breaks, broken, number_of}
use Rattle.eb_codec.specs.Stream.{StreamItem, HaveWidths, SpellsAll, AreItems, IsPartial, IsFirstBad, HasNoBad, header_after_all}

-- Octets have one list of items, and one rest.
abbrev pub OneListOfItems : Type 0
OneListOfItems = (sets : Widths) (header : Option Header) (octets rest left : List ℕ) (items others : List StreamItem)
    → AreItems sets header octets items rest → AreItems sets header octets others left → (items ≡ others) × (rest ≡ left)

-- Items that are spelled by a front of the octets are the first of its items.
abbrev pub FrontOfItems : Type 0
FrontOfItems = (sets : Widths) (header : Option Header) (octets rest a b : List ℕ) (items others : List StreamItem)
    → AreItems sets header octets items rest → octets ≡ a ++ b → SpellsAll sets header others a → (more : List StreamItem) × (items ≡ others ++ more)

-- Octets have at most one first bad octet, and it breaks one rule.
abbrev pub OneFirstBad : Type 0
OneFirstBad = (sets : Widths) (header : Option Header) (octets : List ℕ) (p q : ℕ) (why other : Why)
    → IsFirstBad sets header octets p why → IsFirstBad sets header octets q other → (p ≡ q) × (why ≡ other)

-- The rule that is named breaks at that octet, and none with a lower number does.
abbrev pub LowestRule : Type 0
LowestRule = (sets : Widths) (header : Option Header) (octets : List ℕ) (k : ℕ) (why : Why)
    → (broken sets header octets k ≡ Some why)
    ↔ ((breaks sets header octets k why ≡ true) × ((lower : Why) → number_of lower < number_of why → breaks sets header octets k lower ≡ false))

-- All octets have items, and behind them either less than an item, or nothing, and then no octet is bad; or a first bad octet.
abbrev pub HaveEnd : Type 0
HaveEnd = (sets : Widths) (octets : List ℕ) → HaveWidths sets → IsBytes octets → (items : List StreamItem) × (rest : List ℕ) × AreItems sets None octets items rest
    × ((IsPartial sets (header_after_all None items) rest × HasNoBad sets octets) ⊎ ((p : ℕ) × (why : Why) × IsFirstBad sets None octets p why))
