-- How a decoder's room is filled, and what is kept of an item that ended.
use Rattle.std.specs.Prelude.{◌≡◌, ℕ, ◌+◌, ◌-◌, ◌<◌, ◌≤◌, Bool, true, false, List, ◌++◌, length, take, Option, Some}
use Rattle.eb_base.specs.declared.width.Widths.{Widths}
use Rattle.eb_codec.specs.declared.item.Header.{Header}
use Rattle.eb_codec.specs.declared.item.Why.{Why}
use Rattle.eb_codec.specs.declared.event.Item.{Item}
use Rattle.eb_codec.specs.declared.event.Item.TheVariants as item
use Rattle.eb_codec.specs.Rules.{broken}
use Rattle.eb_codec.specs.Stream.{BreaksNone}

-- The room's first n octets are what pended and a front of the piece, and break no rule.
pub record IsFilled (sets : Widths) (header : Option Header) (pending piece room : List ℕ) (n : ℕ) : Type 0 where
  pub least : length pending ≤ n
  pub most : n ≤ length pending + length piece
  pub holds : take n room ≡ pending ++ take (n - length pending) piece
  pub none : BreaksNone sets header (take n room)

-- This octet of the item breaks this rule, and none before it breaks one.
pub record IsBroken (sets : Widths) (header : Option Header) (octets : List ℕ) (p : ℕ) (why : Why) : Type 0 where
  pub inside : p < length octets
  pub none : BreaksNone sets header (take p octets)
  pub rule : broken sets header octets p ≡ Some why

-- a record ended
abbrev pub tells_record : Item → Bool
tells_record (item.Record r) = true
tells_record _ = false

-- how many of the item's octets are kept: those of a record, which is shown
abbrev pub kept_octets : Item → ℕ → ℕ
kept_octets (item.Record r) n = n
kept_octets _ n = 0

-- the header that the next item goes by
abbrev pub header_told : Option Header → Item → Option Header
header_told header (item.Header h) = Some h
header_told header _ = header
