-- Streams of items, the items of octets, and the first bad octet.
use Rattle.std.specs.Prelude.{◌≡◌, ℕ, ◌+◌, ◌<◌, ◌≤◌, List, [], ◌∷◌, ◌++◌, length, take, Option, Some, None}
use Rattle.eb_base.specs.declared.width.Widths.{Widths}
use Rattle.eb_base.specs.Width.{AreSets}
use Rattle.eb_base.specs.Field.{IsBytes}
use Rattle.eb_codec.specs.declared.item.Header.{Header}
use Rattle.eb_codec.specs.declared.item.Probe.{Probe}
use Rattle.eb_codec.specs.declared.item.Record.{Record}
use Rattle.eb_codec.specs.declared.item.Why.{Why}
use Rattle.eb_codec.specs.Rules.{broken}
use Rattle.eb_codec.specs.Form.{Fills, probe_form, header_form, record_form, FitsProbe, FitsRecord}

-- A slave has at least one width of addresses and one of its port.
pub record HaveWidths (sets : Widths) : Type 0 where
  pub are_sets : AreSets sets
  pub address : 0 < sets.addresses
  pub port : 0 < sets.ports

-- An item of a stream.
pub data StreamItem : Type 0 where
  Probed : Probe → StreamItem
  Headed : Header → StreamItem
  Recorded : Record → StreamItem

-- No octet of the item breaks a rule.
abbrev pub BreaksNone : Widths → Option Header → List ℕ → Type 0
BreaksNone sets header octets = (k : ℕ) → k < length octets → broken sets header octets k ≡ None

-- The octets have the item's form: a probe or the header before a header came, after it a record of it.
abbrev pub HasForm : Option Header → StreamItem → List ℕ → Type 0
HasForm None (Probed p) octets = FitsProbe p × Fills octets (probe_form p)
HasForm None (Headed h) octets = Fills octets (header_form h)
HasForm (Some h) (Recorded r) octets = FitsRecord h r × Fills octets (record_form h r)
HasForm _ _ octets = ⊥

-- The octets spell the item for a slave with these sets of widths, where this header came before, or none: they have its
-- form and break no rule.
pub record Spells (sets : Widths) (header : Option Header) (item : StreamItem) (octets : List ℕ) : Type 0 where
  pub form : HasForm header item octets
  pub legal : BreaksNone sets header octets

-- the header that stands before the next item
abbrev pub header_after : Option Header → StreamItem → Option Header
header_after header (Headed h) = Some h
header_after header _ = header

-- the header that stands after these items
abbrev pub header_after_all : Option Header → List StreamItem → Option Header
header_after_all header [] = header
header_after_all header (x ∷ xs) = header_after_all (header_after header x) xs

-- The octets are the spellings of the items, one after another: a stream is probes, at most one header, then records.
abbrev pub SpellsAll : Widths → Option Header → List StreamItem → List ℕ → Type 0
SpellsAll sets header [] octets = octets ≡ []
SpellsAll sets header (x ∷ xs) octets = (a b : List ℕ) × (octets ≡ a ++ b) × Spells sets header x a × SpellsAll sets (header_after header x) xs b

-- The octets begin a stream: with some more octets they are one.
abbrev pub BeginsStream : Widths → Option Header → List ℕ → Type 0
BeginsStream sets header octets = (items : List StreamItem) × (more : List ℕ) × SpellsAll sets header items (octets ++ more) × IsBytes more

-- The longest list of items whose spellings are the front of the octets, and what follows them.
pub record AreItems (sets : Widths) (header : Option Header) (octets : List ℕ) (items : List StreamItem) (rest : List ℕ) : Type 0 where
  pub front : (a : List ℕ) × (octets ≡ a ++ rest) × SpellsAll sets header items a
  pub longest : (others : List StreamItem) (a b : List ℕ) → octets ≡ a ++ b → SpellsAll sets header others a → length others ≤ length items

-- Octet p is the first bad one: those before it begin a stream, with it they begin none, and of the item
-- that it is in, behind whole items, it breaks this rule and none with a lower number.
pub record IsFirstBad (sets : Widths) (header : Option Header) (octets : List ℕ) (p : ℕ) (why : Why) : Type 0 where
  pub inside : p < length octets
  pub before : BeginsStream sets header (take p octets)
  pub ends : (items : List StreamItem) (more : List ℕ) → SpellsAll sets header items (take (p + 1) octets ++ more) → ⊥
  pub broken_rule : (items : List StreamItem) × (a b : List ℕ) × (k : ℕ) × (octets ≡ a ++ b) × SpellsAll sets header items a × (p ≡ length a + k) × (broken sets (header_after_all header items) b k ≡ Some why)

-- No octet is bad.
abbrev pub HasNoBad : Widths → List ℕ → Type 0
HasNoBad sets octets = (p : ℕ) (why : Why) → IsFirstBad sets None octets p why → ⊥

-- The octets are a proper prefix of an item that may stand here, and none at all is one too.
abbrev pub IsPartial : Widths → Option Header → List ℕ → Type 0
IsPartial sets header octets = (item : StreamItem) × (b : ℕ) × (more : List ℕ) × Spells sets header item (octets ++ b ∷ more) × IsBytes (b ∷ more)

-- Octet p of an item is its first bad one: those before it are a proper prefix of an item, with it they begin
-- none, and it breaks this rule and none with a lower number.
pub record IsBadOctet (sets : Widths) (header : Option Header) (octets : List ℕ) (p : ℕ) (why : Why) : Type 0 where
  pub inside : p < length octets
  pub before : IsPartial sets header (take p octets)
  pub ends : (item : StreamItem) (more : List ℕ) → Spells sets header item (take (p + 1) octets ++ more) → ⊥
  pub rule : broken sets header octets p ≡ Some why
