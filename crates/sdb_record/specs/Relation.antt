-- When 64 octets are a record's, and which octets are written for it.
use Rattle.std.specs.Prelude.{◌≡◌, ℕ, ◌+◌, ◌^◌, ◌<◌, ◌≤◌, List, [], ◌∷◌, ◌++◌, length, take, drop, replicate, true}
use Rattle.eb_base.specs.Width.{octets}
use Rattle.eb_base.specs.Field.{number_at, with_number}
use Rattle.eb_base.specs.Name.{are_printed}
use Rattle.sdb_record.specs.declared.kinds.Record.{Record}
use Rattle.sdb_record.specs.declared.kinds.Record.TheVariants.{Interconnect, Device, Bridge, Integration, Empty}
use Rattle.sdb_record.specs.Text.{text_in, spaced}
use Rattle.sdb_record.specs.Layout.{Field, Number, Text, fields}

-- The octets have the field's value there. Behind a text any octets 0x20 and 0x00 may stand.
abbrev pub Has : List ℕ → Field → Type 0
Has o (Number at w n) = number_at w o at ≡ n
Has o (Text at size t) = spaced size (text_in (take size (drop at o))) ≡ t

abbrev pub HasAll : List ℕ → List Field → Type 0
HasAll o [] = Unit {0}
HasAll o (f ∷ fs) = Has o f × HasAll o fs

-- an interconnect counts itself, and a range isn't empty
abbrev pub IsValid : Record → Type 0
IsValid (Interconnect records first last p) = (1 ≤ records) × (first ≤ last)
IsValid (Device class major minor bus_specific first last p) = first ≤ last
IsValid (Bridge child first last p) = first ≤ last
IsValid (Integration p) = Unit {0}
IsValid Empty = Unit {0}

-- the value can stand in its field
abbrev pub FitsField : Field → Type 0
FitsField (Number at w n) = n < 256 ^ octets w
FitsField (Text at size t) = (length t ≡ size) × (are_printed t ≡ true)

abbrev pub FitFields : List Field → Type 0
FitFields [] = Unit {0}
FitFields (f ∷ fs) = FitsField f × FitFields fs

-- these octets are this record's, in a table of this bus type; the reserved ones may be any
pub record IsRecord (bus : ℕ) (r : Record) (o : List ℕ) : Type 0 where
  pub valid : IsValid r
  pub fit : FitFields (fields bus r)
  pub has : HasAll o (fields bus r)

-- the octets with the field written into them
unfoldable pub with_field : List ℕ → Field → List ℕ
with_field o (Number at w n) = with_number w o at n
with_field o (Text at size t) = take at o ++ t ++ drop (at + size) o

abbrev pub with_fields : List ℕ → List Field → List ℕ
with_fields o [] = o
with_fields o (f ∷ fs) = with_fields (with_field o f) fs

-- the octets that are written for a record: its fields, and zero in the reserved ones
abbrev pub encoded : ℕ → Record → List ℕ
encoded bus r = with_fields (replicate 64 0) (fields bus r)
