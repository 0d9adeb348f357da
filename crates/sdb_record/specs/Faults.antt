-- What can be wrong with the 64 octets of a record, and which fault is named.
use Rattle.std.specs.Prelude.{ℕ, ◌+◌, ◌&&◌, ◌||◌, ◌==◌, List, [], ◌∷◌, take, drop, Bool, not, nat_lt, find, Option, option_map, unwrap_or, is_some}
use Rattle.eb_base.specs.declared.width.Width.TheVariants.{W8, W16, W32, W64}
use Rattle.eb_base.specs.Field.{number_at}
use Rattle.sdb_record.specs.declared.faults.RecordFault.{RecordFault}
use Rattle.sdb_record.specs.declared.faults.RecordWhy.{RecordWhy}
use Rattle.sdb_record.specs.declared.faults.RecordWhy.TheVariants.{UnknownType, BadMagic, BadCount, BadVersion, BadBus, BadRange, BadName}
use Rattle.sdb_record.specs.Text.{text_in, unprinted}

-- the last octet
abbrev pub type_in : List ℕ → ℕ
type_in o = number_at W8 o 0x3F

-- an interconnect, a device, a bridge, an integration or an empty record
abbrev pub is_type : ℕ → Bool
is_type n = n == 0x00 || n == 0x01 || n == 0x02 || n == 0x80 || n == 0xFF

abbrev pub is_interconnect : ℕ → Bool
is_interconnect n = n == 0x00

abbrev pub has_component : ℕ → Bool
has_component n = n == 0x00 || n == 0x01 || n == 0x02

abbrev pub has_product : ℕ → Bool
has_product n = has_component n || n == 0x80

-- the octet in the name that can't be printed, from the name's first
abbrev pub bad_in_name : List ℕ → Option ℕ
bad_in_name o = unprinted (text_in (take 19 (drop 0x2C o)))

-- a row of the table: a fault with the octet that it is named at, and whether it is there
abbrev pub Row : Type 0
Row = RecordFault × Bool

abbrev pub row : RecordWhy → ℕ → Bool → Row
row why at there = (record { at = at; why = why }, there)

-- the table, for a table of this bus type
abbrev pub faults : ℕ → List ℕ → List Row
faults bus o =
    row UnknownType 63 (not (is_type (type_in o)))
    ∷ row BadMagic 0 (is_interconnect (type_in o) && not (number_at W32 o 0x00 == 0x5344422D))
    ∷ row BadCount 4 (is_interconnect (type_in o) && number_at W16 o 0x04 == 0)
    ∷ row BadVersion 6 (is_interconnect (type_in o) && not (number_at W8 o 0x06 == 1))
    ∷ row BadBus 7 (is_interconnect (type_in o) && not (number_at W8 o 0x07 == bus))
    ∷ row BadRange 8 (has_component (type_in o) && nat_lt (number_at W64 o 0x10) (number_at W64 o 0x08))
    ∷ row BadName (0x2C + unwrap_or (bad_in_name o) 0) (has_product (type_in o) && is_some (bad_in_name o))
    ∷ []

-- the first that is there, in the table's order
unfoldable pub first_fault : ℕ → List ℕ → Option RecordFault
first_fault bus o = option_map (λ r. r.0) (find (λ r. r.1) (faults bus o))
