-- What 64 octets decode to.
use Rattle.std.specs.Prelude.{ℕ, ◌==◌, if◌then◌else◌, List, take, drop, Option, Some, None, Result, Ok, Err}
use Rattle.eb_base.specs.declared.width.Width.TheVariants.{W8, W16, W32, W64}
use Rattle.eb_base.specs.declared.name.Product.{Product}
use Rattle.eb_base.specs.Field.{number_at}
use Rattle.sdb_record.specs.declared.kinds.Record.{Record}
use Rattle.sdb_record.specs.declared.kinds.Record.TheVariants.{Interconnect, Device, Bridge, Integration, Empty}
use Rattle.sdb_record.specs.declared.faults.RecordFault.{RecordFault}
use Rattle.sdb_record.specs.Text.{text_in, spaced}
use Rattle.sdb_record.specs.Faults.{type_in, first_fault}

-- what the octets say of a product, where they name no fault
unfoldable pub product_of : List ℕ → Product
product_of o = record {
  vendor = number_at W64 o 0x18;
  device = number_at W32 o 0x20;
  version = number_at W32 o 0x24;
  date = number_at W32 o 0x28;
  name = spaced 19 (text_in (take 19 (drop 0x2C o)));
}

abbrev pub record_of_type : ℕ → List ℕ → Record
record_of_type n o =
    if n == 0x00 then Interconnect (number_at W16 o 0x04) (number_at W64 o 0x08) (number_at W64 o 0x10) (product_of o)
    else if n == 0x01 then Device (number_at W16 o 0x00) (number_at W8 o 0x02) (number_at W8 o 0x03) (number_at W32 o 0x04) (number_at W64 o 0x08) (number_at W64 o 0x10) (product_of o)
    else if n == 0x02 then Bridge (number_at W64 o 0x00) (number_at W64 o 0x08) (number_at W64 o 0x10) (product_of o)
    else if n == 0x80 then Integration (product_of o)
    else Empty

-- the record of octets that have no fault
unfoldable pub record_of : List ℕ → Record
record_of o = record_of_type (type_in o) o

abbrev pub answer_of : Option RecordFault → List ℕ → Result Record RecordFault
answer_of None o = Ok (record_of o)
answer_of (Some f) o = Err f

-- the first fault, or the record
abbrev pub decoded : ℕ → List ℕ → Result Record RecordFault
decoded bus o = answer_of (first_fault bus o) o
