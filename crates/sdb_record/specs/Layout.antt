-- The layout of the records of SDB 1.1: which field stands where in the 64 octets. Octets in no field are reserved.
use Rattle.std.specs.Prelude.{ℕ, List, [], ◌∷◌, ◌++◌}
use Rattle.eb_base.specs.declared.width.Width.{Width}
use Rattle.eb_base.specs.declared.width.Width.TheVariants.{W8, W16, W32, W64}
use Rattle.eb_base.specs.declared.name.Product.{Product}
use Rattle.sdb_record.specs.declared.kinds.Record.{Record}
use Rattle.sdb_record.specs.declared.kinds.Record.TheVariants.{Interconnect, Device, Bridge, Integration, Empty}

-- A field: the octet that it begins at, its size, and what it holds: a number, highest octet first, or a text padded with
-- spaces. The size of a text is in octets.
pub data Field : Type 0 where
  Number : ℕ → Width → ℕ → Field
  Text : ℕ → ℕ → List ℕ → Field

-- the bus type of Wishbone
abbrev pub wishbone : ℕ
wishbone = 0

abbrev pub product_fields : Product → List Field
product_fields p =
    Number 0x18 W64 p.vendor
    ∷ Number 0x20 W32 p.device
    ∷ Number 0x24 W32 p.version
    ∷ Number 0x28 W32 p.date
    ∷ Text 0x2C 19 p.name
    ∷ []

-- a range of addresses, and the product that answers there
abbrev pub component_fields : ℕ → ℕ → Product → List Field
component_fields first last p =
    Number 0x08 W64 first
    ∷ Number 0x10 W64 last
    ∷ product_fields p

-- a device's interface: its class, the version of that, and its access widths
abbrev pub interface_fields : ℕ → ℕ → ℕ → ℕ → List Field
interface_fields class major minor bus_specific =
    Number 0x00 W16 class
    ∷ Number 0x02 W8 major
    ∷ Number 0x03 W8 minor
    ∷ Number 0x04 W32 bus_specific
    ∷ []

-- the last octet of each record
abbrev pub type_field : ℕ → List Field
type_field n = Number 0x3F W8 n ∷ []

-- The fields of a record in a table of this bus type, in the order of their octets. An interconnect's begin with the magic
-- number `SDB-`, and have the version 1 of the format.
abbrev pub fields : ℕ → Record → List Field
fields bus (Interconnect records first last p) =
    Number 0x00 W32 0x5344422D
    ∷ Number 0x04 W16 records
    ∷ Number 0x06 W8 1
    ∷ Number 0x07 W8 bus
    ∷ component_fields first last p ++ type_field 0x00
fields bus (Device class major minor bus_specific first last p) =
    interface_fields class major minor bus_specific ++ component_fields first last p ++ type_field 0x01
fields bus (Bridge child first last p) =
    Number 0x00 W64 child
    ∷ component_fields first last p ++ type_field 0x02
fields bus (Integration p) = product_fields p ++ type_field 0x80
fields bus Empty = type_field 0xFF
