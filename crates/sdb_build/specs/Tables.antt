-- The SDB table of a bus, the octets that stand for it in the bus's ROM, and the ROM images of all buses of a description.
use Rattle.std.specs.Prelude.{ℕ, ◌+◌, ◌-◌, List, [], ◌∷◌, ◌++◌, length}
use Rattle.eb_base.specs.declared.width.Width.{Width}
use Rattle.eb_base.specs.declared.width.Width.TheVariants.{W8, W16, W32, W64}
use Rattle.eb_base.specs.declared.name.Product.{Product}
use Rattle.sdb_record.specs.declared.kinds.Record.{Record}
use Rattle.sdb_record.specs.declared.kinds.Record.TheVariants as sdb
use Rattle.sdb_record.specs.Layout.{wishbone}
use Rattle.sdb_record.specs.Relation.{encoded}
use Rattle.soc_desc.specs.declared.description.Description.{Description}
use Rattle.soc_desc.specs.declared.description.ItemDescription.{ItemDescription}
use Rattle.soc_desc.specs.declared.description.BusDescription.{BusDescription}
use Rattle.soc_desc.specs.declared.description.ItemDescription.TheOpen.{ItemDescription-F, BusDescription-F}
use Rattle.soc_desc.specs.declared.description.ItemDescription.TheFolds.{fold-ItemDescription, fold-BusDescription}
use Rattle.soc_desc.specs.View.{Device, octets_in, OnBus, OfDevice, OfBridge, OfNote, OfEmpty, on_bus, bridged}
use Rattle.sdb_build.specs.declared.image.Image.{Image}

-- ---- octets

-- the octets of records, one after another
abbrev pub spelled : List Record → List ℕ
spelled [] = []
spelled (r ∷ rs) = encoded wishbone r ++ spelled rs

-- ---- records

-- The access widths of a device on a bus: all up to the bus's, those of 8, 16, 32 and 64 bits as 1, 2, 4 and 8.
abbrev pub access_widths : Width → ℕ
access_widths W8 = 1
access_widths W16 = 1 + 2
access_widths W32 = 1 + 2 + 4
access_widths W64 = 1 + 2 + 4 + 8

-- a device on a bus of this width
abbrev pub device_entry : Device → Width → Record
device_entry d width =
    sdb.Device d.interface.class d.interface.major d.interface.minor (access_widths width) d.at (d.at + octets_in d.make - 1) d.product

-- a bridge at an address to a bus with this last address, whose table stands there
abbrev pub bridge : Product → ℕ → ℕ → ℕ → Record
bridge p at last table = sdb.Bridge (at + table) at (at + last) p

-- the bus itself, with so many items
abbrev pub interconnect : Product → ℕ → ℕ → Record
interconnect p last items = sdb.Interconnect (items + 1) 0 last p

-- ---- what an item and a bus show of their tables

-- an item: its record in the table of a bus of a width; and the images of the buses behind it, by the base of its bus
pub record ItemTables : Type 0 where
  pub entry : Width → Record
  pub images : ℕ → List Image

-- A bus: its last address, and the first of its table; the table's records; its image with those of all buses under it, in
-- pre-order, by its base.
pub record BusTables : Type 0 where
  pub last : ℕ
  pub sdb : ℕ
  pub records : List Record
  pub images : ℕ → List Image

abbrev pub entry_on : OnBus BusTables → Width → Record
entry_on (OfDevice d) width = device_entry d width
entry_on (OfBridge p at bus) width = bridge p at bus.last bus.sdb
entry_on (OfNote p) width = sdb.Integration p
entry_on OfEmpty width = sdb.Empty

-- The base of the bus behind a bridge is the bridge's address from the base of its own bus.
abbrev pub placed_item_layer : ItemDescription-F ItemTables BusTables → ItemTables
placed_item_layer item = record {
  entry = λ width. entry_on (on_bus item) width;
  images = bridged (λ base. []) (λ at bus base. bus.images (base + at)) (on_bus item);
}

abbrev pub entries : Width → List ItemTables → List Record
entries width [] = []
entries width (item ∷ items) = item.entry width ∷ entries width items

abbrev pub images_behind : ℕ → List ItemTables → List Image
images_behind base [] = []
images_behind base (item ∷ items) = item.images base ++ images_behind base items

-- the interconnect first, then the items in their order
abbrev pub records_of : Product → Width → ℕ → List ItemTables → List Record
records_of p width last items = interconnect p last (length items) ∷ entries width items

abbrev pub placed_bus_layer : BusDescription-F ItemTables BusTables → BusTables
placed_bus_layer b = record {
  last = b.last;
  sdb = b.sdb;
  records = records_of b.product b.width b.last b.items;
  images = λ base. record { at = base + b.sdb; octets = spelled (records_of b.product b.width b.last b.items) } ∷ images_behind base b.items;
}

abbrev pub item_tables : ItemDescription → ItemTables
item_tables = fold-ItemDescription ItemTables BusTables placed_item_layer placed_bus_layer

abbrev pub bus_tables : BusDescription → BusTables
bus_tables = fold-BusDescription ItemTables BusTables placed_item_layer placed_bus_layer

-- ---- the table of a bus, and the images of a description

-- Addresses in it are relative to the base of the bus.
abbrev pub table_records : BusDescription → List Record
table_records bus = (bus_tables bus).records

-- the octets of the ROM of a bus
abbrev pub image_of : BusDescription → List ℕ
image_of bus = spelled (table_records bus)

-- the ROM of a bus with this base, at its absolute address
abbrev pub image_at : BusDescription → ℕ → Image
image_at bus base = record { at = base + (bus_tables bus).sdb; octets = image_of bus }

-- the images of a bus with this base and of all buses under it, in pre-order, each at its absolute address
abbrev pub bus_images : BusDescription → ℕ → List Image
bus_images bus base = (bus_tables bus).images base

-- the base of the root is 0
abbrev pub images_of : Description → List Image
images_of d = bus_images d.bus 0
