-- What the images of a description hold.
use Rattle.std.specs.Prelude.{◌≡◌, ◌+◌, ℕ, map}
use Rattle.std.specs.List.{All}
use Rattle.soc_desc.specs.declared.description.Description.{Description}
use Rattle.soc_desc.specs.declared.description.BusDescription.{BusDescription}
use Rattle.soc_desc.specs.declared.description.ItemDescription.TheViews.{out-BusDescription}
use Rattle.soc_desc.specs.Accepted.{IsSoundBusOf, is_32_or_64}
use Rattle.sdb_build.specs.declared.image.Image.{Image}
use Rattle.sdb_build.specs.Tables.{spelled, table_records, images_of}
use Rattle.sdb_build.specs.Buses.{PlacedBus, bus_buses, buses_of}
use Rattle.sdb_build.specs.Whole.{IsTable}

-- where the table of a bus stands
abbrev pub table_address : PlacedBus → ℕ
table_address b = b.base + (out-BusDescription b.bus).sdb

-- the octets of its records, where it stands
abbrev pub table_image : PlacedBus → Image
table_image b = record { at = table_address b; octets = spelled (table_records b.bus) }

-- A bus is listed as itself.
abbrev pub ListedAsItself : Type 0
ListedAsItself = (bus : BusDescription) → (bus_buses bus).bus ≡ bus

-- The images of a description are those of the tables of its buses, in the same order.
abbrev pub ImagesOfBuses : Type 0
ImagesOfBuses = (d : Description) → images_of d ≡ map table_image (buses_of d)

-- The table of each bus of a description that keeps the rules begins with an interconnect that counts all its records, and each
-- of them has 64 octets.
abbrev pub TablesOfSound : Type 0
TablesOfSound = (d : Description) → IsSoundBusOf is_32_or_64 d.bus → All (λ b. IsTable (table_records b.bus)) (buses_of d)
