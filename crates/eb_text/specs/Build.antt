-- The build text: the ROM images of a description, as text.
use Rattle.std.specs.Prelude.{◌≡◌, ℕ, zero, suc, ◌/◌, List, [], ◌∷◌, ◌++◌, length, take, drop, codes, decimal}
use Rattle.std.specs.List.{All}
use Rattle.eb_io.specs.Text.{line, hex_text, digits_16}
use Rattle.soc_desc.specs.declared.description.Description.{Description}
use Rattle.soc_desc.specs.Accepted.{IsAccepted}
use Rattle.sdb_record.specs.declared.kinds.Record.{Record}
use Rattle.sdb_record.specs.Layout.{wishbone}
use Rattle.sdb_record.specs.Relation.{encoded}
use Rattle.sdb_build.specs.declared.image.Image.{Image}
use Rattle.sdb_build.specs.Tables.{spelled, table_records, images_of}
use Rattle.sdb_build.specs.Buses.{PlacedBus, buses_of}
use Rattle.sdb_build.specs.Whole.{IsWhole}
use Rattle.sdb_build.specs.Laws.{table_address}

-- how many records of 64 octets there are
abbrev pub record_count : List ℕ → ℕ
record_count octets = length octets / 64

-- so many records, each as 128 hexadecimal digits on a line
abbrev pub record_lines : ℕ → List ℕ → List ℕ
record_lines zero octets = []
record_lines (suc n) octets = line (hex_text (take 64 octets)) ++ record_lines n (drop 64 octets)

-- where a table stands, in 16 hexadecimal digits, and how many records it has, in decimal
abbrev pub table_line : ℕ → ℕ → List ℕ
table_line at count = line (codes "table " ++ digits_16 at ++ codes " " ++ decimal count)

-- a table: its line, and its records
abbrev pub table_text : ℕ → List ℕ → List ℕ
table_text at octets = table_line at (record_count octets) ++ record_lines (record_count octets) octets

-- the tables of all buses
abbrev pub build_text : List Image → List ℕ
build_text [] = []
build_text (image ∷ images) = table_text image.at image.octets ++ build_text images

-- ---- the same by records

-- the octets of a record, in hexadecimal digits on a line
abbrev pub record_line : Record → List ℕ
record_line r = line (hex_text (encoded wishbone r))

abbrev pub lines_of_records : List Record → List ℕ
lines_of_records [] = []
lines_of_records (r ∷ rs) = record_line r ++ lines_of_records rs

-- a table: where it stands and how many records it has, and then a line for each record
abbrev pub text_of_records : ℕ → List Record → List ℕ
text_of_records at rs = table_line at (length rs) ++ lines_of_records rs

-- the tables of buses
abbrev pub text_of_buses : List PlacedBus → List ℕ
text_of_buses [] = []
text_of_buses (b ∷ bs) = text_of_records (table_address b) (table_records b.bus) ++ text_of_buses bs

-- A table's text has a line for each of its records, where each of them has 64 octets.
abbrev pub LineForEachRecord : Type 0
LineForEachRecord = (at : ℕ) (rs : List Record) → All IsWhole rs → table_text at (spelled rs) ≡ text_of_records at rs

-- The build text of an accepted description is the text of the tables of its buses, with a line for each record.
abbrev pub BuildByRecords : Type 0
BuildByRecords = (d : Description) → IsAccepted d → build_text (images_of d) ≡ text_of_buses (buses_of d)
