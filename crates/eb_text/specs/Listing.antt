-- The listing: the records of a tree, as text.
use Rattle.std.specs.Prelude.{ℕ, List, [], ◌∷◌, ◌++◌, codes, decimal}
use Rattle.eb_base.specs.declared.width.Width.TheVariants.{W32}
use Rattle.eb_base.specs.declared.name.Product.{Product}
use Rattle.eb_base.specs.Field.{octets_of}
use Rattle.eb_io.specs.Text.{line, hex_text, digits_16}
use Rattle.sdb_record.specs.declared.kinds.Record.{Record}
use Rattle.sdb_record.specs.declared.kinds.Record.TheVariants as sdb
use Rattle.sdb_record.specs.Text.{text_in}
use Rattle.sdb_walk.specs.declared.found.Found.{Found}

-- a number of 32 bits in 8 hexadecimal digits
abbrev pub digits_8 : ℕ → List ℕ
digits_8 n = hex_text (octets_of W32 n)

-- places in decimal, each behind a dot
abbrev pub steps_text : List ℕ → List ℕ
steps_text [] = []
steps_text (i ∷ steps) = codes "." ++ decimal i ++ steps_text steps

-- the place of a record in its table, behind the bridge's path and a dot in a child table
abbrev pub path_text : List ℕ → List ℕ
path_text [] = []
path_text (i ∷ steps) = decimal i ++ steps_text steps

-- `VENDOR:DEVICE VERSION DATE NAME`; a space stands before the name even where it is empty
abbrev pub product_text : Product → List ℕ
product_text p =
    digits_16 p.vendor ++ codes ":" ++ digits_8 p.device ++ codes " " ++ digits_8 p.version ++ codes " " ++ digits_8 p.date ++ codes " " ++ text_in p.name

-- `KIND FIRST-LAST PRODUCT`
abbrev pub component_text : List ℕ → ℕ → ℕ → Product → List ℕ
component_text kind first last p = kind ++ codes " " ++ digits_16 first ++ codes "-" ++ digits_16 last ++ codes " " ++ product_text p

-- what a record says, its range being these absolute addresses
abbrev pub entry_text : Record → ℕ → ℕ → List ℕ
entry_text (sdb.Interconnect records from to p) first last = component_text (codes "interconnect") first last p
entry_text (sdb.Device class major minor bus_specific from to p) first last = component_text (codes "device") first last p
entry_text (sdb.Bridge child from to p) first last = component_text (codes "bridge") first last p
entry_text (sdb.Integration p) first last = codes "integration " ++ product_text p
entry_text sdb.Empty first last = codes "empty"

-- a record that was found
abbrev pub found_line : Found → List ℕ
found_line f = line (path_text f.path ++ codes " " ++ entry_text f.entry f.first f.last)

-- a line for each record, in the order of the tree
abbrev pub listing_text : List Found → List ℕ
listing_text [] = []
listing_text (f ∷ tree) = found_line f ++ listing_text tree
