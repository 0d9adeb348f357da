-- What a text describes: four stages of checks, of which the first broken rule is the fault.
use Rattle.std.specs.Prelude.{ℕ, List, [], length, Option, Some, None, Ok, Err, nat_lt, if◌then◌else◌, codes}
use Rattle.std.specs.Str.{is_utf8}
use Rattle.serde_json.specs.Data.{Data}
use Rattle.serde_json.specs.Read.{read as read_text}
use Rattle.soc_desc.specs.declared.fault.DescFault.TheVariants as fault
use Rattle.soc_desc.specs.declared.description.Description.{Description}
use Rattle.soc_desc.specs.Checks.{Path, Found, ◌>>=◌, ◌>>◌, at_key}
use Rattle.soc_desc.specs.Shape.{root}
use Rattle.soc_desc.specs.Geometry.{geometry}
use Rattle.soc_desc.specs.Totals.{within, bus_totals}

-- the greatest number of octets of a text
abbrev pub most_octets : ℕ
most_octets = 1048576

-- the JSON value of a text
abbrev pub json_or : Option Data → Found Data
json_or None = Err fault.NotJson
json_or (Some d) = Ok d

abbrev pub value_of : List ℕ → Found Data
value_of text =
    if nat_lt most_octets (length text) then Err (fault.TooMany [])
    else (if is_utf8 text then json_or (read_text text) else Err fault.NotJson)

abbrev pub the_bus : Path
the_bus = at_key [] (codes "bus")

-- the shape, the geometry, the totals
abbrev pub checked : Data → Found Description
checked d = do
  description ← root [] d
  geometry the_bus description.bus
  within the_bus (bus_totals description.bus)
  Ok description

abbrev pub described : List ℕ → Found Description
described text = value_of text >>= checked
