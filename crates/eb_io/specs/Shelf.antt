-- What a world keeps.
use Rattle.std.specs.Prelude.{map, string_bytes}
use Rattle.eb_io.specs.Outside.{Outside}
use Rattle.eb_io.specs.declared.shelf.Shelf.{Shelf}

-- what a world with this shelf tells
abbrev pub outside_of : {F : Type 0} → Shelf F → Outside F
outside_of s = record { asked = map string_bytes s.asked.items; files = s.files.items; faults = s.faults }
