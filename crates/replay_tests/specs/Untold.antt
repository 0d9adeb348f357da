-- What a link, a door or a file tells that tells no octets, and none of whose calls fails; and a world none of whose opens fails.
use Rattle.std.specs.Prelude.{ℕ, List, None}
use Rattle.eb_io.specs.Reading.{Reading}
use Rattle.eb_io.specs.Writing.{Writing, Nothing}
use Rattle.eb_io.specs.Outside.{Outside}
use Rattle.eb_net.specs.Accepting.{Accepting}

abbrev pub no_reading : Reading
no_reading = record { given = None; left = None; faults = 0 }

abbrev pub no_writing : Writing
no_writing = record { written = Nothing; faults = 0 }

abbrev pub no_accepting : Accepting
no_accepting = record { links = None; earlier = None; began = None; faults = 0 }

-- the names that were asked for, and the files
abbrev pub all_opened : {F : Type 0} → List (List ℕ) → List F → Outside F
all_opened asked files = record { asked = asked; files = files; faults = 0 }
