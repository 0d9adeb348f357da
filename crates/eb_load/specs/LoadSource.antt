-- A source of a generated stream.
use Rattle.std.specs.Prelude.{List, ℕ, ◌++◌, Some, take, drop}
use Rattle.eb_io.specs.Reading.{Reading}
use Rattle.eb_load.specs.Stream.{load_octets, octets_of_records}
use Rattle.eb_load.specs.declared.source.LoadSource.{LoadSource}

-- the octets that it gave
abbrev pub load_given : LoadSource → List ℕ
load_given s = take s.given (load_octets s.start s.total)

-- the octets that it has left: of the piece that was made last, then of the records to come
abbrev pub load_left : LoadSource → List ℕ
load_left s = drop s.at s.piece ++ octets_of_records s.records s.draws

-- what it tells: those that it gave and has left; no read of it fails
abbrev pub load_reading : LoadSource → Reading
load_reading s = record { given = Some (load_given s); left = Some (load_left s); faults = 0 }
