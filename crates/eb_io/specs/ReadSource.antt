-- A reader of std as a source.
use Rattle.std.specs.Prelude.{ℕ, List, [], None, take}
use Rattle.std.specs.declared.option.Option.{Option}
use Rattle.std.specs.Io.KnownBytes.{Consumes, IsAtEnd, Keeps}
use Rattle.eb_io.specs.Reading.{Reading}
use Rattle.eb_io.specs.declared.source.Got.{Got}
use Rattle.eb_io.specs.declared.source.Got.TheVariants as got
use Rattle.eb_io.specs.declared.adapters.ReadSource.{ReadSource}

-- What it tells as a source: its count of faults alone. A reader that doesn't tell what it has left may begin to, which no
-- source may.
abbrev pub reading_of : {R : Type 0} → ReadSource R → Reading
reading_of s = record { given = None; left = None; faults = s.faults }

-- What a read made of the octets that the reader tells it has left, by its answer: it gave those that stand at the front of
-- the room, none was left, or it gave none.
abbrev pub ReadsLeft : Option (List ℕ) → Option (List ℕ) → List ℕ → Got → Type 0
ReadsLeft old new room (got.Some n) = Consumes old new (take n room)
ReadsLeft old new room got.End = IsAtEnd new × Consumes old new []
ReadsLeft old new room got.Failed = Keeps old new
