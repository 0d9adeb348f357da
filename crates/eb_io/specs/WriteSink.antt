-- A writer of std as a sink.
use Rattle.std.specs.Prelude.{ℕ, List, [], take}
use Rattle.std.specs.declared.option.Option.{Option}
use Rattle.std.specs.Io.KnownBytes.{Appends}
use Rattle.eb_io.specs.Writing.{Writing, Nothing}
use Rattle.eb_io.specs.declared.sink.Put.{Put}
use Rattle.eb_io.specs.declared.sink.Put.TheVariants as put
use Rattle.eb_io.specs.declared.adapters.WriteSink.{WriteSink}

-- What it tells as a sink: its count of faults alone. A writer that doesn't tell what it holds may begin to, which no sink
-- may.
abbrev pub writing_of : {W : Type 0} → WriteSink W → Writing
writing_of s = record { written = Nothing; faults = s.faults }

-- What a write of this piece made of the octets that the writer tells it holds, by its answer.
abbrev pub WritesHeld : Option (List ℕ) → Option (List ℕ) → List ℕ → Put → Type 0
WritesHeld old new piece (put.Some n) = Appends old new (take n piece)
WritesHeld old new piece put.Failed = Appends old new []
