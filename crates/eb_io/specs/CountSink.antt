-- A sink that counts.
use Rattle.eb_io.specs.Writing.{Writing, Count}
use Rattle.eb_io.specs.declared.count.CountSink.{CountSink}

-- what it tells: how many octets it took; no write to it fails
abbrev pub writing_of : CountSink → Writing
writing_of s = record { written = Count s.count; faults = 0 }
