-- A link in memory.
use Rattle.eb_io.specs.Reading.{Reading}
use Rattle.eb_io.specs.Writing.{Writing}
use Rattle.eb_io.specs.MemSource as source
use Rattle.eb_io.specs.MemSink as sink
use Rattle.eb_io.specs.declared.link.MemLink.{MemLink}

-- what it tells of its reads
abbrev pub reading_of : MemLink → Reading
reading_of l = source.reading_of l.source

-- what it tells of its writes
abbrev pub writing_of : MemLink → Writing
writing_of l = sink.writing_of l.sink
