-- The real files.
use Rattle.std.specs.declared.fs.File.{File}
use Rattle.eb_io.specs.Outside.{Outside}
use Rattle.eb_io.specs.Shelf.{outside_of}
use Rattle.eb_io.specs.declared.adapters.ReadSource.{ReadSource}
use Rattle.eb_io.specs.declared.adapters.RealWorld.{RealWorld}

-- what it tells; of its files, their counts of faults alone
abbrev pub world_of : RealWorld → Outside (ReadSource File)
world_of w = outside_of w.shelf
