use Rattle.std.proofs.Common.{take, map, string_bytes}
use Rattle.eb_run.specs.Captures.{OpenedFiles}
use Rattle.eb_run.proofs.captures.open_all.Given as goal

-- The files before it were opened.
abbrev pub invariant-loop-name : goal.invariant-loop-name
invariant-loop-name g l = OpenedFiles g.W.File.Source.reading (g.W.World.outside l.initial.world) (g.W.World.outside l.world) (map string_bytes (take l.name-index l.names))
