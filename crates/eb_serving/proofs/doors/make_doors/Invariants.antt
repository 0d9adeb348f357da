use Rattle.eb_ports.specs.Connections.{door_told}
use Rattle.eb_serving.specs.Doors.{MadeDoors}
use Rattle.eb_serving.proofs.doors.make_doors.Given as goal

-- The doors before this one were made.
abbrev pub invariant-loop-m : goal.invariant-loop-m
invariant-loop-m g l =
    MadeDoors (door_told g.N.Door.Link.Source.reading g.N.Door.Link.Sink.writing g.N.Door.Door.standing g.N.Door.Door.accepting) (g.N.Net.network l.initial.net) (g.N.Net.network l.net) l.port l.m
