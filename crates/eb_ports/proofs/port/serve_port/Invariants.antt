use Rattle.std.proofs.Common.{◌≡◌, [], false, length}
use Rattle.eb_ports.specs.Connections.{door_told, ServedConnections}
use Rattle.eb_ports.proofs.port.serve_port.Given as goal

abbrev pub invariant-serving : goal.invariant-serving
invariant-serving g l = record {
  served : ServedConnections (g.M.Master.identity l.initial.master).number l.slave
      (door_told g.D.Link.Source.reading g.D.Link.Sink.writing g.D.Door.standing g.D.Door.accepting l.initial.door)
      (door_told g.D.Link.Source.reading g.D.Link.Sink.writing g.D.Door.standing g.D.Door.accepting l.door)
      (g.M.Master.cycles l.initial.master) (g.M.Master.cycles l.master) l.ends.endings;
  count : length l.ends.endings ≡ l.counter;
  sound : l.ends.door_failed ≡ false;
  room : l.ends.most ≡ l.initial.ends.most;
  none_open : (g.M.Master.cycles l.master).opened ≡ [];
  identity : g.M.Master.identity l.master ≡ g.M.Master.identity l.initial.master;
}
