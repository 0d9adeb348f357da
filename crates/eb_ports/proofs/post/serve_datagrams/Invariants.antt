use Rattle.std.proofs.Common.{◌≡◌, List, [], length}
use Rattle.eb_server.specs.declared.ending.Ending.{Ending}
use Rattle.eb_ports.specs.Ends.{endings_added}
use Rattle.eb_ports.specs.Datagrams.{ServedDatagrams}
use Rattle.eb_ports.specs.DatagramRooms.{HasDatagramRoom}
use Rattle.eb_ports.proofs.post.serve_datagrams.Given as goal

abbrev pub invariant-serving : goal.invariant-serving
invariant-serving g l = record {
  endings : List Ending;
  served : ServedDatagrams (g.M.Master.identity l.initial.master).number l.slave (g.P.Post.posting l.initial.post) (g.P.Post.posting l.post)
      (g.M.Master.cycles l.initial.master) (g.M.Master.cycles l.master) endings;
  count : length endings ≡ l.counter;
  added : l.ends ≡ endings_added l.initial.ends endings;
  rooms : HasDatagramRoom l.rooms;
  none_open : (g.M.Master.cycles l.master).opened ≡ [];
  identity : g.M.Master.identity l.master ≡ g.M.Master.identity l.initial.master;
}
