use Rattle.std.proofs.Common.{◌≡◌, ◌-◌, ◌≤◌, length}
use Rattle.std.specs.Prelude.{vec_capacity}
use Rattle.eb_server.proofs.PieceLemmas.{RunsTo}
use Rattle.eb_ports.proofs.datagram.run_datagram.Given as goal

abbrev pub invariant-feeding : goal.invariant-feeding
invariant-feeding g l = record {
  runs : RunsTo (g.M.Master.identity l.initial.master).number l.initial.session (g.M.Master.cycles l.initial.master) l.octets l.at
      l.session (g.M.Master.cycles l.master) l.replies.items;
  identity : g.M.Master.identity l.master ≡ g.M.Master.identity l.initial.master;
  room : vec_capacity l.initial.replies ≤ vec_capacity l.replies;
}

abbrev pub decreases-feeding : goal.decreases-feeding
decreases-feeding g l = length l.octets - l.at
