use Rattle.std.proofs.Common.{◌≡◌, ◌-◌, ◌≤◌, ◌^◌, length}
use Rattle.std.specs.Prelude.{vec_capacity}
use Rattle.eb_server.proofs.ServingLemmas.{ServesTo}
use Rattle.eb_server.proofs.stream.serve_link_in.Given as goal

abbrev pub invariant-reading : goal.invariant-reading
invariant-reading g l = record {
  within : l.read ≤ 2 ^ 40;
  pending : length l.session.progress.pending ≤ 4103;
  fits : vec_capacity l.initial.replies ≤ vec_capacity l.replies;
  serves : ServesTo (g.M.Master.identity l.initial.master).number l.initial.session.slave (g.M.Master.cycles l.initial.master) (g.M.Master.cycles l.master)
      (g.L.Source.reading l.initial.link) (g.L.Source.reading l.link) (g.L.Sink.writing l.initial.link) (g.L.Sink.writing l.link) l.read l.session;
  identity : g.M.Master.identity l.master ≡ g.M.Master.identity l.initial.master;
}

abbrev pub decreases-reading : goal.decreases-reading
decreases-reading g l = 2 ^ 40 - l.read
