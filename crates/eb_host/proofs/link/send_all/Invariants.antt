use Rattle.std.proofs.Common.{◌≡◌, length}
use Rattle.eb_io.proofs.WritingLemmas.{Went}
use Rattle.eb_host.proofs.link.send_all.Given as goal

abbrev pub invariant-loop-rest : goal.invariant-loop-rest
invariant-loop-rest g l = record {
  went : Went g.L.Sink.writing g.L.Sink.beside_writes l.initial.link l.link l.octets l.rest;
  other_end : g.L.HostLink.other_end l.link ≡ g.L.HostLink.other_end l.initial.link;
}

abbrev pub decreases-loop-rest : goal.decreases-loop-rest
decreases-loop-rest g l = length l.rest
