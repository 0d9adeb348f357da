use Rattle.std.proofs.Common.{drop}
use Rattle.eb_io.proofs.PageLemmas.{Paging}
use Rattle.eb_serve.specs.DatagramText.{datagram_lines}
use Rattle.eb_serve.proofs.datagram_text.put_datagrams.Given as goal

abbrev pub invariant-loop-i : goal.invariant-loop-i
invariant-loop-i g l = Paging g.K.Sink.writing g.K.Sink.beside_writes l.initial.sink l.sink l.initial.page l.page (datagram_lines 0 l.ends.endings)
    (datagram_lines l.i (drop l.i l.ends.endings))
