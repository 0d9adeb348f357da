use Rattle.std.proofs.Common.{drop}
use Rattle.eb_io.proofs.PageLemmas.{Paging}
use Rattle.eb_serve.specs.Text.{connection_lines}
use Rattle.eb_serve.proofs.text.put_connections.Given as goal

abbrev pub invariant-loop-i : goal.invariant-loop-i
invariant-loop-i g l = Paging g.K.Sink.writing g.K.Sink.beside_writes l.initial.sink l.sink l.initial.page l.page (connection_lines l.port 0 l.ends.endings)
    (connection_lines l.port l.i (drop l.i l.ends.endings))
