use Rattle.std.proofs.Common.{◌≡◌, drop}
use Rattle.eb_io.proofs.PageLemmas.{Paging}
use Rattle.eb_serve.specs.Text.{ports_text}
use Rattle.eb_serve.proofs.text.put_ports.Given as goal

abbrev pub invariant-loop-port : goal.invariant-loop-port
invariant-loop-port g l = record {
  number : l.number ≡ l.port-index;
  went : Paging g.K.Sink.writing g.K.Sink.beside_writes l.initial.sink l.sink l.initial.page l.page (ports_text 0 l.ports) (ports_text l.port-index (drop l.port-index l.ports));
}
