use Rattle.std.proofs.Common.{drop}
use Rattle.eb_io.proofs.PageLemmas.{Paging}
use Rattle.soc_wave.specs.Text.{port_lines}
use Rattle.soc_wave.proofs.text.put_ports.Given as goal

abbrev pub invariant-loop-m : goal.invariant-loop-m
invariant-loop-m g l =
    Paging g.S.Sink.writing g.S.Sink.beside_writes l.initial.sink l.sink l.initial.page l.page (port_lines l.clock 0 l.ports) (port_lines l.clock l.m (drop l.m l.ports))
