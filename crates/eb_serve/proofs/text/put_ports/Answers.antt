use Rattle.std.proofs.Common.{refl, arith, drop, ◌+◌}
use Rattle.eb_io.proofs.PageLemmas.{paging_none, paging_on, paging_wrong}
use Rattle.eb_serve.specs.Text.{port_text, ports_text}
use Rattle.eb_serve.proofs.LineLemmas.{next_served}
use Rattle.eb_serve.proofs.text.put_ports.Goals as goal

pub loop-port-init : goal.loop-port-init
loop-port-init g c = record {
  number = refl;
  went = paging_none g.K.Sink.writing g.K.Sink.beside_writes c.args.sink.now c.args.page.now (ports_text 0 c.args.ports.now);
}

pub returns-in_err-put_port : goal.returns-in_err-put_port
returns-in_err-put_port g c =
    let at = c.loop-port in
    record {
      paged = paging_wrong g.K.Sink.writing g.K.Sink.beside_writes _ _ _ c.args.page.now _ _ (ports_text 0 c.args.ports.now) (port_text at.number c.port-item.result) (ports_text (at.port-index + 1) (drop (at.port-index + 1) c.args.ports.now)) _ _
          c.from_residual.ensures.0 (next_served g.K.Sink.writing g.K.Sink.beside_writes _ _ c.args.page.now _ (ports_text 0 c.args.ports.now) c.args.ports.now at.port-index at.number c.port-item.result (omega arith) c.port-item.is at.invariant.number at.invariant.went)
          c.in_err-put_port.ensures.paged;
    }

pub loop-port-preserved : goal.loop-port-preserved
loop-port-preserved g c =
    let at = c.loop-port in
    record {
      number = omega (arith, at.invariant.number);
      went = paging_on g.K.Sink.writing g.K.Sink.beside_writes _ _ _ c.args.page.now _ _ (ports_text 0 c.args.ports.now) (port_text at.number c.port-item.result) (ports_text (at.port-index + 1) (drop (at.port-index + 1) c.args.ports.now))
          (next_served g.K.Sink.writing g.K.Sink.beside_writes _ _ c.args.page.now _ (ports_text 0 c.args.ports.now) c.args.ports.now at.port-index at.number c.port-item.result (omega arith) c.port-item.is at.invariant.number at.invariant.went)
          c.in_ok-put_port.ensures.paged;
    }
