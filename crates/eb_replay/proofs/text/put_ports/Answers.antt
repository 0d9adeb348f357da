use Rattle.std.proofs.Common.{refl, arith, drop, ◌+◌}
use Rattle.eb_io.proofs.PageLemmas.{paging_none, paging_on, paging_wrong}
use Rattle.eb_replay.specs.Text.{reply_line, reply_lines}
use Rattle.eb_replay.proofs.TextLemmas.{next_port}
use Rattle.eb_replay.proofs.text.put_ports.Goals as goal

pub loop-port-init : goal.loop-port-init
loop-port-init g c = record {
  number = refl;
  went = paging_none g.K.Sink.writing g.K.Sink.beside_writes c.args.sink.now c.args.page.now (reply_lines 0 c.args.ports.now);
}

pub returns-in_err-put_port : goal.returns-in_err-put_port
returns-in_err-put_port g c =
    let at = c.loop-port in
    record {
      paged = paging_wrong g.K.Sink.writing g.K.Sink.beside_writes _ _ _ c.args.page.now _ _ (reply_lines 0 c.args.ports.now) (reply_line at.number c.port-item.result) (reply_lines (at.port-index + 1) (drop (at.port-index + 1) c.args.ports.now)) _ _
          c.from_residual.ensures.0 (next_port g.K.Sink.writing g.K.Sink.beside_writes _ _ c.args.page.now _ (reply_lines 0 c.args.ports.now) c.args.ports.now at.port-index at.number c.port-item.result (omega arith) c.port-item.is at.invariant.number at.invariant.went)
          c.in_err-put_port.ensures.paged;
    }

pub loop-port-preserved : goal.loop-port-preserved
loop-port-preserved g c =
    let at = c.loop-port in
    record {
      number = omega (arith, at.invariant.number);
      went = paging_on g.K.Sink.writing g.K.Sink.beside_writes _ _ _ c.args.page.now _ _ (reply_lines 0 c.args.ports.now) (reply_line at.number c.port-item.result) (reply_lines (at.port-index + 1) (drop (at.port-index + 1) c.args.ports.now))
          (next_port g.K.Sink.writing g.K.Sink.beside_writes _ _ c.args.page.now _ (reply_lines 0 c.args.ports.now) c.args.ports.now at.port-index at.number c.port-item.result (omega arith) c.port-item.is at.invariant.number at.invariant.went)
          c.in_ok-put_port.ensures.paged;
    }
