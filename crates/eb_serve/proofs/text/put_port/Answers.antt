use Rattle.std.proofs.Common.{◌++◌, ap, refl}
use Rattle.eb_io.proofs.PageLemmas.{wrong_first_paged, paged_both}
use Rattle.eb_serve.specs.Text.{connection_lines, fault_lines, port_text}
use Rattle.eb_serve.proofs.text.put_port.Goals as goal

pub returns-in_err-put_connections : goal.returns-in_err-put_connections
returns-in_err-put_connections g c =
    let m = c.args.port in
    let ends = c.args.ends.now in
    record {
      paged = wrong_first_paged g.K.Sink.writing g.K.Sink.beside_writes _ _ _ _ (port_text m ends) (connection_lines m 0 ends.endings) (fault_lines m ends.door_failed) _ _ c.from_residual.ensures.0
          refl c.in_err-put_connections.ensures.paged;
    }

pub returns : goal.returns
returns g c =
    let m = c.args.port in
    let ends = c.args.ends.now in
    record {
      paged = paged_both g.K.Sink.writing g.K.Sink.beside_writes _ _ _ _ _ _ (port_text m ends) (connection_lines m 0 ends.endings) (fault_lines m c.door_failed.result) _
          (ap (λ b. connection_lines m 0 ends.endings ++ fault_lines m b) c.door_failed.ensures.failed) c.in_ok-put_connections.ensures.paged c.put_fault.ensures.paged;
    }
