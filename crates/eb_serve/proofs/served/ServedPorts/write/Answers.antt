use Rattle.std.proofs.Common.{rules, ◌≡◌, ◌++◌, ap}
use Rattle.soc_journal.specs.Text.{journal_text}
use Rattle.eb_io.proofs.WritingLemmas.{wrong_first, wrote_both}
use Rattle.eb_serve.specs.Text.{ports_text, serve_text}
use Rattle.eb_serve.proofs.served.ServedPorts.write.Goals as goal

pub returns-in_err-write_ports : goal.returns-in_err-write_ports
returns-in_err-write_ports g c =
    let r = c.args.self.now in
    let ports : ports_text 0 c.deref.result.now ≡ ports_text 0 r.ports = search rules in
    record {
      wrote = wrong_first g.K.Sink.writing g.K.Sink.beside_writes _ _ (serve_text r) (ports_text 0 c.deref.result.now) (journal_text r.journal) _ _ c.from_residual.ensures.0
          (ap (λ l. l ++ journal_text r.journal) ports) c.in_err-write_ports.ensures.wrote;
    }

pub returns : goal.returns
returns g c =
    let r = c.args.self.now in
    let ports : ports_text 0 c.deref.result.now ≡ ports_text 0 r.ports = search rules in
    let entries : journal_text c.journal.result.now.entries ≡ journal_text r.journal = search rules in
    record {
      wrote = wrote_both g.K.Sink.writing g.K.Sink.beside_writes _ _ _ (serve_text r) (ports_text 0 c.deref.result.now) (journal_text c.journal.result.now.entries) _
          (λ i. ports i ++ entries i) c.in_ok-write_ports.ensures.wrote c.write.ensures.wrote;
    }
