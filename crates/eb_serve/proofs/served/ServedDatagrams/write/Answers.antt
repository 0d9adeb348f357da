use Rattle.std.proofs.Common.{rules, ◌≡◌, ◌++◌, ap}
use Rattle.soc_journal.specs.Text.{journal_text}
use Rattle.eb_io.proofs.WritingLemmas.{wrong_first, wrote_both}
use Rattle.eb_serve.specs.DatagramText.{datagram_lines, datagrams_text}
use Rattle.eb_serve.proofs.served.ServedDatagrams.write.Goals as goal

pub returns-in_err-write_datagrams : goal.returns-in_err-write_datagrams
returns-in_err-write_datagrams g c =
    let r = c.args.self.now in
    let datagrams : datagram_lines 0 c.self.inside.ends.endings ≡ datagram_lines 0 r.ends.endings = search rules in
    record {
      wrote = wrong_first g.K.Sink.writing g.K.Sink.beside_writes _ _ (datagrams_text r) (datagram_lines 0 c.self.inside.ends.endings) (journal_text r.journal) _ _ c.from_residual.ensures.0
          (ap (λ l. l ++ journal_text r.journal) datagrams) c.in_err-write_datagrams.ensures.wrote;
    }

pub returns : goal.returns
returns g c =
    let r = c.args.self.now in
    let datagrams : datagram_lines 0 c.self.inside.ends.endings ≡ datagram_lines 0 r.ends.endings = search rules in
    let entries : journal_text c.journal.result.now.entries ≡ journal_text r.journal = search rules in
    record {
      wrote = wrote_both g.K.Sink.writing g.K.Sink.beside_writes _ _ _ (datagrams_text r) (datagram_lines 0 c.self.inside.ends.endings) (journal_text c.journal.result.now.entries) _
          (λ i. datagrams i ++ entries i) c.in_ok-write_datagrams.ensures.wrote c.write.ensures.wrote;
    }
