use Rattle.std.proofs.Common.{subst}
use Rattle.eb_io.specs.Writing.{Wrote}
use Rattle.eb_io.proofs.PageLemmas.{wrong_page, flushed}
use Rattle.soc_journal.specs.Text.{journal_text}
use Rattle.soc_journal.proofs.journal.Journal.write.Goals as goal

pub returns-in_err-put_journal : goal.returns-in_err-put_journal
returns-in_err-put_journal g c = record {
  wrote = subst (λ l. Wrote g.S.Sink.writing g.S.Sink.beside_writes c.args.sink.now c.put_journal.new.sink (journal_text l) c.from_residual.result) c.entries.ensures.entries
      (wrong_page g.S.Sink.writing g.S.Sink.beside_writes _ _ _ _ _ _ _ c.from_residual.ensures.0 c.new-page.ensures.empty c.in_err-put_journal.ensures.paged);
}

pub returns : goal.returns
returns g c = record {
  wrote = subst (λ l. Wrote g.S.Sink.writing g.S.Sink.beside_writes c.args.sink.now c.flush.new.sink (journal_text l) c.flush.result) c.entries.ensures.entries
      (flushed g.S.Sink.writing g.S.Sink.beside_writes _ _ _ _ _ _ _ c.new-page.ensures.empty c.in_ok-put_journal.ensures.paged c.flush.ensures.wrote);
}
