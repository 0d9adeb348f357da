use Rattle.std.proofs.Common.{refl}
use Rattle.eb_io.proofs.PageLemmas.{wrong_first_paged, paged_both}
use Rattle.soc_journal.specs.Text.{entries_text, journal_text}
use Rattle.soc_journal.proofs.text.put_journal.Goals as goal

pub returns-in_err-put : goal.returns-in_err-put
returns-in_err-put g c = record {
  paged = wrong_first_paged g.S.Sink.writing g.S.Sink.beside_writes _ _ _ _ (journal_text c.args.entries.now) _ (entries_text c.args.entries.now) _ _ c.from_residual.ensures.0
      refl c.in_err-put.ensures.paged;
}

pub returns : goal.returns
returns g c = record {
  paged = paged_both g.S.Sink.writing g.S.Sink.beside_writes _ _ _ _ _ _ (journal_text c.args.entries.now) _ (entries_text c.args.entries.now) _
      refl c.in_ok-put.ensures.paged c.put_entries.ensures.paged;
}
