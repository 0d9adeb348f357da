use Rattle.std.proofs.Common.{refl, arith}
use Rattle.eb_io.proofs.PageLemmas.{paging_none, paging_item, wrong_paging_item}
use Rattle.soc_journal.specs.Text.{entry_text, entries_text}
use Rattle.soc_journal.proofs.text.put_entries.Goals as goal

pub loop-entry-init : goal.loop-entry-init
loop-entry-init g c = paging_none g.S.Sink.writing g.S.Sink.beside_writes c.args.sink.now c.args.page.now (entries_text c.args.entries.now)

pub returns-in_err-put_entry : goal.returns-in_err-put_entry
returns-in_err-put_entry g c = record {
  paged = wrong_paging_item g.S.Sink.writing g.S.Sink.beside_writes entry_text entries_text (λ e entries. refl) _ _ _ _ _ _ c.args.entries.now c.loop-entry.entry-index c.entry-item.result
      (entry_text c.entry-item.result) _ _ c.from_residual.ensures.0 (omega arith) c.entry-item.is refl c.loop-entry.invariant c.in_err-put_entry.ensures.paged;
}

pub loop-entry-preserved : goal.loop-entry-preserved
loop-entry-preserved g c =
    paging_item g.S.Sink.writing g.S.Sink.beside_writes entry_text entries_text (λ e entries. refl) _ _ _ _ _ _ c.args.entries.now c.loop-entry.entry-index c.entry-item.result
    (entry_text c.entry-item.result) (omega arith) c.entry-item.is refl c.loop-entry.invariant c.in_ok-put_entry.ensures.paged
