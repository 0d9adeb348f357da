use Rattle.std.proofs.Common.{drop}
use Rattle.eb_io.proofs.PageLemmas.{Paging}
use Rattle.soc_journal.specs.Text.{entries_text}
use Rattle.soc_journal.proofs.text.put_entries.Given as goal

abbrev pub invariant-loop-entry : goal.invariant-loop-entry
invariant-loop-entry g l =
    Paging g.S.Sink.writing g.S.Sink.beside_writes l.initial.sink l.sink l.initial.page l.page (entries_text l.entries) (entries_text (drop l.entry-index l.entries))
