use Rattle.std.proofs.Common.{drop}
use Rattle.eb_io.proofs.PageLemmas.{Paging}
use Rattle.soc_journal.specs.Text.{pair_lines}
use Rattle.soc_journal.proofs.text.put_pairs.Given as goal

abbrev pub invariant-loop-pair : goal.invariant-loop-pair
invariant-loop-pair g l =
    Paging g.S.Sink.writing g.S.Sink.beside_writes l.initial.sink l.sink l.initial.page l.page (pair_lines l.pairs) (pair_lines (drop l.pair-index l.pairs))
