use Rattle.std.proofs.Common.{drop}
use Rattle.eb_io.proofs.PageLemmas.{Paging}
use Rattle.soc_wave.specs.Text.{rows_text}
use Rattle.soc_wave.proofs.text.put_rows.Given as goal

abbrev pub invariant-loop-clock : goal.invariant-loop-clock
invariant-loop-clock g l =
    Paging g.S.Sink.writing g.S.Sink.beside_writes l.initial.sink l.sink l.initial.page l.page (rows_text 0 l.wave.rows) (rows_text l.clock (drop l.clock l.wave.rows))
