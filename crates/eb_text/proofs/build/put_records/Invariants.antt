use Rattle.std.proofs.Common.{length}
use Rattle.eb_io.proofs.PageLemmas.{Paging}
use Rattle.eb_text.proofs.TableLemmas.{all_lines}
use Rattle.eb_text.proofs.build.put_records.Given as goal

abbrev pub invariant-records : goal.invariant-records
invariant-records g l = Paging g.K.Sink.writing g.K.Sink.beside_writes l.initial.sink l.sink l.initial.page l.page (all_lines l.octets) (all_lines l.rest)

abbrev pub decreases-records : goal.decreases-records
decreases-records g l = length l.rest
