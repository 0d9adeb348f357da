use Rattle.std.proofs.Common.{length}
use Rattle.eb_io.specs.Text.{hex_text}
use Rattle.eb_io.proofs.PageLemmas.{Paging}
use Rattle.eb_replay.proofs.digits.put_digits.Given as goal

abbrev pub invariant-pieces : goal.invariant-pieces
invariant-pieces g l = Paging g.K.Sink.writing g.K.Sink.beside_writes l.initial.sink l.sink l.initial.page l.page (hex_text l.octets) (hex_text l.rest)

abbrev pub decreases-pieces : goal.decreases-pieces
decreases-pieces g l = length l.rest
