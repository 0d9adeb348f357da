use Rattle.std.proofs.Common.{drop}
use Rattle.eb_io.proofs.PageLemmas.{Paging}
use Rattle.eb_text.specs.Listing.{steps_text}
use Rattle.eb_text.proofs.listing.put_steps.Given as goal

abbrev pub invariant-loop-step : goal.invariant-loop-step
invariant-loop-step g l =
    Paging g.K.Sink.writing g.K.Sink.beside_writes l.initial.sink l.sink l.initial.page l.page (steps_text l.steps) (steps_text (drop l.step-index l.steps))
