use Rattle.std.proofs.Common.{◌∙◌, sym, ap, length, List}
use Rattle.wb_signals.specs.History.{Entry, Pair}
use Rattle.eb_load.specs.Summary.{totals, operations, capped}
use Rattle.eb_load.proofs.SummaryLemmas.{nothing_yet}
use Rattle.eb_load.proofs.counted.Counted.new.Goals as goal

pub invariant_of-result : goal.invariant_of-result
invariant_of-result g c = record {
  of_cycles = ap (λ (l : List Entry). capped (length l)) (sym c.requires.made);
  of_ended = nothing_yet ∙ ap (λ (l : List Entry). totals (operations l)) (sym c.requires.made);
  of_opened = nothing_yet ∙ ap (λ (l : List Pair). totals l) (sym c.requires.opened);
}
