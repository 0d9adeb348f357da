use Rattle.std.proofs.Common.{◌∙◌, sym, ap, length, List}
use Rattle.wb_signals.specs.History.{Entry, Pair}
use Rattle.eb_load.specs.Summary.{totals, operations, capped}
use Rattle.eb_load.proofs.SummaryLemmas.{nothing_yet, cycle_added, cycle_counted}
use Rattle.eb_load.proofs.counted.CountedRecorder.end.Goals as goal

pub invariant_of-self : goal.invariant_of-self
invariant_of-self g c =
    let old = c.args.self.now in
    let made = g.R.Recorder.made old.recorder in
    let e : Entry = record { master = c.args.number; cut = c.args.cut; pairs = g.R.Recorder.opened old.recorder } in
    record {
      of_cycles = cycle_counted old.cycles c.saturating_add-self.result made e old.of_cycles c.saturating_add-self.ensures ∙ ap (λ (l : List Entry). capped (length l)) (sym c.end.ensures.made);
      of_ended = cycle_added old.ended old.opened c.joined-self.result made e old.of_ended old.of_opened c.joined-self.ensures.value ∙ ap (λ (l : List Entry). totals (operations l)) (sym c.end.ensures.made);
      of_opened = nothing_yet ∙ ap (λ (l : List Pair). totals l) (sym c.end.ensures.opened);
    }
