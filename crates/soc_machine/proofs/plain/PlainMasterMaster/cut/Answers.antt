-- The entries with the cut cycle are a legal history.
use Rattle.std.proofs.Common.{ap, sym, ◌∙◌}
use Rattle.soc_machine.specs.Plain.{PlainState, plain}
use Rattle.soc_machine.proofs.PlainLemmas.{cut_plain, cut_told}
use Rattle.soc_machine.proofs.plain.PlainMasterMaster.cut.Goals as goal

pub invariant_of-self : goal.invariant_of-self
invariant_of-self g c =
    (cut_plain _ _ _ c.self.invariant.0 (λ e. c.requires.is_open (sym (ap (λ (p : PlainState). p.opened) c.self.view_is) ∙ e)) c.end.ensures.made c.end.ensures.opened, λ some. absurd (some c.end.ensures.opened))

pub returns-clause-cut : goal.returns-clause-cut
returns-clause-cut g c =
    let inside = c.self.inside in
    cut_told (plain inside.began.value inside.machine inside.number (g.R.Recorder.made inside.recorder) (g.R.Recorder.opened inside.recorder) inside.answers.items) c.args.self.now
    (g.R.Recorder.made c.end.new.self) (g.R.Recorder.opened c.end.new.self) c.self.view_is c.requires.is_open c.end.ensures.made c.end.ensures.opened
