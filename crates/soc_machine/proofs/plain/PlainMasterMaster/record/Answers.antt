-- A record adds its pairs, and with its last operations a legal entry.
use Rattle.std.proofs.Common.{◌≡◌, ◌++◌, List, ap, sym, ◌∙◌}
use Rattle.wb_signals.specs.History.{Pair, Entry, cycle}
use Rattle.wb_signals.specs.Cycles.{made_after}
use Rattle.soc_machine.specs.Machine.{wiring_of}
use Rattle.soc_machine.specs.Plain.{PlainState, plain}
use Rattle.soc_machine.proofs.PlainLemmas.{recorded, added_told, count-told}
use Rattle.soc_machine.proofs.plain.PlainMasterMaster.record.Goals as goal

pub invariant_of-self-2 : goal.invariant_of-self-2
invariant_of-self-2 g c =
    let inside = c.self.inside in
    let made0 : List Entry = g.R.Recorder.made inside.recorder in
    let opened0 : List Pair = g.R.Recorder.opened inside.recorder in
    let ran : List Pair = g.R.Recorder.opened c.run.new.recorder in
    let opened_seen : opened0 ≡ c.args.self.now.opened = ap (λ (p : PlainState). p.opened) c.self.view_is in
    let pairs : ran ≡ opened0 ++ cycle (wiring_of inside.machine) inside.machine.contents c.args.ops.now =
    c.run.ensures.pairs ∙ ap (λ (ps : List Pair). ps ++ cycle (wiring_of inside.machine) inside.machine.contents c.args.ops.now) c.make_room.ensures.opened in
    let made : g.R.Recorder.made c.end_if.new.recorder ≡ made_after inside.number made0 ran c.args.last =
    c.end_if.ensures.made ∙ ap (λ (es : List Entry). made_after inside.number es ran c.args.last) (c.run.ensures.made ∙ c.make_room.ensures.made) in (
      recorded (plain inside.began.value inside.machine inside.number made0 opened0 inside.answers.items) c.args.ops.now c.args.last c.run.new.machine ran
          (g.R.Recorder.made c.end_if.new.recorder) (g.R.Recorder.opened c.end_if.new.recorder) c.run.new.answers.items c.self.invariant.0
          (λ e. ((c.requires.can.some e).0, λ f. (c.requires.can.some e).1 (sym opened_seen ∙ f))) c.run.ensures.plan c.run.ensures.contents pairs made c.end_if.ensures.opened,
      c.end_if.ensures.spare,
    )

pub returns-clause-answers : goal.returns-clause-answers
returns-clause-answers g c =
    let inside = c.self.inside in
    count-told inside.machine c.args.ops.now c.run.new.answers.items c.run.ensures.answers

pub returns-clause-ran : goal.returns-clause-ran
returns-clause-ran g c =
    let inside = c.self.inside in
    let made0 : List Entry = g.R.Recorder.made inside.recorder in
    let opened0 : List Pair = g.R.Recorder.opened inside.recorder in
    let ran : List Pair = g.R.Recorder.opened c.run.new.recorder in
    let pairs : ran ≡ opened0 ++ cycle (wiring_of inside.machine) inside.machine.contents c.args.ops.now =
    c.run.ensures.pairs ∙ ap (λ (ps : List Pair). ps ++ cycle (wiring_of inside.machine) inside.machine.contents c.args.ops.now) c.make_room.ensures.opened in
    let made : g.R.Recorder.made c.end_if.new.recorder ≡ made_after inside.number made0 ran c.args.last =
    c.end_if.ensures.made ∙ ap (λ (es : List Entry). made_after inside.number es ran c.args.last) (c.run.ensures.made ∙ c.make_room.ensures.made) in
    added_told (plain inside.began.value inside.machine inside.number made0 opened0 inside.answers.items) c.args.self.now c.args.ops.now c.args.last ran c.run.new.answers.items
    (g.R.Recorder.made c.end_if.new.recorder) (g.R.Recorder.opened c.end_if.new.recorder) c.self.view_is c.requires.can.some pairs c.run.ensures.answers made c.end_if.ensures.opened
