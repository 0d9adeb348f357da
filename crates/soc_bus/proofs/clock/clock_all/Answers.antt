-- The condition of the crossbar's tick, and of what the ports get.
use Rattle.std.proofs.Common.{◌≡◌, ◌∙◌, ap, subst, length, map, slice_get, Some}
use Rattle.std.proofs.lemmas.List.{length-map}
use Rattle.wb_signals.specs.Parts.{contents_in}
use Rattle.wb_signals.specs.Turn.{owed_by}
use Rattle.wb_tree.specs.Tree.{node_slave}
use Rattle.wb_crossbar.specs.Inside.{crossbar_of, parts_of}
use Rattle.soc_bus.specs.View.{CycleView, states}
use Rattle.soc_bus.specs.Clocked.{driven_rows}
use Rattle.soc_wave.specs.Shown.{holders_from}
use Rattle.soc_bus.proofs.ServedLemmas.{can_tick, can_pass, can_answer}
use Rattle.soc_bus.proofs.clock.clock_all.Goals as goal

pub tick-requires-clause-can : goal.tick-requires-clause-can
tick-requires-clause-can g c =
    let s = c.args.crossbar.now in
    let parts = parts_of node_slave s.slots.items in
    let cycles = states c.args.cycles.now in
    let n : length cycles ≡ length c.args.ports.now.items = length-map c.args.cycles.now (λ (p : CycleView). p.state) ∙ c.requires.cycles in
    let drove : c.drive_all.new.rows ≡ driven_rows cycles c.args.ports.now.items = c.drive_all.ensures.rows ∙ ap (driven_rows cycles) c.deref.ensures.value in
    let holders = holders_from cycles 0 (length (crossbar_of node_slave s).children) in (
      holders,
      can_tick s.width parts (contents_in parts) (map (owed_by parts) s.ports.items) holders c.requires.sound.owed.fits cycles c.args.ports.now.items c.drive_all.new.rows
          c.requires.served n drove c.drive_all.ensures.operations,
    )

pub sample_all-requires-clause-passes : goal.sample_all-requires-clause-passes
sample_all-requires-clause-passes g c = λ m p row f g.
    let x = crossbar_of node_slave c.args.crossbar.now in
    let cycles = states c.args.cycles.now in
    let n : length cycles ≡ length c.args.ports.now.items = length-map c.args.cycles.now (λ (p : CycleView). p.state) ∙ c.requires.cycles in
    let drove : c.drive_all.new.rows ≡ driven_rows cycles c.args.ports.now.items = c.drive_all.ensures.rows ∙ ap (driven_rows cycles) c.deref.ensures.value in
    can_pass x (holders_from cycles 0 (length x.children)) cycles c.args.ports.now.items c.drive_all.new.rows c.requires.served n drove m row
    (subst (λ rows. slice_get rows m ≡ Some row) c.tick.ensures.rows g) p f

pub sample_all-requires-clause-answers : goal.sample_all-requires-clause-answers
sample_all-requires-clause-answers g c = λ m p row f g.
    let x = crossbar_of node_slave c.args.crossbar.now in
    let cycles = states c.args.cycles.now in
    let n : length cycles ≡ length c.args.ports.now.items = length-map c.args.cycles.now (λ (p : CycleView). p.state) ∙ c.requires.cycles in
    let drove : c.drive_all.new.rows ≡ driven_rows cycles c.args.ports.now.items = c.drive_all.ensures.rows ∙ ap (driven_rows cycles) c.deref.ensures.value in
    can_answer x (holders_from cycles 0 (length x.children)) cycles c.args.ports.now.items c.drive_all.new.rows c.requires.served n drove m row
    (subst (λ rows. slice_get rows m ≡ Some row) c.tick.ensures.rows g) p f
