-- The clocks of a script end, and show it.
use Rattle.std.proofs.Common.{ℕ, refl, ap, ◌∙◌}
use Rattle.soc_desc.specs.declared.description.Description.{Description}
use Rattle.soc_script_wave.specs.Runner.{todos_from}
use Rattle.soc_sim.proofs.UnderWay.{begins_on, may_on, goes_on_to, fewer_left, ends_with}
use Rattle.soc_sim.proofs.runner.run_clocks.Goals as goal

pub clocks-init : goal.clocks-init
clocks-init g c =
    let count = c.masters.ensures.masters ∙ ap (λ (d : Description). d.masters) c.bus.ensures.description in
    record {
      description = refl;
      under = begins_on c.args.bus.now.description c.requires.accepted c.args.lines.now c.requires.lines c.args.bus.now c.in_ok-todos.todos c.requires.built c.requires.rows
          (c.in_ok-todos.ensures.todos ∙ ap (λ (n : ℕ). todos_from c.args.lines.now 0 n) count);
    }

pub run_clock-requires-clause-may : goal.run_clock-requires-clause-may
run_clock-requires-clause-may g c =
    may_on c.args.bus.now.description c.requires.accepted c.args.lines.now c.requires.lines c.clocks.todos c.clocks.bus c.clocks.invariant.description c.clocks.invariant.under

pub clocks-smaller : goal.clocks-smaller
clocks-smaller g c =
    fewer_left c.args.bus.now.description c.requires.accepted c.args.lines.now c.requires.lines c.clocks.todos c.clocks.bus c.clocks.invariant.description c.clocks.invariant.under
    c.run_clock.new.bus c.in_ok-run_clock.ensures.clock c.in_ok-run_clock.field-0 c.in_ok-run_clock.ensures.over

pub clocks-preserved : goal.clocks-preserved
clocks-preserved g c = record {
  description = c.in_ok-run_clock.ensures.description ∙ c.clocks.invariant.description;
  under = goes_on_to c.args.bus.now.description c.requires.accepted c.args.lines.now c.requires.lines c.clocks.todos c.clocks.bus c.clocks.invariant.description c.clocks.invariant.under
      c.run_clock.new.bus c.in_ok-run_clock.ensures.clock c.in_ok-run_clock.field-0 c.in_ok-run_clock.ensures.over c.if-not-branch.true c.run_clock.new.todos c.in_ok-run_clock.ensures.left;
}

pub returns-clause-ran : goal.returns-clause-ran
returns-clause-ran g c =
    (ends_with c.args.bus.now.description c.requires.accepted c.args.lines.now c.requires.lines c.clocks.todos c.clocks.bus c.clocks.invariant.description c.clocks.invariant.under
    c.run_clock.new.bus c.in_ok-run_clock.ensures.clock c.in_ok-run_clock.field-0 c.in_ok-run_clock.ensures.over c.if-not-branch.false c.in_ok-run_clock.ensures.description).0

pub returns-clause-own : goal.returns-clause-own
returns-clause-own g c =
    (ends_with c.args.bus.now.description c.requires.accepted c.args.lines.now c.requires.lines c.clocks.todos c.clocks.bus c.clocks.invariant.description c.clocks.invariant.under
    c.run_clock.new.bus c.in_ok-run_clock.ensures.clock c.in_ok-run_clock.field-0 c.in_ok-run_clock.ensures.over c.if-not-branch.false c.in_ok-run_clock.ensures.description).1
