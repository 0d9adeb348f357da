-- All ports drive their rows.
use Rattle.std.proofs.Common.{◌≡◌, ◌<◌, ◌∙◌, ap, sym, length, arith}
use Rattle.std.proofs.lemmas.List.{get_or_default, length-map}
use Rattle.wb_port.specs.Port.{driven}
use Rattle.soc_core.specs.Sound.{is_busy_phase}
use Rattle.soc_bus.specs.View.{CycleView, states}
use Rattle.soc_bus.specs.Clocked.{driving}
use Rattle.soc_bus.proofs.RowLemmas.{driven_all, all_operations, drives, no_port, busy}
use Rattle.soc_bus.proofs.CycleLists.{get_state}
use Rattle.soc_bus.proofs.clock.drive_all.Goals as goal

pub returns-clause-rows : goal.returns-clause-rows
returns-clause-rows g c =
    let n = length-map c.args.cycles.now (λ (p : CycleView). p.state) in
    driven_all (states c.args.cycles.now) c.args.ports.now c.loop-m.rows c.loop-m.m (omega (arith, n, c.requires.cycles)) (omega (arith, c.loop-m-test.false, c.loop-m.auto.rows)) c.loop-m.invariant

pub returns-clause-operations : goal.returns-clause-operations
returns-clause-operations g c = all_operations (states c.args.cycles.now) c.args.ports.now c.loop-m.rows c.loop-m.m (omega (arith, c.loop-m-test.false, c.loop-m.auto.rows)) c.loop-m.invariant

pub loop-m-preserved : goal.loop-m-preserved
loop-m-preserved g c =
    let m : c.loop-m.m < length c.args.ports.now = omega (arith, c.loop-m-test.true, c.requires.rows) in
    let in_cycles : c.loop-m.m < length c.args.cycles.now = omega (arith, m, c.requires.cycles) in
    let l : c.loop-m.m < length c.loop-m.rows = omega (arith, c.loop-m-test.true, c.loop-m.auto.rows) in
    let cyc : c.is_busy.result ≡ busy (states c.args.cycles.now) c.loop-m.m =
    c.is_busy.ensures.busy ∙ ap (λ p. is_busy_phase p.phase) (sym (get_state c.args.cycles.now c.loop-m.m c.index-cycles-m.result in_cycles (c.index-cycles-m.is))) in
    drives (states c.args.cycles.now) c.args.ports.now c.loop-m.rows c.loop-m.m c.driving.result l c.loop-m.invariant
    (c.driving.ensures.row ∙ ap (λ b. driving b (driven c.index-ports-m.result)) cyc ∙ ap (driving (busy (states c.args.cycles.now) c.loop-m.m)) (ap driven (c.index-ports-m.is ∙ get_or_default c.args.ports.now c.loop-m.m c.index-ports-m.result no_port m)))
    c.driving.ensures.operation
