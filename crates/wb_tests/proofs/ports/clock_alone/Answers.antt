-- No other port is there.
use Rattle.std.proofs.Common.{◌∷◌, [], refl, sym, subst}
use Rattle.wb_signals.specs.Cycles.{FitsBus}
use Rattle.wb_crossbar.specs.Inside.{crossbar_of}
use Rattle.wb_tree.specs.Tree.{node_slave}
use Rattle.wb_tests.proofs.Shareds.{can_alone, still_shared}
use Rattle.wb_tests.proofs.ports.clock_alone.Goals as goal

pub tick_alone-requires-clause-can : goal.tick_alone-requires-clause-can
tick_alone-requires-clause-can c =
    let s = c.requires.shared in
    let row = c.requesting-row.result in
    let fits = subst (λ w. FitsBus w c.args.op) (sym s.width) c.requires.fits in
    (row ∷ [], can_alone (crossbar_of node_slave c.args.crossbar.now) row c.args.op s.ports s.slaves c.requesting-row.ensures.asks c.requesting-row.ensures.operation fits)

pub returns : goal.returns
returns c =
    let s = c.requires.shared in
    let row = c.requesting-row.result in
    let fits = subst (λ w. FitsBus w c.args.op) (sym s.width) c.requires.fits in
    let alone = can_alone (crossbar_of node_slave c.args.crossbar.now) row c.args.op s.ports s.slaves c.requesting-row.ensures.asks c.requesting-row.ensures.operation fits in
    record { shared = still_shared c.args.crossbar.now c.tick_alone.new.self (row ∷ []) s refl (c.tick_alone.ensures.crossbar (row ∷ []) alone) c.tick_alone.ensures.sound }
