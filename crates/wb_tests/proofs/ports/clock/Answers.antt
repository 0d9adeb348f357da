-- The port requests an operation of the bus.
use Rattle.std.proofs.Common.{◌∷◌, [], Some, refl, sym, subst}
use Rattle.wb_signals.specs.Cycles.{FitsBus}
use Rattle.wb_crossbar.specs.Inside.{crossbar_of}
use Rattle.wb_tree.specs.Tree.{node_slave}
use Rattle.wb_tests.proofs.Shareds.{can_tick, still_shared}
use Rattle.wb_tests.proofs.ports.clock.Goals as goal

pub tick-requires-clause-can : goal.tick-requires-clause-can
tick-requires-clause-can c =
    let s = c.requires.shared in
    let fits = subst (λ w. FitsBus w c.args.op) (sym s.width) c.requires.fits in (
      Some 0 ∷ [],
      can_tick (crossbar_of node_slave c.args.crossbar.now) _ _ _ c.args.op refl refl s.ports s.slaves c.requesting.ensures.asks c.requesting.ensures.operation fits,
    )

pub returns : goal.returns
returns c = record { shared = still_shared c.args.crossbar.now c.tick.new.self _ c.requires.shared refl c.tick.ensures.crossbar c.tick.ensures.sound }
