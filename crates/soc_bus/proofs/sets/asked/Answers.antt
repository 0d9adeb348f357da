use Rattle.std.proofs.Common.{ℕ, Option, ap, ◌∙◌, arith}
use Rattle.wb_signals.specs.Request.{Request}
use Rattle.wb_tree.specs.Tree.{node_slave}
use Rattle.wb_crossbar.specs.Crossbar.{target_of}
use Rattle.wb_crossbar.specs.Inside.{crossbar_of}
use Rattle.soc_core.specs.Built.{one_slave}
use Rattle.soc_bus.proofs.AskedLemmas.{some_below, asked_more, asked_all}
use Rattle.soc_bus.proofs.sets.asked.Goals as goal

pub one-set-requires : goal.one-set-requires
one-set-requires c = record { below = some_below (crossbar_of node_slave c.args.crossbar.now).children c.op.inside.adr c.target.result c.target.ensures.target c.requires.few }

pub loop-op-preserved : goal.loop-op-preserved
loop-op-preserved c =
    let top : Request → Option ℕ = λ r. target_of (crossbar_of node_slave c.args.crossbar.now).children r.adr in
    asked_more top c.args.ops.now c.loop-op.op-index c.loop-op.set c.one-set.result c.op-item.result c.loop-op-test.true c.op-item.is
    (c.one-set.ensures.one ∙ ap one_slave (c.target.ensures.target ∙ ap top c.op.view_is)) c.loop-op.invariant

pub returns : goal.returns
returns c = record { asked = asked_all (λ (r : Request). target_of (crossbar_of node_slave c.args.crossbar.now).children r.adr) c.args.ops.now c.loop-op.op-index c.loop-op.set (omega arith) c.loop-op.invariant }
