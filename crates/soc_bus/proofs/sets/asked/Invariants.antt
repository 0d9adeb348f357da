use Rattle.std.proofs.Common.{◌≡◌, bit_or, drop}
use Rattle.wb_tree.specs.Tree.{node_slave}
use Rattle.wb_crossbar.specs.Inside.{crossbar_of}
use Rattle.wb_signals.specs.Request.{Request}
use Rattle.wb_crossbar.specs.Crossbar.{target_of}
use Rattle.soc_core.specs.Built.{slaves_asked}
use Rattle.soc_bus.proofs.sets.asked.Given as goal

abbrev pub invariant-loop-op : goal.invariant-loop-op
invariant-loop-op l =
    bit_or l.set (slaves_asked (λ (r : Request). target_of (crossbar_of node_slave l.crossbar).children r.adr) (drop l.op-index l.ops))
    ≡ slaves_asked (λ (r : Request). target_of (crossbar_of node_slave l.crossbar).children r.adr) l.ops
