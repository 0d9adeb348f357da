use Rattle.std.proofs.Common.{arith}
use Rattle.soc_bus.proofs.Nobody.{none_free_more, none_free}
use Rattle.soc_bus.proofs.grant.any_free.Goals as goal

pub loop-cycle-preserved : goal.loop-cycle-preserved
loop-cycle-preserved g c =
    none_free_more c.args.cycles.now c.args.held c.loop-cycle.cycle-index c.cycle-item.result (omega arith) c.cycle-item.is (c.is_free.ensures.free c.if-is_free.false) c.loop-cycle.invariant

pub returns : goal.returns
returns g c = record { none = λ e. none_free c.args.cycles.now c.args.held c.loop-cycle.cycle-index (omega arith) c.loop-cycle.invariant }
