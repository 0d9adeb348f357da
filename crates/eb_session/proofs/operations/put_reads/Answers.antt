use Rattle.std.proofs.Common.{sym, subst, arith}
use Rattle.wb_signals.specs.Cycles.{AllFitBus}
use Rattle.eb_session.specs.Operations.{read_at}
use Rattle.eb_session.proofs.ListLemmas.{fit_more, pushed}
use Rattle.eb_session.proofs.operations.put_reads.Goals as goal

pub loop-i-preserved : goal.loop-i-preserved
loop-i-preserved c =
    let l = c.loop-i in (
      pushed c.args.ops.now.items l.ops.items c.push_reserved.new.self.items (read_at c.args.bus c.args.view.now.header c.args.view.now.item) l.i c.read_op.result l.invariant.0 c.push_reserved.ensures.items c.read_op.ensures.value,
      omega (arith, l.invariant.1, c.push_reserved.ensures),
      omega (arith, l.invariant.2, c.push_reserved.ensures.capacity),
      subst (AllFitBus c.args.bus) (sym c.push_reserved.ensures.items) (fit_more c.args.bus l.ops.items c.read_op.result l.invariant.3 c.read_op.ensures.fits),
    )
