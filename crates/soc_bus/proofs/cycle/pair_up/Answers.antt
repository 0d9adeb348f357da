-- One more pair.
use Rattle.std.proofs.Common.{◌+◌, ◌++◌, List, drop, ap, sym, ◌∙◌, append_assoc, arith}
use Rattle.wb_signals.specs.Cycles.{paired}
use Rattle.wb_signals.specs.History.{Pair}
use Rattle.soc_bus.proofs.CycleLists.{pair_more}
use Rattle.soc_bus.proofs.cycle.pair_up.Goals as goal

pub loop-i-preserved : goal.loop-i-preserved
loop-i-preserved g c =
    let p = c.args.port.now in
    let rest : List Pair = paired (drop (c.loop-i.i + 1) p.loaded) (drop (c.loop-i.i + 1) p.answers) in
    let before : List Pair = g.P.PairRecorder.pairs c.loop-i.pairs in
    record {
      pairs = ap (λ (ps : List Pair). ps ++ rest) c.add.ensures.pairs ∙ append_assoc before _ rest
          ∙ ap (λ (ps : List Pair). before ++ ps) (sym (pair_more p.loaded p.answers c.loop-i.i c.op.result c.answer.result c.op.ensures.op c.answer.ensures.answer)) ∙ c.loop-i.invariant.pairs;
      room = omega (arith, c.add.ensures.room, c.loop-i.invariant.room);
    }
