use Rattle.std.proofs.Common.{◌++◌, ◌∷◌, [], List, ap, sym, ◌∙◌, arith}
use Rattle.wb_signals.specs.declared.answer.Answer.{Answer}
use Rattle.soc_core.specs.Core.{port}
use Rattle.soc_bus.proofs.LocalLemmas.{take_get}
use Rattle.eb_shared.proofs.steps.copy_answers.Goals as goal

pub loop-i-preserved : goal.loop-i-preserved
loop-i-preserved c = record {
  items =
      c.push_reserved.ensures.items ∙ ap (λ (xs : List Answer). xs ++ c.answer.result ∷ []) c.loop-i.invariant.items
      ∙ sym (take_get (port c.args.bus.now.core c.args.m).got c.loop-i.i c.answer.result c.answer.ensures.answer);
  len = omega (arith, c.push_reserved.ensures.len, c.loop-i.invariant.len);
  capacity = c.push_reserved.ensures.capacity ∙ c.loop-i.invariant.capacity;
}
