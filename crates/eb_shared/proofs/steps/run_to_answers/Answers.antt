use Rattle.std.proofs.Common.{◌∙◌}
use Rattle.soc_bus.proofs.Adding.{keeps_on}
use Rattle.eb_shared.proofs.steps.run_to_answers.Goals as goal

pub loop-preserved : goal.loop-preserved
loop-preserved c = record {
  keeps = keeps_on c.args.bus.now c.loop.bus c.tick.new.self c.loop.invariant.keeps c.tick.ensures.keeps;
  description = c.tick.ensures.description ∙ c.loop.invariant.description;
}
