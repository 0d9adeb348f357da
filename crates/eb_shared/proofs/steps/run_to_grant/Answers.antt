use Rattle.std.proofs.Common.{◌∙◌}
use Rattle.soc_bus.proofs.Adding.{keeps_on}
use Rattle.eb_shared.proofs.steps.run_to_grant.Goals as goal

pub loop-used-preserved : goal.loop-used-preserved
loop-used-preserved c = record {
  keeps = keeps_on c.args.bus.now c.loop-used.bus c.tick.new.self c.loop-used.invariant.keeps c.tick.ensures.keeps;
  description = c.tick.ensures.description ∙ c.loop-used.invariant.description;
}
