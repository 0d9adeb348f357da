use Rattle.std.proofs.Common.{arith}
use Rattle.eb_base.proofs.LaneLemmas.{selected-parts}
use Rattle.eb_base.proofs.lanes.eight_lanes.Goals as goal

pub returns : goal.returns
returns c = record {
  value = omega (arith, selected-parts 4 4 c.args.sel c.args.word, c.four_lanes.ensures.value, c.four_lanes-2.ensures.value);
}
