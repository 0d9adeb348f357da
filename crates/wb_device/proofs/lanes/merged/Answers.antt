-- The lanes of the two words fit together.
use Rattle.std.proofs.Common.{◌<◌, ◌+◌, ◌^◌, arith}
use Rattle.eb_base.specs.Width.{octets}
use Rattle.wb_device.proofs.MergedLemmas.{sum-lt, word-lt}
use Rattle.wb_device.proofs.lanes.merged.Goals as goal

pub returns-clause-fits : goal.returns-clause-fits
returns-clause-fits c =
    sum-lt (octets c.args.bus) c.args.sel c.args.dat c.args.old c.all_lanes.result c.selected-2.result c.selected-3.result
    c.requires.lanes c.selected-2.ensures.value c.all_lanes.ensures.lanes c.selected-3.ensures.value

pub overflow_add-result : goal.overflow_add-result
overflow_add-result c =
    let fits : c.selected-2.result + c.selected-3.result < 256 ^ octets c.args.bus =
    sum-lt (octets c.args.bus) c.args.sel c.args.dat c.args.old c.all_lanes.result c.selected-2.result c.selected-3.result
    c.requires.lanes c.selected-2.ensures.value c.all_lanes.ensures.lanes c.selected-3.ensures.value in
    omega (arith, fits, word-lt c.args.bus)
