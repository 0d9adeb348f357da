-- A bus of one child, behind a port of 64 data bits.
use Rattle.eb_base.specs.declared.width.Width.TheVariants.{W32}
use Rattle.wb_tests.proofs.Quiets.{one_fits, narrow_quiet}
use Rattle.wb_tests.proofs.clocked.narrow.Goals as goal

pub returns : goal.returns
returns c =
    let fits = one_fits W32 c.new.result c.in_ok-parts.parts.items 7 c.leaf-node.result c.in_ok-parts.ensures.items c.new.ensures.part c.leaf-node.ensures.quiet.fits in
    record { quiet = narrow_quiet c.in_ok-bus.bus _ 7 fits c.in_ok-bus.ensures.slave c.in_ok-bus.ensures.sound }
