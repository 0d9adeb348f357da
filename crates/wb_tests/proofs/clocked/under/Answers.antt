-- A bus of one child.
use Rattle.wb_tests.proofs.Quiets.{one_fits, bus_quiet}
use Rattle.wb_tests.proofs.clocked.under.Goals as goal

pub returns : goal.returns
returns c =
    let fits = one_fits c.args.bus c.new.result c.in_ok-parts.parts.items c.args.last c.args.node c.in_ok-parts.ensures.items c.new.ensures.part c.requires.quiet.fits in
    record { quiet = bus_quiet c.args.bus c.in_ok-bus.bus _ 15 fits c.in_ok-bus.ensures.slave c.in_ok-bus.ensures.sound }
