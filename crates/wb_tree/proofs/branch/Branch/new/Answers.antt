-- A new bus owes nothing.
use Rattle.wb_tree.proofs.Trees.{new_sound, new_is}
use Rattle.wb_tree.proofs.branch.Branch.new.Goals as goal

pub returns-clause-new : goal.returns-clause-new
returns-clause-new c = new_is c.args.width c.args.parts c.in_ok-uppers.uppers c.args.room c.in_ok-uppers.ensures

pub returns-clause-sound : goal.returns-clause-sound
returns-clause-sound c = new_sound c.args.width c.args.parts c.in_ok-uppers.uppers c.requires.sound c.requires.fits c.requires.quiet
