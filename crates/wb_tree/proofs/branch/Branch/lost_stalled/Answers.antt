-- By who owes answers.
use Rattle.wb_tree.proofs.NarrowTrees.{lost_miss, lost_top}
use Rattle.wb_tree.proofs.branch.Branch.lost_stalled.Goals as goal

pub returns-in-Miss : goal.returns-in-Miss
returns-in-Miss c = record { stalled = lost_miss c.args.self.now c.requires.sound c.requires.width c.in-Miss.is }

pub returns-in-Top : goal.returns-in-Top
returns-in-Top c = record { stalled = lost_top c.args.self.now c.requires.sound c.requires.width c.in-Top.field-0 c.in-Top.is }
