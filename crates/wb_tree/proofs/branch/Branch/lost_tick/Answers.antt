-- The clock of a bus at which no child ticks.
use Rattle.std.proofs.Common.{◌∙◌}
use Rattle.wb_tree.proofs.NarrowTrees.{lost_answer, lost_after, lost_sound, lost_keeps}
use Rattle.wb_tree.proofs.branch.Branch.lost_tick.Goals as goal

pub returns-clause-answer : goal.returns-clause-answer
returns-clause-answer c = c.missed-answer.ensures.answer ∙ lost_answer c.args.self.now c.requires.sound c.requires.width c.requires.unstalled

pub returns-clause-after : goal.returns-clause-after
returns-clause-after c = lost_after c.args.self.now c.requires.sound c.requires.width c.requires.unstalled

pub returns-clause-kept : goal.returns-clause-kept
returns-clause-kept c = lost_keeps c.args.self.now c.requires.sound c.requires.width c.requires.unstalled

pub returns-clause-sound : goal.returns-clause-sound
returns-clause-sound c = lost_sound c.args.self.now c.requires.sound c.requires.width c.requires.unstalled
