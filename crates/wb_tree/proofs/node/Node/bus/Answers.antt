-- A node is sound where its bus is.
use Rattle.std.proofs.Common.{sym, subst}
use Rattle.wb_tree.specs.Tree.{IsSoundBranch}
use Rattle.wb_tree.proofs.Trees.{bus_sound}
use Rattle.wb_tree.proofs.node.Node.bus.Goals as goal

pub returns-clause-sound : goal.returns-clause-sound
returns-clause-sound c =
    let e = c.in_ok-new.ensures in
    let ok = e.ok in
    bus_sound c.in_ok-new.field-0 (subst IsSoundBranch (sym ok) c.in_ok-branch.ensures.sound)
