-- A node is sound where its bus is.
use Rattle.std.proofs.Common.{◌∙◌, ap, sym, subst}
use Rattle.wb_tree.specs.Tree.{IsSoundBranch, IsNarrow, narrow_branch}
use Rattle.wb_tree.proofs.Trees.{narrow_sound, node_slave-Narrow}
use Rattle.wb_tree.proofs.NarrowTrees.{new_narrow, new_slave}
use Rattle.wb_tree.proofs.node.Node.narrow.Goals as goal

pub returns-clause-slave : goal.returns-clause-slave
returns-clause-slave c =
    let e = c.in_ok-new.ensures in
    let ok = e.ok in
    node_slave-Narrow c.in_ok-new.field-0 ∙ ap narrow_branch ok ∙ new_slave _ _ c.in_ok-branch.ensures.new

pub returns-clause-sound : goal.returns-clause-sound
returns-clause-sound c =
    let e = c.in_ok-new.ensures in
    let ok = e.ok in
    narrow_sound c.in_ok-new.field-0 (subst IsSoundBranch (sym ok) c.in_ok-branch.ensures.sound) (subst IsNarrow (sym ok) (new_narrow _ _ c.in_ok-branch.ensures.new c.requires.of))
