use Rattle.std.proofs.Common.{◌≡◌, ℕ, List, ◌++◌, length}
use Rattle.soc_script.specs.Script.{AreLines, ops_in}
use Rattle.soc_script.proofs.script.read_lines.Given as goal

abbrev pub invariant-reading : goal.invariant-reading
invariant-reading l = (before : List (List ℕ)) × (l.fn.texts ≡ before ++ l.texts) × AreLines l.bus l.masters before l.lines.items × (l.number ≡ length before) × (l.ops ≡ ops_in l.lines.items)

abbrev pub decreases-reading : goal.decreases-reading
decreases-reading l = length l.texts
