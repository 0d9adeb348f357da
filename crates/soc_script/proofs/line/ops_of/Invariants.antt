use Rattle.std.proofs.Common.{◌≡◌, ◌≤◌, ℕ, List, ◌++◌, length, map, Some}
use Rattle.soc_script.specs.Script.{op_of}
use Rattle.soc_script.proofs.line.ops_of.Given as goal

abbrev pub invariant-reading : goal.invariant-reading
invariant-reading l = (before : List (List ℕ)) × (l.fn.words ≡ before ++ l.words) × (map (op_of l.bus) before ≡ map Some l.ops.items) × (length before ≤ 255)

abbrev pub decreases-reading : goal.decreases-reading
decreases-reading l = length l.words
