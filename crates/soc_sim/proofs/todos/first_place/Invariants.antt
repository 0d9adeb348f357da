-- No line before is the master's.
use Rattle.std.proofs.Common.{◌≡◌, drop}
use Rattle.soc_script.specs.Cycles.{own_lines}
use Rattle.soc_sim.proofs.todos.first_place.Given as goal

abbrev pub invariant-loop-i : goal.invariant-loop-i
invariant-loop-i l = own_lines l.m (drop l.i l.lines) ≡ own_lines l.m (drop l.from l.lines)
