use Rattle.std.proofs.Common.{◌≡◌, drop}
use Rattle.std.specs.List.{find}
use Rattle.soc_desc.specs.Geometry.{spans_meet}
use Rattle.soc_desc.proofs.geometry.first_met.Given as goal

abbrev pub invariant-loop-earlier : goal.invariant-loop-earlier
invariant-loop-earlier l = find (spans_meet l.fn.span) (drop l.earlier-index l.before) ≡ find (spans_meet l.fn.span) l.fn.before
