use Rattle.std.proofs.Common.{◌≡◌, ◌++◌, map, drop}
use Rattle.soc_desc.specs.Geometry.{spans_from, item_place}
use Rattle.soc_desc.proofs.geometry.item_spans.Given as goal

abbrev pub invariant-loop-i : goal.invariant-loop-i
invariant-loop-i l = l.spans.items ++ spans_from l.fn.path l.i (map item_place (drop l.i l.fn.items)) ≡ spans_from l.fn.path 0 (map item_place l.fn.items)
