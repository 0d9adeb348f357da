use Rattle.std.proofs.Common.{◌≡◌, map, drop}
use Rattle.soc_desc.specs.Geometry.{all_placed, all_behind, buses_from, item_place}
use Rattle.soc_desc.proofs.geometry.+geometry.Given as goal

abbrev pub invariant-inner_placed-loop-i : goal.invariant-inner_placed-loop-i
invariant-inner_placed-loop-i l = record {
  found : all_placed (buses_from l.fn.path l.i (map item_place (drop l.i l.fn.items))) ≡ all_placed (buses_from l.fn.path 0 (map item_place l.fn.items));
  sound : all_behind (map item_place (drop l.i l.fn.items)) ≡ all_behind (map item_place l.fn.items);
}
