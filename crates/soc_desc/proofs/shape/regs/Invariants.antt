use Rattle.std.proofs.Common.{◌≡◌, true, length, drop}
use Rattle.std.specs.List.{list_all}
use Rattle.serde_json.specs.View.{items_view}
use Rattle.soc_desc.specs.Accepted.{is_reg}
use Rattle.soc_desc.specs.Checks.{each_from}
use Rattle.soc_desc.specs.Shape.{reg}
use Rattle.soc_desc.proofs.Each.{with_front}
use Rattle.soc_desc.proofs.shape.regs.Given as goal

abbrev pub invariant-loop-i : goal.invariant-loop-i
invariant-loop-i l = record {
  fields : list_all is_reg l.regs.items ≡ true;
  count : length l.regs.items ≡ l.i;
  found : with_front l.regs.items (each_from reg l.fn.path l.i (items_view (drop l.i l.fn.values.items))) ≡ each_from reg l.fn.path 0 (items_view l.fn.values.items);
}
