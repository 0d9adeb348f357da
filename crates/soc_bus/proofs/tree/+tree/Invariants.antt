-- The items that are left make the same parts as all of them.
use Rattle.std.proofs.Common.{◌≡◌, ◌++◌, map, drop}
use Rattle.eb_base.specs.declared.width.Width.TheVariants.{W32}
use Rattle.soc_desc.specs.Accepted.{is_32}
use Rattle.sdb_build.specs.Sound.{AreSoundItems}
use Rattle.soc_machine.specs.Described.{item_parts, parts_in}
use Rattle.wb_tree.specs.Tree.{part_slave, AllSound}
use Rattle.soc_bus.specs.Tree.{part_built}
use Rattle.soc_bus.proofs.tree.+tree.Given as goal

abbrev pub invariant-put_items-loop-item : goal.invariant-put_items-loop-item
invariant-put_items-loop-item l = record {
  sound : AreSoundItems is_32 0 (drop l.item-index l.items);
  made : AllSound l.parts.items;
  parts : map part_slave l.parts.items ++ map part_built (parts_in W32 (map item_parts (drop l.item-index l.items))) ≡ map part_slave l.fn.parts.items ++ map part_built (parts_in W32 (map item_parts l.fn.items));
}
