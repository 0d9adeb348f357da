-- The items that are left make the same slaves as all of them.
use Rattle.std.proofs.Common.{◌≡◌, ◌++◌, map, drop}
use Rattle.eb_base.specs.declared.width.Width.TheVariants.{W32}
use Rattle.soc_desc.specs.Accepted.{is_32}
use Rattle.sdb_build.specs.Sound.{AreSoundItems}
use Rattle.soc_machine.specs.Described.{item_parts, parts_in}
use Rattle.wb_tree.specs.Tree.{node_slave, IsSound}
use Rattle.wb_crossbar.specs.Inside.{parts_of, AllSound}
use Rattle.soc_bus.specs.Tree.{part_built}
use Rattle.soc_bus.proofs.tree.put_slots.Given as goal

abbrev pub invariant-loop-item : goal.invariant-loop-item
invariant-loop-item l = record {
  sound : AreSoundItems is_32 0 (drop l.item-index l.items);
  made : AllSound IsSound l.slots.items;
  slots : parts_of node_slave l.slots.items ++ map part_built (parts_in W32 (map item_parts (drop l.item-index l.items))) ≡ parts_of node_slave l.initial.slots.items ++ map part_built (parts_in W32 (map item_parts l.items));
}
