use Rattle.std.proofs.Common.{◌≡◌, ◌++◌, map, drop}
use Rattle.sdb_build.specs.Tables.{images_behind, item_tables}
use Rattle.soc_desc.specs.Accepted.{is_32_or_64}
use Rattle.sdb_build.specs.Sound.{AreSoundItems}
use Rattle.sdb_build.proofs.image.+images.Given as goal

abbrev pub invariant-push_behind-loop-item : goal.invariant-push_behind-loop-item
invariant-push_behind-loop-item l = record {
  sound : AreSoundItems is_32_or_64 l.base (drop l.item-index l.items);
  written : l.images.items ++ images_behind l.base (map item_tables (drop l.item-index l.items)) ≡ l.fn.images.items ++ images_behind l.fn.base (map item_tables l.fn.items);
}
