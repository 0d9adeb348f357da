use Rattle.std.proofs.Common.{◌≡◌, ◌+◌, ◌*◌, ◌++◌, length, map, drop}
use Rattle.std.specs.Prelude.{vec_len}
use Rattle.sdb_build.specs.Tables.{spelled, entries, item_tables}
use Rattle.soc_desc.specs.Accepted.{is_32_or_64}
use Rattle.sdb_build.specs.Sound.{AreSoundItems}
use Rattle.sdb_build.proofs.tables.push_entries.Given as goal

abbrev pub invariant-loop-item : goal.invariant-loop-item
invariant-loop-item l = record {
  sound : AreSoundItems is_32_or_64 0 (drop l.item-index l.items);
  counted : vec_len l.out + 64 * length (drop l.item-index l.items) ≡ vec_len l.fn.out + 64 * length l.fn.items;
  written : l.out.items ++ spelled (entries l.width (map item_tables (drop l.item-index l.items))) ≡ l.fn.out.items ++ spelled (entries l.fn.width (map item_tables l.fn.items));
}
