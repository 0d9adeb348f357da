use Rattle.std.proofs.Common.{◌≡◌, ◌≤◌, ◌+◌, ◌*◌, true, map, length, drop}
use Rattle.soc_desc.specs.Accepted.{is_32, item_fields, all_of, item_levels, greatest}
use Rattle.serde_json.specs.View.{items_view}
use Rattle.soc_desc.specs.Checks.{each_from}
use Rattle.soc_desc.specs.Shape.{item, bus}
use Rattle.soc_desc.proofs.Each.{with_front}
use Rattle.soc_desc.proofs.shape.+bus.Given as goal

abbrev pub decreases-bus : goal.decreases-bus
decreases-bus l = 8 * l.levels

abbrev pub decreases-bus_at : goal.decreases-bus_at
decreases-bus_at l = 8 * l.levels + 1

abbrev pub decreases-bridge_item : goal.decreases-bridge_item
decreases-bridge_item l = 8 * l.levels + 2

abbrev pub decreases-item : goal.decreases-item
decreases-item l = 8 * l.levels + 3

abbrev pub decreases-items : goal.decreases-items
decreases-items l = 8 * l.levels + 4

abbrev pub decreases-items_at : goal.decreases-items_at
decreases-items_at l = 8 * l.levels + 5

abbrev pub decreases-bus_of : goal.decreases-bus_of
decreases-bus_of l = 8 * l.levels + 6

abbrev pub invariant-items-loop-i : goal.invariant-items-loop-i
invariant-items-loop-i l = record {
  fields : all_of (map (item_fields is_32) l.items.items) ≡ true;
  levels : greatest (map item_levels l.items.items) ≤ l.fn.levels;
  count : length l.items.items ≡ l.i;
  found : with_front l.items.items (each_from (item (bus l.fn.levels)) l.fn.path l.i (items_view (drop l.i l.fn.values.items))) ≡ each_from (item (bus l.fn.levels)) l.fn.path 0 (items_view l.fn.values.items);
}
