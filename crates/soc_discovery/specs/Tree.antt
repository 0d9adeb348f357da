-- The tree of a description: the records of all its buses, each before those of the bus behind it, with their ways and their
-- absolute ranges.
use Rattle.std.specs.Prelude.{ℕ, ◌+◌, List, [], ◌∷◌, ◌++◌, length, map}
use Rattle.eb_base.specs.declared.width.Width.{Width}
use Rattle.soc_desc.specs.declared.description.Description.{Description}
use Rattle.soc_desc.specs.declared.description.ItemDescription.{ItemDescription, map-ItemDescription}
use Rattle.soc_desc.specs.declared.description.BusDescription.{BusDescription}
use Rattle.soc_desc.specs.declared.description.ItemDescription.TheOpen.{ItemDescription-F, BusDescription-F}
use Rattle.soc_desc.specs.declared.description.ItemDescription.TheFolds.{fold-ItemDescription, fold-BusDescription}
use Rattle.soc_desc.specs.View.{on_bus, bridged}
use Rattle.sdb_build.specs.Tables.{ItemTables, BusTables, placed_item_layer, placed_bus_layer, interconnect}
use Rattle.sdb_walk.specs.declared.found.Found.{Found}
use Rattle.sdb_walk.specs.Walk.{found_at}

-- an item: its record; and the tree of the bus behind it, by the base of its own bus and its way
pub record ItemTree : Type 0 where
  pub tables : ItemTables
  pub behind : ℕ → List ℕ → List Found

-- a bus: its records; and its tree, by its base and the way to its bridge
pub record BusTree : Type 0 where
  pub tables : BusTables
  pub tree : ℕ → List ℕ → List Found

-- The base of the bus behind a bridge is the bridge's address from the base of its own bus.
abbrev pub item_tree_layer : ItemDescription-F ItemTree BusTree → ItemTree
item_tree_layer item = record {
  tables = placed_item_layer (map-ItemDescription ItemTree BusTree ItemTables BusTables (λ i. i.tables) (λ b. b.tables) item);
  behind = bridged (λ base path. []) (λ at bus base path. bus.tree (base + at) path) (on_bus item);
}

-- the items from an index in the table on, each with what is behind it
abbrev pub items_from : Width → ℕ → List ℕ → ℕ → List ItemTree → List Found
items_from width base path index [] = []
items_from width base path index (item ∷ items) =
    found_at base (path ++ index ∷ []) (item.tables.entry width) ∷ item.behind base (path ++ index ∷ []) ++ items_from width base path (index + 1) items

-- the interconnect first, then the items in their order
abbrev pub bus_tree_layer : BusDescription-F ItemTree BusTree → BusTree
bus_tree_layer b = record {
  tables = placed_bus_layer (record { product = b.product; width = b.width; last = b.last; sdb = b.sdb; items = map (λ i. i.tables) b.items });
  tree = λ base path. found_at base (path ++ 0 ∷ []) (interconnect b.product b.last (length b.items)) ∷ items_from b.width base path 1 b.items;
}

abbrev pub item_tree : ItemDescription → ItemTree
item_tree = fold-ItemDescription ItemTree BusTree item_tree_layer bus_tree_layer

abbrev pub bus_tree : BusDescription → BusTree
bus_tree = fold-BusDescription ItemTree BusTree item_tree_layer bus_tree_layer

-- the base of the root is 0
abbrev pub tree_of : Description → List Found
tree_of d = (bus_tree d.bus).tree 0 []
