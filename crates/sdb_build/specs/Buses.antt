-- The buses of a description: the root first and each bus before those behind its bridges, in the order of the items.
use Rattle.std.specs.Prelude.{ℕ, ◌+◌, List, [], ◌∷◌, ◌++◌, map}
use Rattle.soc_desc.specs.declared.description.Description.{Description}
use Rattle.soc_desc.specs.declared.description.ItemDescription.{ItemDescription, map-ItemDescription}
use Rattle.soc_desc.specs.declared.description.BusDescription.{BusDescription}
use Rattle.soc_desc.specs.declared.description.ItemDescription.TheOpen.{ItemDescription-F, BusDescription-F}
use Rattle.soc_desc.specs.declared.description.ItemDescription.TheViews.{roll-ItemDescription, roll-BusDescription}
use Rattle.soc_desc.specs.declared.description.ItemDescription.TheFolds.{fold-ItemDescription, fold-BusDescription}
use Rattle.soc_desc.specs.View.{on_bus, bridged}

-- a bus, and its base
pub record PlacedBus : Type 0 where
  pub base : ℕ
  pub bus : BusDescription

-- an item: itself, and the buses behind it, by the base of its bus
pub record ItemBuses : Type 0 where
  pub item : ItemDescription
  pub behind : ℕ → List PlacedBus

-- a bus: itself, and the same with all buses under it, by its base
pub record BusBuses : Type 0 where
  pub bus : BusDescription
  pub all : ℕ → List PlacedBus

-- the item and the bus that were folded
abbrev pub same_item : ItemDescription-F ItemBuses BusBuses → ItemDescription
same_item item = roll-ItemDescription (map-ItemDescription ItemBuses BusBuses ItemDescription BusDescription (λ i. i.item) (λ b. b.bus) item)

abbrev pub same_bus : BusDescription-F ItemBuses BusBuses → BusDescription
same_bus b = roll-BusDescription (record { product = b.product; width = b.width; last = b.last; sdb = b.sdb; items = map (λ i. i.item) b.items })

-- The base of the bus behind a bridge is the bridge's address from the base of its own bus.
abbrev pub behind_item : ItemDescription-F ItemBuses BusBuses → ℕ → List PlacedBus
behind_item item = bridged (λ base. []) (λ at bus base. bus.all (base + at)) (on_bus item)

abbrev pub behind_items : ℕ → List ItemBuses → List PlacedBus
behind_items base [] = []
behind_items base (item ∷ items) = item.behind base ++ behind_items base items

abbrev pub placed_item_layer : ItemDescription-F ItemBuses BusBuses → ItemBuses
placed_item_layer item = record { item = same_item item; behind = behind_item item }

abbrev pub placed_bus_layer : BusDescription-F ItemBuses BusBuses → BusBuses
placed_bus_layer b = record {
  bus = same_bus b;
  all = λ base. record { base = base; bus = same_bus b } ∷ behind_items base b.items;
}

abbrev pub item_buses : ItemDescription → ItemBuses
item_buses = fold-ItemDescription ItemBuses BusBuses placed_item_layer placed_bus_layer

abbrev pub bus_buses : BusDescription → BusBuses
bus_buses = fold-BusDescription ItemBuses BusBuses placed_item_layer placed_bus_layer

-- the base of the root is 0
abbrev pub buses_of : Description → List PlacedBus
buses_of d = (bus_buses d.bus).all 0
