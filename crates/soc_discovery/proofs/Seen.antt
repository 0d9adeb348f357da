-- What the view of an item says of its tables, its place in the machine, its tree and the rules that it keeps.
use Rattle.std.proofs.Common.{◌≡◌, ℕ, ◌+◌, ◌-◌, ◌%◌, ◌^◌, ◌<◌, ◌≤◌, List, [], true, ◌&&◌, nat_le, refl, sym, ap, ◌∙◌, subst, arith}
use Rattle.std.proofs.lemmas.Bool.{and_parts}
use Rattle.std.proofs.lemmas.Bool.Decides.{nat_tests}
use Rattle.eb_base.specs.declared.width.Width.{Width}
use Rattle.eb_base.specs.declared.name.Product.{Product}
use Rattle.soc_desc.specs.declared.totals.Totals.{Totals}
use Rattle.soc_desc.specs.declared.view.Interface.{Interface}
use Rattle.soc_desc.specs.declared.description.BusDescription.{BusDescription}
use Rattle.soc_desc.specs.declared.description.ItemDescription.{ItemDescription, map-ItemDescription}
use Rattle.soc_desc.specs.declared.description.ItemDescription.TheViews.{out-ItemDescription, out-BusDescription}
use Rattle.soc_desc.specs.declared.description.ItemDescription.TheFolds.{fold_out-ItemDescription, fold_out-BusDescription}
use Rattle.soc_desc.specs.View.{Device, octets_in, OnBus, OfDevice, OfBridge, OfNote, OfEmpty, on_bus, bridged}
use Rattle.soc_desc.specs.Geometry as geo
use Rattle.soc_desc.specs.Geometry.{ItemPlace, BusPlace, bus_place, extent_at, are_within}
use Rattle.soc_desc.specs.Accepted.{IsSoundBus, is_32, is_product, is_make, is_interface, bus_fields, item_levels, bus_levels, item_levels_layer, bus_levels_layer}
use Rattle.soc_desc.specs.Checks.{is_in}
use Rattle.soc_desc.specs.Shape.{address, wait_clocks, u16, u8}
use Rattle.soc_desc.specs.Sound.{IsSoundItem}
use Rattle.soc_desc.specs.Totals as totals
use Rattle.soc_desc.specs.Totals.{item_totals, bus_totals, totals_on}
use Rattle.soc_desc.proofs.Sound.{device_kept}
use Rattle.soc_desc.proofs.Seen.{with_bus, on_bus-map, fields_seen, place_seen, make_some}
use Rattle.sdb_record.specs.declared.kinds.Record.{Record}
use Rattle.sdb_build.specs.Tables as tables
use Rattle.sdb_build.specs.Tables.{ItemTables, BusTables, item_tables, bus_tables, entry_on, bridge}
use Rattle.sdb_build.specs.Buses as buses
use Rattle.sdb_build.specs.Buses.{PlacedBus, ItemBuses, BusBuses, item_buses, bus_buses}
use Rattle.soc_machine.specs.Described.{ItemParts, BusParts, item_parts, bus_parts, item_parts_layer, bus_parts_layer, parts_on}
use Rattle.soc_machine.proofs.ItemLemmas.{in_range}
use Rattle.sdb_walk.specs.declared.found.Found.{Found}
use Rattle.soc_discovery.specs.Tree.{ItemTree, BusTree, item_tree, bus_tree, item_tree_layer, bus_tree_layer}

-- ---- what stands behind an item, by its view

abbrev pub levels_behind : OnBus BusDescription → ℕ
levels_behind v = bridged 0 (λ at b. bus_levels b) v

abbrev pub records_behind : OnBus BusDescription → ℕ
records_behind v = bridged 0 (λ at b. (bus_totals b).records) v

abbrev pub buses_behind : OnBus BusDescription → ℕ → List PlacedBus
buses_behind v base = bridged [] (λ at b. (bus_buses b).all (base + at)) v

abbrev pub tree_behind : OnBus BusDescription → ℕ → List ℕ → List Found
tree_behind v base path = bridged [] (λ at b. (bus_tree b).tree (base + at) path) v

-- its record on a bus of a width
abbrev pub record_seen : OnBus BusDescription → Width → Record
record_seen v width = entry_on (with_bus bus_tables v) width

-- ---- the last address of a bus, and where its table stands

pub table_last : (b : BusDescription) → (bus_tables b).last ≡ (out-BusDescription b).last
table_last b = ap (λ (t : BusTables). t.last) (fold_out-BusDescription ItemTables BusTables tables.placed_item_layer tables.placed_bus_layer b)

pub table_sdb : (b : BusDescription) → (bus_tables b).sdb ≡ (out-BusDescription b).sdb
table_sdb b = ap (λ (t : BusTables). t.sdb) (fold_out-BusDescription ItemTables BusTables tables.placed_item_layer tables.placed_bus_layer b)

tree_last : (b : BusDescription) → (bus_tree b).tables.last ≡ (bus_tables b).last
tree_last b = ap (λ (t : BusTree). t.tables.last) (fold_out-BusDescription ItemTree BusTree item_tree_layer bus_tree_layer b) ∙ sym (table_last b)

tree_sdb : (b : BusDescription) → (bus_tree b).tables.sdb ≡ (bus_tables b).sdb
tree_sdb b = ap (λ (t : BusTree). t.tables.sdb) (fold_out-BusDescription ItemTree BusTree item_tree_layer bus_tree_layer b) ∙ sym (table_sdb b)

place_last : (b : BusDescription) → (bus_place b).last ≡ (out-BusDescription b).last
place_last b = ap (λ (p : BusPlace). p.last) (fold_out-BusDescription ItemPlace BusPlace geo.item_layer geo.bus_layer b)

-- ---- an item, of what is seen of it

-- what a fold shows of the item and of the bus behind it
shown : {A B X : Type 0} (f : ItemDescription → A) (g : BusDescription → B) (item : ItemDescription) (v : OnBus BusDescription) → v ≡ on_bus (out-ItemDescription item)
    → (F : OnBus B → X) → F (on_bus (map-ItemDescription ItemDescription BusDescription A B f g (out-ItemDescription item))) ≡ F (with_bus g v)
shown f g item v is F = ap F (on_bus-map f g (out-ItemDescription item)) ∙ ap (λ (u : OnBus BusDescription). F (with_bus g u)) (sym is)

bridged_with : {B X : Type 0} (x : X) (f : ℕ → B → X) (g : BusDescription → B) (v : OnBus BusDescription) → bridged x f (with_bus g v) ≡ bridged x (λ at b. f at (g b)) v
bridged_with x f g (OfDevice d) = refl
bridged_with x f g (OfBridge p at b) = refl
bridged_with x f g (OfNote p) = refl
bridged_with x f g OfEmpty = refl

buses_with : (v : OnBus BusDescription) (base : ℕ) → bridged {X = ℕ → List PlacedBus} (λ base. []) (λ at b base. b.all (base + at)) (with_bus bus_buses v) base ≡ buses_behind v base
buses_with (OfDevice d) base = refl
buses_with (OfBridge p at b) base = refl
buses_with (OfNote p) base = refl
buses_with OfEmpty base = refl

tree_with : (v : OnBus BusDescription) (base : ℕ) (path : List ℕ) → bridged {X = ℕ → List ℕ → List Found} (λ base path. []) (λ at b base path. b.tree (base + at) path) (with_bus bus_tree v) base path ≡ tree_behind v base path
tree_with (OfDevice d) base path = refl
tree_with (OfBridge p at b) base path = refl
tree_with (OfNote p) base path = refl
tree_with OfEmpty base path = refl

record_with : (v : OnBus BusDescription) (width : Width) → entry_on (with_bus (λ (b : BusTree). b.tables) (with_bus bus_tree v)) width ≡ record_seen v width
record_with (OfDevice d) width = refl
record_with (OfBridge p at b) width = λ i. bridge p at (tree_last b i) (tree_sdb b i)
record_with (OfNote p) width = refl
record_with OfEmpty width = refl

count_with : (v : OnBus BusDescription) → (totals_on (with_bus bus_totals v)).records ≡ 1 + records_behind v
count_with (OfDevice d) = refl
count_with (OfBridge p at b) = refl
count_with (OfNote p) = refl
count_with OfEmpty = refl

module _ (item : ItemDescription) (v : OnBus BusDescription) (is : v ≡ on_bus (out-ItemDescription item)) where
  pub levels_seen : item_levels item ≡ levels_behind v
  levels_seen =
      fold_out-ItemDescription ℕ ℕ item_levels_layer bus_levels_layer item
      ∙ shown item_levels bus_levels item v is (λ (u : OnBus ℕ). bridged 0 (λ at bus. bus) u) ∙ bridged_with 0 (λ at n. n) bus_levels v

  pub count_seen : (item_totals item).records ≡ 1 + records_behind v
  count_seen =
      ap (λ (t : Totals). t.records) (fold_out-ItemDescription Totals Totals totals.item_layer totals.bus_layer item)
      ∙ shown item_totals bus_totals item v is (λ (u : OnBus Totals). (totals_on u).records) ∙ count_with v

  pub parts_seen : (width : Width) → (item_parts item).parts width ≡ parts_on (with_bus bus_parts v) width
  parts_seen width =
      ap (λ (p : ItemParts). p.parts width) (fold_out-ItemDescription ItemParts BusParts item_parts_layer bus_parts_layer item)
      ∙ shown item_parts bus_parts item v is (λ (u : OnBus BusParts). parts_on u width)

  pub buses_seen : (base : ℕ) → (item_buses item).behind base ≡ buses_behind v base
  buses_seen base =
      ap (λ (b : ItemBuses). b.behind base) (fold_out-ItemDescription ItemBuses BusBuses buses.placed_item_layer buses.placed_bus_layer item)
      ∙ shown item_buses bus_buses item v is (λ (u : OnBus BusBuses). bridged {X = ℕ → List PlacedBus} (λ base. []) (λ at b base. b.all (base + at)) u base) ∙ buses_with v base

  pub entry_seen : (width : Width) → (item_tables item).entry width ≡ record_seen v width
  entry_seen width =
      ap (λ (t : ItemTables). t.entry width) (fold_out-ItemDescription ItemTables BusTables tables.placed_item_layer tables.placed_bus_layer item)
      ∙ shown item_tables bus_tables item v is (λ (u : OnBus BusTables). entry_on u width)

  pub tree_entry : (width : Width) → (item_tree item).tables.entry width ≡ record_seen v width
  tree_entry width =
      let trees = map-ItemDescription ItemDescription BusDescription ItemTree BusTree item_tree bus_tree (out-ItemDescription item) in
      ap (λ (t : ItemTree). t.tables.entry width) (fold_out-ItemDescription ItemTree BusTree item_tree_layer bus_tree_layer item)
      ∙ ap (λ (u : OnBus BusTables). entry_on u width) (on_bus-map (λ (i : ItemTree). i.tables) (λ (b : BusTree). b.tables) trees)
      ∙ shown item_tree bus_tree item v is (λ (u : OnBus BusTree). entry_on (with_bus (λ (b : BusTree). b.tables) u) width) ∙ record_with v width

  pub tree_seen : (base : ℕ) (path : List ℕ) → (item_tree item).behind base path ≡ tree_behind v base path
  tree_seen base path =
      ap (λ (t : ItemTree). t.behind base path) (fold_out-ItemDescription ItemTree BusTree item_tree_layer bus_tree_layer item)
      ∙ shown item_tree bus_tree item v is (λ (u : OnBus BusTree). bridged {X = ℕ → List ℕ → List Found} (λ base path. []) (λ at b base path. b.tree (base + at) path) u base path) ∙ tree_with v base path

-- ---- the rules that a sound item keeps, by its view

pub record IsSoundDevice (last : ℕ) (d : Device) : Type 0 where
  pub product : is_product d.product ≡ true
  pub some : 1 ≤ octets_in d.make
  pub inside : d.at + octets_in d.make ≤ last + 1
  pub class : d.interface.class < 2 ^ 16
  pub major : d.interface.major < 2 ^ 8
  pub minor : d.interface.minor < 2 ^ 8

pub record IsSoundBridgeTo (last : ℕ) (p : Product) (at : ℕ) (b : BusDescription) : Type 0 where
  pub product : is_product p ≡ true
  pub aligned : at % 4 ≡ 0
  pub inside : at + (out-BusDescription b).last ≤ last
  pub inner : IsSoundBus b

interface_ranges : (i : Interface) → is_interface i ≡ true → (i.class < 2 ^ 16) × (i.major < 2 ^ 8) × (i.minor < 2 ^ 8)
interface_ranges i h =
    let a = and_parts (is_in wait_clocks i.wait && is_in u16 i.class && is_in u8 i.major) (is_in u8 i.minor) h in
    let b = and_parts (is_in wait_clocks i.wait && is_in u16 i.class) (is_in u8 i.major) a.0 in
    let c = and_parts (is_in wait_clocks i.wait) (is_in u16 i.class) b.0 in
    (omega (arith, (in_range u16 i.class c.1).1), omega (arith, (in_range u8 i.major b.1).1), omega (arith, (in_range u8 i.minor a.1).1))

module _ (last : ℕ) (item : ItemDescription) (sound : IsSoundItem last item) where
  pub sound_device : (d : Device) → OfDevice d ≡ on_bus (out-ItemDescription item) → IsSoundDevice last d
  sound_device d is =
      let fields : (is_product d.product && is_in (address 4) d.at && is_make d.make && is_interface d.interface) ≡ true = sym (fields_seen item (OfDevice d) is is_32) ∙ sound.fields in
      let kept = device_kept d.product d.at d.make d.interface fields in
      let i = interface_ranges d.interface (and_parts (is_product d.product && is_in (address 4) d.at && is_make d.make) (is_interface d.interface) fields).1 in
      let some = make_some d.make kept.made in
      let within = subst (λ (p : ItemPlace). are_within last (extent_at p.extent) ≡ true) (place_seen item (OfDevice d) is) sound.within in
      let test = (and_parts (nat_le (d.at + octets_in d.make - 1) last) true within).0 in
      let le : d.at + octets_in d.make - 1 ≤ last = grind (arith, nat_tests, test) in
      record { product = kept.product; some = some; inside = omega (arith, le, some); class = i.0; major = i.1; minor = i.2 }

  pub sound_bridge : (p : Product) (at : ℕ) (b : BusDescription) → OfBridge p at b ≡ on_bus (out-ItemDescription item) → IsSoundBridgeTo last p at b
  sound_bridge p at b is =
      let fields : (is_product p && is_in (address 4) at && bus_fields is_32 b) ≡ true = sym (fields_seen item (OfBridge p at b) is is_32) ∙ sound.fields in
      let own = and_parts (is_product p && is_in (address 4) at) (bus_fields is_32 b) fields in
      let both = and_parts (is_product p) (is_in (address 4) at) own.0 in
      let place = place_seen item (OfBridge p at b) is in
      let placed : (bus_place b).placed ≡ true = sym (ap (λ (q : ItemPlace). q.placed) place) ∙ sound.behind in
      let within = subst (λ (q : ItemPlace). are_within last (extent_at q.extent) ≡ true) place sound.within in
      let test = (and_parts (nat_le (at + (bus_place b).last) last) true within).0 in
      let le : at + (bus_place b).last ≤ last = grind (arith, nat_tests, test) in
      record {
        product = both.0;
        aligned = (in_range (address 4) at both.1).2;
        inside = omega (arith, le, place_last b);
        inner = record { fields = own.1; places = placed };
      }

  pub sound_note : (p : Product) → OfNote p ≡ on_bus (out-ItemDescription item) → is_product p ≡ true
  sound_note p is = sym (fields_seen item (OfNote p) is is_32) ∙ sound.fields
