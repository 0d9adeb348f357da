-- The images of a description and its buses, bus by bus.
use Rattle.std.proofs.Common.{◌≡◌, ℕ, ◌+◌, List, [], ◌∷◌, ◌++◌, map, Bool, true, ◌&&◌, refl, sym, ap, ◌∙◌, subst, rules}
use Rattle.std.proofs.lemmas.Bool.{and_parts}
use Rattle.std.proofs.lemmas.List.{map-append}
use Rattle.std.proofs.lemmas.List.Elements.{All-nil, All-cons, All-append}
use Rattle.std.specs.List.{All}
use Rattle.eb_base.specs.declared.width.Width.{Width}
use Rattle.eb_base.specs.declared.name.Product.{Product}
use Rattle.soc_desc.specs.declared.description.Description.{Description}
use Rattle.soc_desc.specs.declared.description.BusDescription.{BusDescription}
use Rattle.soc_desc.proofs.Wider.{sound_wider}
use Rattle.soc_desc.specs.declared.description.ItemDescription.{ItemDescription, map-ItemDescription, the_lemmas}
use Rattle.soc_desc.specs.declared.description.ItemDescription.TheOpen.{ItemDescription-F, BusDescription-F, Ram, Regs, Fifo, Bridge, Integration, Empty}
use Rattle.soc_desc.specs.declared.description.ItemDescription.TheViews.{roll-ItemDescription, roll-BusDescription}
use Rattle.soc_desc.specs.declared.description.ItemDescription.TheFolds.{fold-roll-ItemDescription, fold-roll-BusDescription, ind-BusDescription}
use Rattle.soc_desc.specs.Accepted.{all_of, is_product, is_32_or_64, IsAccepted, item_fields, bus_fields, item_fields_layer, bus_fields_layer}
use Rattle.soc_desc.specs.Checks.{is_in}
use Rattle.soc_desc.specs.Shape.{address}
use Rattle.sdb_build.specs.Tables as tables
use Rattle.sdb_build.specs.Tables.{ItemTables, BusTables, item_tables, bus_tables, image_at, images_behind, bus_images}
use Rattle.sdb_build.specs.Buses as buses
use Rattle.sdb_build.specs.Buses.{PlacedBus, buses_of, ItemBuses, BusBuses, item_buses, bus_buses, same_bus, behind_items}
use Rattle.sdb_build.specs.Laws.{table_image, ListedAsItself, ImagesOfBuses, TablesOfSound}
use Rattle.sdb_build.specs.Whole.{IsTable}
use Rattle.sdb_build.proofs.RecordLemmas.{items_fields, table_of_bus}

-- ---- what is shown of an item and of a bus

abbrev HasTable : PlacedBus → Type 0
HasTable b = IsTable (tables.table_records b.bus)

record IsListedItem (item : ItemDescription) : Type 0 where
  pub same : (item_buses item).item ≡ item
  pub images : (base : ℕ) → (item_tables item).images base ≡ map table_image ((item_buses item).behind base)
  pub tables : item_fields is_32_or_64 item ≡ true → (base : ℕ) → All HasTable ((item_buses item).behind base)

record IsListedBus (b : BusDescription) : Type 0 where
  pub same : (bus_buses b).bus ≡ b
  pub images : (base : ℕ) → bus_images b base ≡ map table_image ((bus_buses b).all base)
  pub tables : bus_fields is_32_or_64 b ≡ true → (base : ℕ) → All HasTable ((bus_buses b).all base)

-- ---- an item, of what its layer shows

listed : (item : ItemDescription) (shown : ItemTables) (seen : ItemBuses) (fields : Bool) → item_tables item ≡ shown → item_buses item ≡ seen → item_fields is_32_or_64 item ≡ fields
    → seen.item ≡ item → ((base : ℕ) → shown.images base ≡ map table_image (seen.behind base)) → (fields ≡ true → (base : ℕ) → All HasTable (seen.behind base)) → IsListedItem item
listed item shown seen fields s b f same images tabled = record {
  same = ap (λ (x : ItemBuses). x.item) b ∙ same;
  images = λ base. ap (λ (x : ItemTables). x.images base) s ∙ images base ∙ ap (λ (x : ItemBuses). map table_image (x.behind base)) (sym b);
  tables = λ h base. subst (λ (x : ItemBuses). All HasTable (x.behind base)) (sym b) (tabled (sym f ∙ h) base);
}

-- an item with no bus behind it
leaf_listed : (y : ItemDescription-F ItemDescription BusDescription)
    → let shown = tables.placed_item_layer (map-ItemDescription ItemDescription BusDescription ItemTables BusTables item_tables bus_tables y) in
    let seen = buses.placed_item_layer (map-ItemDescription ItemDescription BusDescription ItemBuses BusBuses item_buses bus_buses y) in
    seen.item ≡ roll-ItemDescription y → ((base : ℕ) → shown.images base ≡ []) → ((base : ℕ) → seen.behind base ≡ []) → IsListedItem (roll-ItemDescription y)
leaf_listed y same none alone =
    listed (roll-ItemDescription y) _ _ _
    (fold-roll-ItemDescription ItemTables BusTables tables.placed_item_layer tables.placed_bus_layer y)
    (fold-roll-ItemDescription ItemBuses BusBuses buses.placed_item_layer buses.placed_bus_layer y)
    (fold-roll-ItemDescription Bool Bool item_fields_layer (bus_fields_layer is_32_or_64) y)
    same (λ base. none base ∙ sym (ap (λ (bs : List PlacedBus). map table_image bs) (alone base)))
    (λ h base. subst (λ (bs : List PlacedBus). All HasTable bs) (sym (alone base)) (All-nil HasTable))

bridge_listed : (p : Product) (at : ℕ) (b : BusDescription) → IsListedBus b → IsListedItem (roll-ItemDescription (Bridge p at b))
bridge_listed p at b l =
    let y : ItemDescription-F ItemDescription BusDescription = Bridge p at b in
    listed (roll-ItemDescription y) _ _ _
    (fold-roll-ItemDescription ItemTables BusTables tables.placed_item_layer tables.placed_bus_layer y)
    (fold-roll-ItemDescription ItemBuses BusBuses buses.placed_item_layer buses.placed_bus_layer y)
    (fold-roll-ItemDescription Bool Bool item_fields_layer (bus_fields_layer is_32_or_64) y)
    (ap (λ (x : BusDescription). roll-ItemDescription (Bridge p at x)) l.same)
    (λ base. l.images (base + at))
    (λ h base. l.tables (and_parts (is_product p && is_in (address 4) at) (bus_fields is_32_or_64 b) h).1 (base + at))

-- ---- a bus, of what is shown of its items

abbrev ListedItem : Type 0
ListedItem = (item : ItemDescription) × IsListedItem item

abbrev ListedBus : Type 0
ListedBus = (b : BusDescription) × IsListedBus b

abbrev plain : List ListedItem → List ItemDescription
plain es = map (λ e. e.0) es

same_items : (es : List ListedItem) → map (λ (x : ItemBuses). x.item) (map item_buses (plain es)) ≡ plain es
same_items [] = refl
same_items (e ∷ es) = λ i. e.1.same i ∷ same_items es i

images_listed : (base : ℕ) (es : List ListedItem) → images_behind base (map item_tables (plain es)) ≡ map table_image (behind_items base (map item_buses (plain es)))
images_listed base [] = refl
images_listed base (e ∷ es) =
    (λ i. e.1.images base i ++ images_listed base es i)
    ∙ sym (map-append table_image ((item_buses e.0).behind base) (behind_items base (map item_buses (plain es))))

tables_listed : (base : ℕ) (es : List ListedItem) → all_of (map (item_fields is_32_or_64) (plain es)) ≡ true → All HasTable (behind_items base (map item_buses (plain es)))
tables_listed base [] h = All-nil HasTable
tables_listed base (e ∷ es) h =
    let both = and_parts (item_fields is_32_or_64 e.0) (all_of (map (item_fields is_32_or_64) (plain es))) h in
    All-append HasTable ((item_buses e.0).behind base) (behind_items base (map item_buses (plain es))) (e.1.tables both.0 base) (tables_listed base es both.1)

module _ (p : Product) (width : Width) (last sdb : ℕ) (es : List ListedItem) where
  abbrev layer : BusDescription-F ItemDescription BusDescription
  layer = record { product = p; width = width; last = last; sdb = sdb; items = plain es }

  abbrev bus : BusDescription
  bus = roll-BusDescription layer

  abbrev seen : BusDescription-F ItemBuses BusBuses
  seen = record { product = p; width = width; last = last; sdb = sdb; items = map item_buses (plain es) }

  buses_seen : bus_buses bus ≡ buses.placed_bus_layer seen
  buses_seen = fold-roll-BusDescription ItemBuses BusBuses buses.placed_item_layer buses.placed_bus_layer layer

  same_seen : same_bus seen ≡ bus
  same_seen = ap (λ (is : List ItemDescription). roll-BusDescription (record { product = p; width = width; last = last; sdb = sdb; items = is })) (same_items es)

  -- the bus, and those behind its items
  abbrev in_order : ℕ → List PlacedBus
  in_order base = record { base = base; bus = bus } ∷ behind_items base (map item_buses (plain es))

  buses_are : (base : ℕ) → (bus_buses bus).all base ≡ in_order base
  buses_are base =
      ap (λ (x : BusBuses). x.all base) buses_seen
      ∙ ap (λ (x : BusDescription). let here : PlacedBus = record { base = base; bus = x } in here ∷ behind_items base (map item_buses (plain es))) same_seen

  image_is : (base : ℕ) → image_at bus base ≡ table_image (record { base = base; bus = bus })
  image_is base = search (rules, the_lemmas)

  items_are : (base : ℕ) → bus_images bus base ≡ image_at bus base ∷ images_behind base (map item_tables (plain es))
  items_are base = search (rules, the_lemmas)

  bus_listed : IsListedBus bus
  bus_listed = record {
    same = ap (λ (x : BusBuses). x.bus) buses_seen ∙ same_seen;
    images = λ base.
        items_are base ∙ (λ i. image_is base i ∷ images_listed base es i) ∙ sym (ap (λ (bs : List PlacedBus). map table_image bs) (buses_are base));
    tables = λ h base.
        let fields : all_of (map (item_fields is_32_or_64) (plain es)) ≡ true = search (rules, the_lemmas, items_fields is_32_or_64 bus h) in
        subst (λ (bs : List PlacedBus). All HasTable bs) (sym (buses_are base))
        (All-cons HasTable (record { base = base; bus = bus }) (behind_items base (map item_buses (plain es))) (table_of_bus is_32_or_64 bus h) (tables_listed base es fields));
  }

-- ---- every bus

item_step : (y : ItemDescription-F ListedItem ListedBus) → IsListedItem (roll-ItemDescription (map-ItemDescription ListedItem ListedBus ItemDescription BusDescription (λ e. e.0) (λ e. e.0) y))
item_step (Ram p at size port wait class major minor) = leaf_listed (Ram p at size port wait class major minor) refl (λ base. refl) (λ base. refl)
item_step (Regs p at words port wait class major minor) = leaf_listed (Regs p at words port wait class major minor) refl (λ base. refl) (λ base. refl)
item_step (Fifo p at depth port wait class major minor) = leaf_listed (Fifo p at depth port wait class major minor) refl (λ base. refl) (λ base. refl)
item_step (Bridge p at b) = bridge_listed p at b.0 b.1
item_step (Integration p) = leaf_listed (Integration p) refl (λ base. refl) (λ base. refl)
item_step Empty = leaf_listed Empty refl (λ base. refl) (λ base. refl)

every_bus : (b : BusDescription) → IsListedBus b
every_bus = ind-BusDescription IsListedItem IsListedBus
    (λ x y is. subst (λ z. IsListedItem (roll-ItemDescription z)) is (item_step y))
    (λ x y is. subst (λ z. IsListedBus (roll-BusDescription z)) is (bus_listed y.product y.width y.last y.sdb y.items))

pub listed_as_itself : ListedAsItself
listed_as_itself b = (every_bus b).same

pub images_of_buses : ImagesOfBuses
images_of_buses d = (every_bus d.bus).images 0

pub tables_of_sound : TablesOfSound
tables_of_sound d h = (every_bus d.bus).tables h.fields 0

pub tables_of_accepted : (d : Description) → IsAccepted d → All HasTable (buses_of d)
tables_of_accepted d h = tables_of_sound d (sound_wider d.bus h.sound)
