-- A walk over a memory that has the tables of a sound bus and of all buses behind it finds its tree.
use Rattle.std.proofs.Common.{◌≡◌, ℕ, zero, suc, ◌+◌, ◌-◌, ◌*◌, ◌≤◌, ◌==◌, false, nat_lt, List, [], ◌∷◌, ◌++◌, length, map, refl, sym, ap, ◌∙◌, subst, arith, append_assoc, append-nil, length-append, All}
use Rattle.std.proofs.lemmas.List.{length-map}
use Rattle.std.proofs.lemmas.List.Elements.{All-nil, All-cons, All-head, All-tail, All-append}
use Rattle.std.proofs.lemmas.Bool.{or_from}
use Rattle.std.proofs.lemmas.Bool.Decides.{nat_tests}
use Rattle.eb_base.specs.declared.width.Width.{Width}
use Rattle.eb_base.specs.declared.width.Width.TheVariants.{W32}
use Rattle.soc_desc.specs.declared.totals.Totals.{Totals}
use Rattle.soc_desc.specs.declared.description.BusDescription.{BusDescription}
use Rattle.soc_desc.specs.declared.description.ItemDescription.{ItemDescription}
use Rattle.soc_desc.specs.declared.description.ItemDescription.TheOpen.{BusDescription-F}
use Rattle.soc_desc.specs.declared.description.ItemDescription.TheViews.{out-ItemDescription, out-BusDescription}
use Rattle.soc_desc.specs.declared.description.ItemDescription.TheFolds.{fold_out-BusDescription}
use Rattle.soc_desc.specs.Accepted.{IsSoundBus, item_levels, bus_levels, greatest}
use Rattle.soc_desc.specs.Sound.{IsSoundItem}
use Rattle.soc_desc.specs.Totals as totals
use Rattle.soc_desc.specs.Totals.{item_totals, bus_totals, sum_of}
use Rattle.soc_desc.specs.View.{octets_in, OnBus, OfDevice, OfBridge, OfNote, OfEmpty, on_bus}
use Rattle.soc_desc.proofs.Sound.{items_of_sound, top_of_sound, width_of_sound}
use Rattle.sdb_record.specs.declared.kinds.Record.{Record}
use Rattle.sdb_record.specs.declared.kinds.Record.TheVariants as sdb
use Rattle.sdb_record.specs.Layout.{wishbone}
use Rattle.sdb_record.specs.Relation.{encoded}
use Rattle.sdb_build.specs.Tables.{item_tables, bus_tables, device_entry, interconnect, entries, image_of, spelled}
use Rattle.sdb_build.specs.Buses as buses
use Rattle.sdb_build.specs.Buses.{PlacedBus, ItemBuses, BusBuses, item_buses, bus_buses, behind_items, same_bus}
use Rattle.sdb_build.specs.Laws.{table_address}
use Rattle.sdb_build.proofs.BusLemmas.{listed_as_itself}
use Rattle.sdb_build.proofs.TableLemmas.{records_are}
use Rattle.sdb_walk.specs.declared.found.Found.{Found}
use Rattle.sdb_walk.specs.declared.visit.Visit.{Visit}
use Rattle.sdb_walk.specs.Walk.{max_address, first_of as first_record, others, are_too_many, leaves_range, counted, found_at, goes_on}
use Rattle.sdb_walk.proofs.Goes.{Goes, goes_trans, goes_same, HasOctets, goes_through, has_both}
use Rattle.sdb_walk.proofs.Octets.{Octet, encoded_all}
use Rattle.soc_discovery.specs.Tree.{ItemTree, BusTree, item_tree, bus_tree, item_tree_layer, bus_tree_layer, items_from}
use Rattle.soc_discovery.proofs.Seen.{records_behind, buses_behind, tree_behind, record_seen, table_last, table_sdb, levels_seen, count_seen, buses_seen, entry_seen, tree_entry, tree_seen, sound_device, sound_bridge}
use Rattle.soc_discovery.proofs.Records.{good_seen, good_record, good_first}
use Rattle.soc_discovery.proofs.Roms.{all_first, all_second, levels_are}

-- ---- how many records stand behind items

abbrev view_of : ItemDescription → OnBus BusDescription
view_of item = on_bus (out-ItemDescription item)

abbrev behind_count : List ItemDescription → ℕ
behind_count [] = 0
behind_count (item ∷ items) = records_behind (view_of item) + behind_count items

count_items : (items : List ItemDescription) → (sum_of (map item_totals items)).records ≡ length items + behind_count items
count_items [] = refl
count_items (item ∷ items) = omega (arith, count_seen item (view_of item) refl, count_items items)

count_bus : (b : BusDescription) → let l = out-BusDescription b in (bus_totals b).records ≡ length l.items + 1 + behind_count l.items
count_bus b =
    let l = out-BusDescription b in
    let e : (bus_totals b).records ≡ 1 + (sum_of (map item_totals l.items)).records = ap (λ (t : Totals). t.records) (fold_out-BusDescription Totals Totals totals.item_layer totals.bus_layer b) in
    omega (arith, e, count_items l.items)

-- the buses of a bus, itself first
pub in_order : (b : BusDescription) (base : ℕ) → (bus_buses b).all base ≡ record { base = base; bus = b } ∷ behind_items base (map item_buses (out-BusDescription b).items)
in_order b base =
    let l = out-BusDescription b in
    let seen : BusDescription-F ItemBuses BusBuses = record { product = l.product; width = l.width; last = l.last; sdb = l.sdb; items = map item_buses l.items } in
    let e : bus_buses b ≡ buses.placed_bus_layer seen = fold_out-BusDescription ItemBuses BusBuses buses.placed_item_layer buses.placed_bus_layer b in
    let same : same_bus seen ≡ b = sym (ap (λ (x : BusBuses). x.bus) e) ∙ listed_as_itself b in
    ap (λ (x : BusBuses). x.all base) e ∙ ap (λ (x : BusDescription). let here : PlacedBus = record { base = base; bus = x } in here ∷ behind_items base (map item_buses l.items)) same

-- the octets of its table
image_is : (b : BusDescription) → IsSoundBus b → let l = out-BusDescription b in image_of b ≡ encoded wishbone (interconnect l.product l.last (length l.items)) ++ spelled (entries W32 (map item_tables l.items))
image_is b sound =
    let l = out-BusDescription b in
    let r : Record = interconnect l.product l.last (length l.items) in
    ap spelled (records_are b) ∙ ap (λ (w : Width). encoded wishbone r ++ spelled (entries w (map item_tables l.items))) (width_of_sound b sound)

-- ---- the walk

module _ (C : Type 0) (Has : ℕ → ℕ → Type 0) where
  abbrev pub HasTable : PlacedBus → Type 0
  HasTable b = HasOctets C Has (table_address b) (image_of b.bus)

  -- A walk at the first record of the table goes on behind it with the tree of the bus.
  abbrev pub Walks : BusDescription → Type 0
  Walks b = (base : ℕ) (path : List ℕ) (first last : ℕ) (visits : List Visit) (begun : ℕ) (found : List Found)
      → IsSoundBus b → All HasTable ((bus_buses b).all base)
      → first ≤ base → base + (out-BusDescription b).last ≤ last → last ≤ max_address
      → length path + bus_levels b ≤ 8 → begun + (bus_totals b).records ≤ 4096
      → Goes C Has (goes_on (first_record (base + (out-BusDescription b).sdb) base path first last ∷ visits) begun found)
      (goes_on visits (begun + (bus_totals b).records) (found ++ (bus_tree b).tree base path))

  -- ---- the items of a bus with this base, whose table stands at an address

  module _ (n base at last : ℕ) (path : List ℕ) (ih : (b : BusDescription) → bus_levels b ≤ n → Walks b) (high : base + last ≤ max_address) where
    abbrev visit_at : ℕ → Visit
    visit_at index = record { at = at + 64 * index; base = base; bridge = path; index = index; first = base + 0; last = base + last }

    module _ (index : ℕ) (later : 1 ≤ index) (ends : at + 64 * index + 63 ≤ max_address) (visits : List Visit) (begun : ℕ) (few : begun ≤ 4096) (found : List Found) where
      none_first : (index == 0) ≡ false
      none_first = grind (arith, nat_tests)

      no_more : (r : Record) → counted r ≡ 0 → are_too_many begun r ≡ false
      no_more r none = let e : begun + counted r ≤ 4096 = omega (arith, none) in grind (arith, nat_tests)

      in_range : (first end : ℕ) → end ≤ last → leaves_range (visit_at index) first end ≡ false
      in_range first end le =
          let low : nat_lt (base + first) (base + 0) ≡ false = grind (arith, nat_tests) in
          let high : nat_lt (base + last) (base + end) ≡ false = grind (arith, nat_tests) in
          or_from _ _ low high

      -- the bus behind a bridge, whose record was read
      inner_walks : (p_record : Record) (a : ℕ) (b : BusDescription) → bus_levels b ≤ n → IsSoundBus b → a + (out-BusDescription b).last ≤ last
          → length path + 1 + bus_levels b ≤ 8 → begun + (bus_totals b).records ≤ 4096 → All HasTable ((bus_buses b).all (base + a))
          → let here : List ℕ = path ++ index ∷ [] in
          Goes C Has (goes_on (first_record (base + (a + (bus_tables b).sdb)) (base + a) here (base + a) (base + (a + (bus_tables b).last)) ∷ visits) (begun + 0) (found ++ found_at base here p_record ∷ []))
          (goes_on visits (begun + (bus_totals b).records) (found ++ (found_at base here p_record ∷ (bus_tree b).tree (base + a) here)))
      inner_walks r a b deep sound inside levels count tables =
          let l = out-BusDescription b in
          let here : List ℕ = path ++ index ∷ [] in
          let length_here : length here ≡ length path + 1 = omega (arith, length-append path (index ∷ [])) in
          let end : ℕ = a + (bus_tables b).last in
          let more : List Found = found ++ found_at base here r ∷ [] in
          let e_last = table_last b in
          let e_sdb = table_sdb b in
          let walk = ih b deep (base + a) here (base + a) (base + end) visits (begun + 0) more sound tables
          (omega arith) (omega (arith, e_last)) (omega (arith, e_last, inside)) (omega (arith, levels, length_here)) (omega (arith, count)) in
          let address : base + (a + (bus_tables b).sdb) ≡ base + a + l.sdb = omega (arith, e_sdb) in
          let joined : goes_on {C = C} (first_record (base + (a + (bus_tables b).sdb)) (base + a) here (base + a) (base + end) ∷ visits) (begun + 0) more ≡ goes_on (first_record (base + a + l.sdb) (base + a) here (base + a) (base + end) ∷ visits) (begun + 0) more =
          ap (λ (x : ℕ). goes_on (first_record x (base + a) here (base + a) (base + end) ∷ visits) (begun + 0) more) address in
          let total : begun + 0 + (bus_totals b).records ≡ begun + (bus_totals b).records = omega arith in
          let all : more ++ (bus_tree b).tree (base + a) here ≡ found ++ (found_at base here r ∷ (bus_tree b).tree (base + a) here) = append_assoc found (found_at base here r ∷ []) ((bus_tree b).tree (base + a) here) in
          goes_trans C Has _ _ _ (goes_same C Has _ _ joined) (goes_trans C Has _ _ _ walk (goes_same C Has _ _ (λ i. goes_on visits (total i) (all i))))

    -- an item, by its view
    item_walks : (item : ItemDescription) (v : OnBus BusDescription) → v ≡ on_bus (out-ItemDescription item)
        → (index : ℕ) (visits : List Visit) (begun : ℕ) (found : List Found)
        → IsSoundItem last item → item_levels item ≤ n → 1 ≤ index → at + 64 * index + 63 ≤ max_address
        → length path + 1 + item_levels item ≤ 8 → begun + records_behind v ≤ 4096
        → HasOctets C Has (at + 64 * index) (encoded wishbone (record_seen v W32)) → All HasTable (buses_behind v base)
        → Goes C Has (goes_on (visit_at index ∷ visits) begun found)
        (goes_on visits (begun + records_behind v) (found ++ (found_at base (path ++ index ∷ []) (record_seen v W32) ∷ tree_behind v base (path ++ index ∷ []))))
    item_walks item (OfDevice d) is index visits begun found sound deep later ends levels few has behind =
        let s = sound_device last item sound d is in
        let inside = s.inside in
        let some = s.some in
        let good = good_seen last item (OfDevice d) is sound in
        let all : begun + 0 ≤ 4096 = few in
        let le : begun ≤ 4096 = omega (arith, all) in
        goes_through C Has (visit_at index) visits begun found (device_entry d W32) good.valid good.fit good.whole has
        (record {
          ends = ends;
          placed = none_first index later ends visits begun le found;
          few = no_more index later ends visits begun le found (device_entry d W32) refl;
          inside = in_range index later ends visits begun le found d.at (d.at + octets_in d.make - 1) (omega (arith, inside, some));
          shallow = refl;
        })
    item_walks item (OfBridge p a b) is index visits begun found sound deep later ends levels few has behind =
        let s = sound_bridge last item sound p a b is in
        let rom = (top_of_sound b s.inner).rom.within in
        let inside = s.inside in
        let own_levels : item_levels item ≡ bus_levels b = levels_seen item (OfBridge p a b) is in
        let some = levels_are b in
        let e_last = table_last b in
        let e_sdb = table_sdb b in
        let child : ℕ = a + (bus_tables b).sdb in
        let end : ℕ = a + (bus_tables b).last in
        let r : Record = sdb.Bridge child a end p in
        let good = good_seen last item (OfBridge p a b) is sound in
        let all : begun + (bus_totals b).records ≤ 4096 = few in
        let le : begun ≤ 4096 = omega (arith, all) in
        let low : nat_lt child a ≡ false = grind (arith, nat_tests) in
        let child_le : child ≤ end = omega (arith, e_last, e_sdb, rom) in
        let inner : nat_lt end child ≡ false = grind (arith, nat_tests) in
        let level : (length path + 1 == 8) ≡ false = let small : length path + 1 ≤ 7 = omega (arith, levels, own_levels, some) in grind (arith, nat_tests) in
        let one = goes_through C Has (visit_at index) visits begun found r good.valid good.fit good.whole has (record {
          ends = ends;
          placed = none_first index later ends visits begun le found;
          few = no_more index later ends visits begun le found r refl;
          inside = or_from _ _ (in_range index later ends visits begun le found a end (omega (arith, e_last, inside))) (or_from _ _ low inner);
          shallow = level;
        }) in
        goes_trans C Has _ _ _ one (inner_walks index later ends visits begun le found r a b (omega (arith, deep, own_levels)) s.inner inside (omega (arith, levels, own_levels)) few behind)
    item_walks item (OfNote p) is index visits begun found sound deep later ends levels few has behind =
        let good = good_seen last item (OfNote p) is sound in
        let all : begun + 0 ≤ 4096 = few in
        let le : begun ≤ 4096 = omega (arith, all) in
        goes_through C Has (visit_at index) visits begun found (sdb.Integration p) good.valid good.fit good.whole has
        (record { ends = ends; placed = none_first index later ends visits begun le found; few = no_more index later ends visits begun le found (sdb.Integration p) refl; inside = refl; shallow = refl })
    item_walks item OfEmpty is index visits begun found sound deep later ends levels few has behind =
        let good = good_seen last item OfEmpty is sound in
        let all : begun + 0 ≤ 4096 = few in
        let le : begun ≤ 4096 = omega (arith, all) in
        goes_through C Has (visit_at index) visits begun found sdb.Empty good.valid good.fit good.whole has
        (record { ends = ends; placed = none_first index later ends visits begun le found; few = no_more index later ends visits begun le found sdb.Empty refl; inside = refl; shallow = refl })

    -- the items from an index in the table on
    items_walk : (items : List ItemDescription) (index : ℕ) (first end : ℕ) (visits : List Visit) (begun : ℕ) (found : List Found)
        → All (IsSoundItem last) items → greatest (map item_levels items) ≤ n → 1 ≤ index → at + 64 * (index + length items) ≤ max_address + 1
        → length path + 1 + greatest (map item_levels items) ≤ 8 → begun + behind_count items ≤ 4096
        → HasOctets C Has (at + 64 * index) (spelled (entries W32 (map item_tables items))) → All HasTable (behind_items base (map item_buses items))
        → Goes C Has (goes_on (others (first_record at base path first end) (length items) index (base + 0) (base + last) ++ visits) begun found)
        (goes_on visits (begun + behind_count items) (found ++ items_from W32 base path index (map item_tree items)))
    items_walk [] index first end visits begun found sound deep later ends levels few has behind =
        let count : begun ≡ begun + 0 = omega arith in
        goes_same C Has _ _ (λ i. goes_on visits (count i) (sym (append-nil found) i))
    items_walk (item ∷ items) index first end visits begun found sound deep later ends levels few has behind =
        let v : OnBus BusDescription = view_of item in
        let here : List ℕ = path ++ index ∷ [] in
        let entry = entry_seen item v refl W32 in
        let own_sound : IsSoundItem last item = All-head (IsSoundItem last) item items sound in
        let good = good_seen last item v refl own_sound in
        let octets : List ℕ = spelled (entries W32 (map item_tables items)) in
        let split = has_both C Has (at + 64 * index) (encoded wishbone (record_seen v W32)) octets good.whole
        (subst (λ (r : Record). HasOctets C Has (at + 64 * index) (encoded wishbone r ++ octets)) entry has) in
        let own_behind : All HasTable (buses_behind v base) =
        subst (λ (bs : List PlacedBus). All HasTable bs) (buses_seen item v refl base) (all_first HasTable ((item_buses item).behind base) (behind_items base (map item_buses items)) behind) in
        let rest : List Visit = others (first_record at base path first end) (length items) (index + 1) (base + 0) (base + last) ++ visits in
        let more : List Found = found_at base here (record_seen v W32) ∷ tree_behind v base here in
        let one = item_walks item v refl index rest begun found own_sound (omega (arith, deep)) later (omega (arith, ends)) (omega (arith, levels)) (omega (arith, few)) split.0 own_behind in
        let address : at + 64 * index + 64 ≡ at + 64 * (index + 1) = omega arith in
        let two = items_walk items (index + 1) first end visits (begun + records_behind v) (found ++ more)
        (All-tail (IsSoundItem last) item items sound) (omega (arith, deep)) (omega arith) (omega (arith, ends)) (omega (arith, levels)) (omega (arith, few))
        (subst (λ (x : ℕ). HasOctets C Has x octets) address split.1) (all_second HasTable ((item_buses item).behind base) (behind_items base (map item_buses items)) behind) in
        let count : begun + records_behind v + behind_count items ≡ begun + (records_behind v + behind_count items) = omega arith in
        let others_found : List Found = items_from W32 base path (index + 1) (map item_tree items) in
        let all : (found ++ more) ++ others_found ≡ found ++ (found_at base here ((item_tree item).tables.entry W32) ∷ (item_tree item).behind base here ++ others_found) =
        append_assoc found more others_found ∙ (λ i. found ++ (found_at base here (sym (tree_entry item v refl W32) i) ∷ sym (tree_seen item v refl base here) i ++ others_found)) in
        goes_trans C Has _ _ _ one (goes_trans C Has _ _ _ two (goes_same C Has _ _ (λ i. goes_on visits (count i) (all i))))

  -- ---- a bus

  bus_walks : (n : ℕ) (b : BusDescription) → bus_levels b ≤ suc n → ((c : BusDescription) → bus_levels c ≤ n → Walks c) → Walks b
  bus_walks n b deep ih base path first last visits begun found sound has low high below levels few =
      let l = out-BusDescription b in
      let rom = (top_of_sound b sound).rom.within in
      let own_levels = levels_are b in
      let at : ℕ = base + l.sdb in
      let count = count_bus b in
      let own : PlacedBus = record { base = base; bus = b } in
      let tables_all : All HasTable (own ∷ behind_items base (map item_buses l.items)) = subst (All HasTable) (in_order b base) has in
      let table : HasOctets C Has at (image_of b) = All-head HasTable own (behind_items base (map item_buses l.items)) tables_all in
      let r : Record = interconnect l.product l.last (length l.items) in
      let octets : List ℕ = spelled (entries W32 (map item_tables l.items)) in
      let good = good_first b sound in
      let split = has_both C Has at (encoded wishbone r) octets good.whole (subst (λ (o : List ℕ). HasOctets C Has at o) (image_is b sound) table) in
      let visit : Visit = first_record at base path first last in
      let above : nat_lt (base + 0) first ≡ false = grind (arith, nat_tests) in
      let within : nat_lt last (base + l.last) ≡ false = grind (arith, nat_tests) in
      let ends_at : at + 64 * (length l.items + 1) - 1 ≤ max_address = omega (arith, rom) in
      let ends : nat_lt max_address (at + 64 * (length l.items + 1) - 1) ≡ false = grind (arith, nat_tests) in
      let total : begun + (length l.items + 1) ≤ 4096 = omega (arith, count, few) in
      let few_enough : nat_lt 4096 (begun + (length l.items + 1)) ≡ false = grind (arith, nat_tests) in
      let one = goes_through C Has visit visits begun found r good.valid good.fit good.whole split.0
      (record { ends = omega (arith, rom); placed = refl; few = few_enough; inside = or_from _ _ (or_from _ _ above within) ends; shallow = refl }) in
      let number : length l.items + 1 - 1 ≡ length l.items = omega arith in
      let here : Found = found_at base (path ++ 0 ∷ []) r in
      let begun_now : ℕ = begun + (length l.items + 1) in
      let joined : goes_on {C = C} (others visit (length l.items + 1 - 1) 1 (base + 0) (base + l.last) ++ visits) begun_now (found ++ here ∷ []) ≡ goes_on (others visit (length l.items) 1 (base + 0) (base + l.last) ++ visits) begun_now (found ++ here ∷ []) =
      ap (λ (k : ℕ). goes_on (others visit k 1 (base + 0) (base + l.last) ++ visits) begun_now (found ++ here ∷ [])) number in
      let two = items_walk n base at l.last path ih (omega (arith, high, below)) l.items 1 first last visits begun_now (found ++ here ∷ [])
      (items_of_sound b sound) (omega (arith, deep, own_levels)) (omega arith) (omega (arith, rom)) (omega (arith, levels, own_levels)) (omega (arith, few, count))
      (let one_on : at + 64 ≡ at + 64 * 1 = omega arith in subst (λ (x : ℕ). HasOctets C Has x octets) one_on split.1)
      (All-tail HasTable own (behind_items base (map item_buses l.items)) tables_all) in
      let total_is : begun_now + behind_count l.items ≡ begun + (bus_totals b).records = omega (arith, count) in
      let tree_is : (bus_tree b).tree base path ≡ here ∷ items_from W32 base path 1 (map item_tree l.items) =
      ap (λ (t : BusTree). t.tree base path) (fold_out-BusDescription ItemTree BusTree item_tree_layer bus_tree_layer b)
      ∙ (let items_number : length (map item_tree l.items) ≡ length l.items = length-map l.items item_tree in
      let width = width_of_sound b sound in
      λ i. found_at base (path ++ 0 ∷ []) (interconnect l.product l.last (items_number i)) ∷ items_from (width i) base path 1 (map item_tree l.items)) in
      let all : (found ++ here ∷ []) ++ items_from W32 base path 1 (map item_tree l.items) ≡ found ++ (bus_tree b).tree base path =
      append_assoc found (here ∷ []) (items_from W32 base path 1 (map item_tree l.items)) ∙ ap (λ (fs : List Found). found ++ fs) (sym tree_is) in
      goes_trans C Has _ _ _ one (goes_trans C Has _ _ _ (goes_same C Has _ _ joined) (goes_trans C Has _ _ _ two (goes_same C Has _ _ (λ i. goes_on visits (total_is i) (all i)))))

  walks_upto : (n : ℕ) (b : BusDescription) → bus_levels b ≤ n → Walks b
  walks_upto zero b le = absurd (omega (arith, le, levels_are b))
  walks_upto (suc n) b le = bus_walks n b le (λ c below. walks_upto n c below)

  pub every_walks : (b : BusDescription) → Walks b
  every_walks b = walks_upto (bus_levels b) b (omega arith)

-- ---- the octets of the tables

octets_all : (b : BusDescription) → IsSoundBus b → All Octet (image_of b)
octets_all b sound =
    let l = out-BusDescription b in
    let r : Record = interconnect l.product l.last (length l.items) in
    subst (All Octet) (sym (image_is b sound)) (All-append Octet (encoded wishbone r) (spelled (entries W32 (map item_tables l.items))) (encoded_all r (good_first b sound).fit) (of_items l.last l.items (items_of_sound b sound)))
  where
    of_items : (last : ℕ) (items : List ItemDescription) → All (IsSoundItem last) items → All Octet (spelled (entries W32 (map item_tables items)))
    of_items last [] sound = All-nil Octet
    of_items last (item ∷ items) sound =
        let r : Record = (item_tables item).entry W32 in
        All-append Octet (encoded wishbone r) (spelled (entries W32 (map item_tables items))) (encoded_all r (good_record last item (All-head (IsSoundItem last) item items sound)).fit) (of_items last items (All-tail (IsSoundItem last) item items sound))

abbrev HasBytes : PlacedBus → Type 0
HasBytes b = All Octet (image_of b.bus)

abbrev IsOfBytes : BusDescription → Type 0
IsOfBytes b = IsSoundBus b → (base : ℕ) → All HasBytes ((bus_buses b).all base)

bytes_seen : (n last : ℕ) (item : ItemDescription) (v : OnBus BusDescription) → v ≡ on_bus (out-ItemDescription item) → ((b : BusDescription) → bus_levels b ≤ n → IsOfBytes b) → item_levels item ≤ n
    → IsSoundItem last item → (base : ℕ) → All HasBytes (buses_behind v base)
bytes_seen n last item (OfDevice d) is ih le sound base = All-nil HasBytes
bytes_seen n last item (OfBridge p at b) is ih le sound base =
    let deep : item_levels item ≡ bus_levels b = levels_seen item (OfBridge p at b) is in
    ih b (omega (arith, deep, le)) (sound_bridge last item sound p at b is).inner (base + at)
bytes_seen n last item (OfNote p) is ih le sound base = All-nil HasBytes
bytes_seen n last item OfEmpty is ih le sound base = All-nil HasBytes

bytes_items : (n last : ℕ) (items : List ItemDescription) → ((b : BusDescription) → bus_levels b ≤ n → IsOfBytes b) → greatest (map item_levels items) ≤ n → All (IsSoundItem last) items
    → (base : ℕ) → All HasBytes (behind_items base (map item_buses items))
bytes_items n last [] ih le sound base = All-nil HasBytes
bytes_items n last (item ∷ items) ih le sound base =
    let own : IsSoundItem last item = All-head (IsSoundItem last) item items sound in
    let first : All HasBytes ((item_buses item).behind base) = subst (λ (bs : List PlacedBus). All HasBytes bs) (sym (buses_seen item (view_of item) refl base)) (bytes_seen n last item (view_of item) refl ih (omega (arith, le)) own base) in
    All-append HasBytes ((item_buses item).behind base) (behind_items base (map item_buses items)) first (bytes_items n last items ih (omega (arith, le)) (All-tail (IsSoundItem last) item items sound) base)

bytes_upto : (n : ℕ) (b : BusDescription) → bus_levels b ≤ n → IsOfBytes b
bytes_upto zero b le sound base = absurd (omega (arith, le, levels_are b))
bytes_upto (suc n) b le sound base =
    let l = out-BusDescription b in
    let behind = bytes_items n l.last l.items (λ c below. bytes_upto n c below) (omega (arith, le, levels_are b)) (items_of_sound b sound) base in
    subst (All HasBytes) (sym (in_order b base)) (All-cons HasBytes (record { base = base; bus = b }) (behind_items base (map item_buses l.items)) (octets_all b sound) behind)

pub every_bytes : (b : BusDescription) → IsOfBytes b
every_bytes b = bytes_upto (bus_levels b) b (omega arith)
