-- Each table of a description stands in a ROM of its machine, and operations at its addresses go there.
use Rattle.std.proofs.Common.{◌≡◌, ℕ, zero, suc, ◌+◌, ◌-◌, ◌%◌, ◌<◌, ◌≤◌, ◌⊎◌, inl, inr, true, false, not, ◌&&◌, nat_le, List, [], ◌∷◌, ◌++◌, length, map, get_or, refl, sym, ap, subst, ◌∙◌, arith, rules, append_assoc, append-nil, All}
use Rattle.std.proofs.lemmas.List.{get_or_append_left, get_or-append-add, get_or_past, map-append, length-map}
use Rattle.std.proofs.lemmas.List.Elements.{All-nil, All-cons, All-head, All-tail, All-append}
use Rattle.std.proofs.lemmas.Bool.{and_parts}
use Rattle.std.proofs.lemmas.Bool.Decides.{nat_tests}
use Rattle.std.specs.List.{list_all}
use Rattle.eb_base.specs.declared.width.Width.TheVariants.{W32}
use Rattle.eb_base.specs.declared.name.Product.{Product}
use Rattle.soc_desc.specs.declared.geometry.Extent.{Extent}
use Rattle.soc_desc.specs.declared.description.BusDescription.{BusDescription}
use Rattle.soc_desc.specs.declared.description.ItemDescription.{ItemDescription, the_lemmas}
use Rattle.soc_desc.specs.declared.description.ItemDescription.TheOpen.{BusDescription-F}
use Rattle.soc_desc.specs.declared.description.ItemDescription.TheViews.{out-ItemDescription, out-BusDescription}
use Rattle.soc_desc.specs.declared.description.ItemDescription.TheFolds.{fold_out-BusDescription}
use Rattle.soc_desc.specs.Geometry.{ItemPlace, item_place, bus_place, place_on, meets, are_apart, are_within, are_placed, all_behind, extents, extent_at, rom_extent}
use Rattle.soc_desc.specs.Accepted.{IsSoundBus, is_32, item_levels, bus_levels, greatest}
use Rattle.soc_desc.specs.Sound.{IsSoundItem}
use Rattle.soc_desc.specs.View.{OnBus, OfDevice, OfBridge, OfNote, OfEmpty, on_bus}
use Rattle.soc_desc.proofs.Seen.{with_bus, place_seen}
use Rattle.soc_desc.proofs.Sound.{items_of_sound, top_of_sound, width_of_sound}
use Rattle.wb_signals.specs.Request.{Request, less}
use Rattle.wb_signals.specs.Content.{Content, Nothing, Rom}
use Rattle.wb_signals.specs.Wiring.{Arrival}
use Rattle.wb_signals.specs.Bus.{route_in, covers, farther, bus}
use Rattle.sdb_build.specs.Tables.{image_of}
use Rattle.sdb_build.specs.Buses as buses
use Rattle.sdb_build.specs.Buses.{PlacedBus, ItemBuses, BusBuses, item_buses, bus_buses, behind_items, same_bus}
use Rattle.sdb_build.specs.Laws.{table_address}
use Rattle.sdb_build.proofs.BusLemmas.{listed_as_itself}
use Rattle.sdb_build.proofs.RecordLemmas.{length-image_of}
use Rattle.soc_machine.specs.Described.{Placement, BusParts, item_parts, bus_parts, child_placed, held_in, parts_in, parts_of, parts_on, bus_again, device_on, rom_at, bridge_at}
use Rattle.soc_machine.proofs.PartLemmas.{extents_of}
use Rattle.soc_machine.proofs.FoldLemmas.{opened, bus_parts-opened}
use Rattle.soc_machine.proofs.DescribedLemmas.{bus_good}
use Rattle.soc_discovery.proofs.Seen.{buses_behind, levels_seen, parts_seen, buses_seen, IsSoundBridgeTo, sound_bridge}

-- ---- a table behind a hierarchy

-- The table of a bus, in a hierarchy whose first address is `base`: a place holds its octets, each operation in it goes there, and
-- it ends at or below an address.
pub record Shows (route : Request → Arrival) (contents : List Content) (base end : ℕ) (b : PlacedBus) : Type 0 where
  pub place : ℕ
  pub held : get_or contents place Nothing ≡ Rom (image_of b.bus)
  pub aligned : table_address b % 4 ≡ 0
  pub above : base ≤ table_address b
  pub within : table_address b + length (image_of b.bus) ≤ end + 1
  pub goes : (r : Request) → table_address b ≤ r.adr → r.adr < table_address b + length (image_of b.bus)
      → route (less base r) ≡ record { place = place; bus = W32; request = less (table_address b) r; upper_half = false }

less_less : (a b : ℕ) (r : Request) → less b (less a r) ≡ less (a + b) r
less_less a b r = let e : r.adr - a - b ≡ r.adr - (a + b) = omega arith in λ i. record { write = r.write; adr = e i; dat = r.dat; sel = r.sel }

covered : (p : Placement) (adr : ℕ) → p.extent.first ≤ adr → adr ≤ p.extent.last → covers (child_placed p) adr ≡ true
covered p adr low high = grind (arith, nat_tests)

held_within : (contents : List Content) (place : ℕ) (o : List ℕ) → get_or contents place Nothing ≡ Rom o → place < length contents
held_within contents place o held = by cases where
  cases : (place < length contents) ⊎ (length contents ≤ place)
  cases = grind arith

  by : (place < length contents) ⊎ (length contents ≤ place) → place < length contents
  by (inl h) = h
  by (inr h) = let none : Nothing ≡ Rom o = sym (get_or_past contents place Nothing h) ∙ held in absurd cc

one_shows : (p : Placement) (ps : List Placement) (more : List Content) (base end : ℕ) (b : PlacedBus) → base + p.extent.last ≤ end
    → Shows p.wiring.route p.contents (base + p.extent.first) (base + p.extent.last) b
    → Shows (route_in W32 (map child_placed (p ∷ ps))) (p.contents ++ more) base end b
one_shows p ps more base end b le s = record {
  place = s.place;
  held = get_or_append_left p.contents more Nothing s.place (held_within p.contents s.place (image_of b.bus) s.held) ∙ s.held;
  aligned = s.aligned;
  above = omega (arith, s.above);
  within = omega (arith, s.within, le);
  goes = λ r first last.
      let is_covered : covers (child_placed p) (less base r).adr ≡ true = covered p (r.adr - base) (omega (arith, s.above)) (omega (arith, s.within)) in
      rw is_covered (ap (λ (q : Request). p.wiring.route q) (less_less base p.extent.first r) ∙ s.goes r first last);
}

-- no operation in the table goes to these addresses of the bus
abbrev IsOff : Extent → ℕ → PlacedBus → Type 0
IsOff e base b = (adr : ℕ) → table_address b ≤ adr → adr < table_address b + length (image_of b.bus) → (nat_le e.first (adr - base) && nat_le (adr - base) e.last) ≡ false

later_shows : (p : Placement) (ps : List Placement) (more : List Content) (base end : ℕ) (b : PlacedBus) → length p.contents ≡ p.wiring.places → IsOff p.extent base b
    → Shows (route_in W32 (map child_placed ps)) more base end b
    → Shows (route_in W32 (map child_placed (p ∷ ps))) (p.contents ++ more) base end b
later_shows p ps more base end b count off s = record {
  place = length p.contents + s.place;
  held = get_or-append-add p.contents more s.place Nothing ∙ s.held;
  aligned = s.aligned;
  above = s.above;
  within = s.within;
  goes = λ r first last.
      let far : farther p.wiring.places (route_in W32 (map child_placed ps) (less base r)) ≡ farther (length p.contents) (route_in W32 (map child_placed ps) (less base r)) =
      ap (λ (n : ℕ). farther n (route_in W32 (map child_placed ps) (less base r))) (sym count) in
      rw (off r.adr first last) (far ∙ ap (farther (length p.contents)) (s.goes r first last));
}

-- ---- the parts of a bus, each with the buses whose tables stand in it

pub record Piece : Type 0 where
  pub part : Placement
  pub behind : ℕ → List PlacedBus

pub record IsGoodPiece (u : Piece) : Type 0 where
  pub count : length u.part.contents ≡ u.part.wiring.places
  pub shows : (base : ℕ) → base % 4 ≡ 0 → All (Shows u.part.wiring.route u.part.contents (base + u.part.extent.first) (base + u.part.extent.last)) (u.behind base)

abbrev AreGood : List Piece → Type 0
AreGood [] = Unit {0}
AreGood (u ∷ us) = IsGoodPiece u × AreGood us

abbrev all_parts : List Piece → List Placement
all_parts us = map (λ u. u.part) us

abbrev all_buses : ℕ → List Piece → List PlacedBus
all_buses base [] = []
all_buses base (u ∷ us) = u.behind base ++ all_buses base us

is_off : (e f : Extent) (base : ℕ) (route : Request → Arrival) (contents : List Content) (b : PlacedBus) → not (meets f e) ≡ true
    → Shows route contents (base + f.first) (base + f.last) b → IsOff e base b
is_off e f base route contents b apart s adr first last = let low = s.above in let high = s.within in grind (arith, nat_tests)

all_off : (e : Extent) (us : List Piece) (base : ℕ) → base % 4 ≡ 0 → AreGood us → list_all (λ later. not (meets later e)) (extents_of (all_parts us)) ≡ true → All (IsOff e base) (all_buses base us)
all_off e [] base even good h = All-nil (IsOff e base)
all_off e (u ∷ us) base even good h =
    let both = and_parts (not (meets u.part.extent e)) (list_all (λ later. not (meets later e)) (extents_of (all_parts us))) h in
    All-append (IsOff e base) (u.behind base) (all_buses base us)
    (λ k d lt. is_off e u.part.extent base u.part.wiring.route u.part.contents _ both.0 (good.0.shows base even k d lt))
    (all_off e us base even good.1 both.1)

pub pieces_show : (last : ℕ) (us : List Piece) (base : ℕ) → base % 4 ≡ 0 → AreGood us → are_within last (extents_of (all_parts us)) ≡ true → are_apart (extents_of (all_parts us)) ≡ true
    → All (Shows (route_in W32 (map child_placed (all_parts us))) (held_in (all_parts us) ++ Nothing ∷ []) base (base + last)) (all_buses base us)
pieces_show last [] base even good within apart = All-nil (Shows (route_in W32 []) (Nothing ∷ []) base (base + last))
pieces_show last (u ∷ us) base even good within apart =
    let p : Placement = u.part in
    let ps : List Placement = all_parts us in
    let more : List Content = held_in ps ++ Nothing ∷ [] in
    let here = and_parts (nat_le p.extent.last last) (are_within last (extents_of ps)) within in
    let ends : p.extent.last ≤ last = grind (arith, nat_tests, here.0) in
    let both = and_parts (list_all (λ later. not (meets later p.extent)) (extents_of ps)) (are_apart (extents_of ps)) apart in
    let off = all_off p.extent us base even good.1 both.0 in
    let rest = pieces_show last us base even good.1 here.1 both.1 in
    let one = good.0.shows base even in
    let S : PlacedBus → Type 0 = Shows (route_in W32 (map child_placed (p ∷ ps))) (p.contents ++ more) base (base + last) in
    subst (λ (cs : List Content). All (Shows (route_in W32 (map child_placed (p ∷ ps))) cs base (base + last)) (all_buses base (u ∷ us))) (sym (append_assoc p.contents (held_in ps) (Nothing ∷ [])))
    (All-append S (u.behind base) (all_buses base us)
    (λ k d lt. one_shows p ps more base (base + last) _ (omega (arith, ends)) (one k d lt))
    (λ k d lt. later_shows p ps more base (base + last) _ good.0.count (off k d lt) (rest k d lt)))

-- ---- an item

abbrev pub IsShown : BusDescription → Type 0
IsShown b = IsSoundBus b → (base : ℕ) → base % 4 ≡ 0
    → All (Shows (bus_parts b).wiring.route (bus_parts b).contents base (base + (out-BusDescription b).last)) ((bus_buses b).all base)

pub record IsShownItem (item : ItemDescription) : Type 0 where
  pub pieces : List Piece
  pub own : all_parts pieces ≡ (item_parts item).parts W32
  pub behind : (base : ℕ) → all_buses base pieces ≡ (item_buses item).behind base
  pub extents : extents_of (all_parts pieces) ≡ extent_at (item_place item).extent
  pub good : AreGood pieces

abbrev lone : Placement → Piece
lone p = record { part = p; behind = λ base. [] }

lone_good : (p : Placement) → length p.contents ≡ p.wiring.places → IsGoodPiece (lone p)
lone_good p count = record { count = count; shows = λ base even. All-nil _ }

-- the bus behind a bridge
abbrev bridged_piece : ℕ → BusDescription → Piece
bridged_piece at b = record { part = bridge_at at (bus_parts b); behind = λ base. (bus_buses b).all (base + at) }

bridged_good : (last : ℕ) (p : Product) (at : ℕ) (b : BusDescription) → IsShown b → IsSoundBridgeTo last p at b → IsGoodPiece (bridged_piece at b)
bridged_good last p at b ih s =
    let end : (bus_parts b).last ≡ (out-BusDescription b).last = ap (λ (d : BusParts). d.last) (bus_parts-opened b) in
    let aligned = s.aligned in
    record {
      count = ((bus_good b).routed s.inner.fields s.inner.places).count;
      shows = λ base even.
          let same : base + at + (out-BusDescription b).last ≡ base + (at + (bus_parts b).last) = omega (arith, end) in
          subst (λ (n : ℕ). All (Shows (bus_parts b).wiring.route (bus_parts b).contents (base + at) n) ((bus_buses b).all (base + at))) same (ih s.inner (base + at) (omega (arith, aligned)));
    }

module _ (n last : ℕ) (item : ItemDescription) (ih : (b : BusDescription) → bus_levels b ≤ n → IsShown b) (le : item_levels item ≤ n) (sound : IsSoundItem last item) where
  -- by its pieces, of which its view shows these
  shown : (v : OnBus BusDescription) → v ≡ on_bus (out-ItemDescription item) → (us : List Piece) → all_parts us ≡ parts_on (with_bus bus_parts v) W32
      → ((base : ℕ) → all_buses base us ≡ buses_behind v base) → extents_of (all_parts us) ≡ extent_at (place_on (with_bus bus_place v)).extent → AreGood us → IsShownItem item
  shown v is us own behind extents good = record {
    pieces = us;
    own = own ∙ sym (parts_seen item v is W32);
    behind = λ base. behind base ∙ sym (buses_seen item v is base);
    extents = extents ∙ ap (λ (q : ItemPlace). extent_at q.extent) (sym (place_seen item v is));
    good = good;
  }

  shown_as : (v : OnBus BusDescription) → v ≡ on_bus (out-ItemDescription item) → IsShownItem item
  shown_as (OfDevice d) is = shown (OfDevice d) is (lone (device_on d W32) ∷ []) refl (λ base. refl) refl (lone_good (device_on d W32) refl, tt)
  shown_as (OfBridge p at b) is =
      let deep : item_levels item ≡ bus_levels b = levels_seen item (OfBridge p at b) is in
      shown (OfBridge p at b) is (bridged_piece at b ∷ []) refl (λ base. append-nil ((bus_buses b).all (base + at)))
      (ap (λ (k : ℕ). let e : Extent = record { first = at; last = at + k } in e ∷ []) (bus_good b).last)
      (bridged_good last p at b (ih b (omega (arith, deep, le))) (sound_bridge last item sound p at b is), tt)
  shown_as (OfNote p) is = shown (OfNote p) is [] refl (λ base. refl) refl tt
  shown_as OfEmpty is = shown OfEmpty is [] refl (λ base. refl) refl tt

  pub shown_item : IsShownItem item
  shown_item = shown_as (on_bus (out-ItemDescription item)) refl

-- ---- the items of a bus

pub record AreShownItems (items : List ItemDescription) : Type 0 where
  pub pieces : List Piece
  pub own : all_parts pieces ≡ parts_in W32 (map item_parts items)
  pub behind : (base : ℕ) → all_buses base pieces ≡ behind_items base (map item_buses items)
  pub places : extents_of (all_parts pieces) ≡ extents (map item_place items)
  pub good : AreGood pieces

all_buses-append : (base : ℕ) (us vs : List Piece) → all_buses base (us ++ vs) ≡ all_buses base us ++ all_buses base vs
all_buses-append base [] vs = refl
all_buses-append base (u ∷ us) vs = ap (λ (bs : List PlacedBus). u.behind base ++ bs) (all_buses-append base us vs) ∙ sym (append_assoc (u.behind base) (all_buses base us) (all_buses base vs))

good_both : (us vs : List Piece) → AreGood us → AreGood vs → AreGood (us ++ vs)
good_both [] vs h k = k
good_both (u ∷ us) vs h k = (h.0, good_both us vs h.1 k)

parts-append : (us vs : List Piece) → all_parts (us ++ vs) ≡ all_parts us ++ all_parts vs
parts-append us vs = map-append (λ (u : Piece). u.part) us vs

extents-append : (us vs : List Piece) → extents_of (all_parts (us ++ vs)) ≡ extents_of (all_parts us) ++ extents_of (all_parts vs)
extents-append us vs = ap extents_of (parts-append us vs) ∙ map-append (λ (p : Placement). p.extent) (all_parts us) (all_parts vs)

shown_items : (n last : ℕ) (items : List ItemDescription) → ((b : BusDescription) → bus_levels b ≤ n → IsShown b) → greatest (map item_levels items) ≤ n → All (IsSoundItem last) items → AreShownItems items
shown_items n last [] ih le sound = record { pieces = []; own = refl; behind = λ base. refl; places = refl; good = tt }
shown_items n last (item ∷ items) ih le sound =
    let one = shown_item n last item ih (omega (arith, le)) (All-head (IsSoundItem last) item items sound) in
    let rest = shown_items n last items ih (omega (arith, le)) (All-tail (IsSoundItem last) item items sound) in
    record {
      pieces = one.pieces ++ rest.pieces;
      own = parts-append one.pieces rest.pieces ∙ (λ i. one.own i ++ rest.own i);
      behind = λ base. all_buses-append base one.pieces rest.pieces ∙ (λ i. one.behind base i ++ rest.behind base i);
      places = extents-append one.pieces rest.pieces ∙ (λ i. one.extents i ++ rest.places i);
      good = good_both one.pieces rest.pieces one.good rest.good;
    }

pub all_first : {X : Type 0} (P : X → Type 0) (xs ys : List X) → All P (xs ++ ys) → All P xs
all_first P [] ys h = All-nil P
all_first P (x ∷ xs) ys h = All-cons P x xs (All-head P x (xs ++ ys) h) (all_first P xs ys (All-tail P x (xs ++ ys) h))

pub all_second : {X : Type 0} (P : X → Type 0) (xs ys : List X) → All P (xs ++ ys) → All P ys
all_second P [] ys h = h
all_second P (x ∷ xs) ys h = all_second P xs ys (All-tail P x (xs ++ ys) h)

last_first : {X : Type 0} (P : X → Type 0) (xs : List X) (x : X) → All P (xs ++ x ∷ []) → All P (x ∷ xs)
last_first P xs x h = All-cons P x xs (All-head P x [] (all_second P xs (x ∷ []) h)) (all_first P xs (x ∷ []) h)

-- ---- a bus

module _ (b : BusDescription) (sound : IsSoundBus b) (shown : AreShownItems (out-BusDescription b).items) where
  abbrev layer : BusDescription-F ItemDescription BusDescription
  layer = out-BusDescription b

  width_is : layer.width ≡ W32
  width_is = width_of_sound b sound

  again : bus_again (opened b) ≡ b
  again = sym (ap (λ (d : BusParts). d.bus) (bus_parts-opened b)) ∙ (bus_good b).again

  abbrev rom : Piece
  rom = record { part = rom_at layer.sdb (length (map item_parts layer.items)) (image_of b) W32; behind = λ base. record { base = base; bus = b } ∷ [] }

  abbrev pieces : List Piece
  pieces = shown.pieces ++ rom ∷ []

  parts_are : parts_of (opened b) ≡ all_parts pieces
  parts_are =
      (λ i. parts_in (width_is i) (map item_parts layer.items) ++ rom_at layer.sdb (length (map item_parts layer.items)) (image_of (again i)) (width_is i) ∷ [])
      ∙ ap (λ (ps : List Placement). ps ++ rom.part ∷ []) (sym shown.own) ∙ sym (parts-append shown.pieces (rom ∷ []))

  route_is : (bus_parts b).wiring.route ≡ route_in W32 (map child_placed (all_parts pieces))
  unfolding bus
  route_is =
      ap (λ (d : BusParts). d.wiring.route) (bus_parts-opened b)
      ∙ (λ i. route_in (width_is i) (map child_placed (parts_are i)))

  contents_are : (bus_parts b).contents ≡ held_in (all_parts pieces) ++ Nothing ∷ []
  contents_are = ap (λ (d : BusParts). d.contents) (bus_parts-opened b) ∙ ap (λ (ps : List Placement). held_in ps ++ Nothing ∷ []) parts_are

  buses_are : (base : ℕ) → (bus_buses b).all base ≡ record { base = base; bus = b } ∷ behind_items base (map item_buses layer.items)
  buses_are base =
      let seen : BusDescription-F ItemBuses BusBuses = record { product = layer.product; width = layer.width; last = layer.last; sdb = layer.sdb; items = map item_buses layer.items } in
      let e : bus_buses b ≡ buses.placed_bus_layer seen = fold_out-BusDescription ItemBuses BusBuses buses.placed_item_layer buses.placed_bus_layer b in
      let same : same_bus seen ≡ b = sym (ap (λ (x : BusBuses). x.bus) e) ∙ listed_as_itself b in
      ap (λ (x : BusBuses). x.all base) e ∙ ap (λ (x : BusDescription). let here : PlacedBus = record { base = base; bus = x } in here ∷ behind_items base (map item_buses layer.items)) same

  rom_good : IsGoodPiece rom
  rom_good =
      let n : length (map item_parts layer.items) ≡ length layer.items = length-map layer.items item_parts in
      let long = length-image_of is_32 b sound.fields in
      let aligned = (top_of_sound b sound).rom.aligned in
      record {
        count = refl;
        shows = λ base even.
            let p : Placement = rom.part in
            let S : PlacedBus → Type 0 = Shows p.wiring.route p.contents (base + p.extent.first) (base + p.extent.last) in
            All-cons S (record { base = base; bus = b }) [] (record {
              place = 0;
              held = refl;
              aligned = omega (arith, aligned, even);
              above = omega arith;
              within = omega (arith, long, n);
              goes = λ r first last. refl;
            }) (All-nil S);
      }

  places_are : extents_of (all_parts pieces) ≡ extents (map item_place layer.items) ++ rom_extent layer.sdb (length (map item_place layer.items)) ∷ []
  places_are =
      let n : length (map item_parts layer.items) ≡ length (map item_place layer.items) = length-map layer.items item_parts ∙ sym (length-map layer.items item_place) in
      extents-append shown.pieces (rom ∷ []) ∙ (λ i. shown.places i ++ rom_extent layer.sdb (n i) ∷ [])

  placed : (are_placed layer.last (extents (map item_place layer.items) ++ rom_extent layer.sdb (length (map item_place layer.items)) ∷ []) && all_behind (map item_place layer.items)) ≡ true
  placed = search (rules, the_lemmas, sound.places)

  bus_shows : (base : ℕ) → base % 4 ≡ 0 → All (Shows (bus_parts b).wiring.route (bus_parts b).contents base (base + layer.last)) ((bus_buses b).all base)
  bus_shows base even =
      let es : List Extent = extents (map item_place layer.items) ++ rom_extent layer.sdb (length (map item_place layer.items)) ∷ [] in
      let both = and_parts (are_placed layer.last es) (all_behind (map item_place layer.items)) placed in
      let here = and_parts (are_within layer.last es) (are_apart es) both.0 in
      let good = good_both shown.pieces (rom ∷ []) shown.good (rom_good, tt) in
      let all = pieces_show layer.last pieces base even good (ap (are_within layer.last) places_are ∙ here.0) (ap are_apart places_are ∙ here.1) in
      let S : PlacedBus → Type 0 = Shows (route_in W32 (map child_placed (all_parts pieces))) (held_in (all_parts pieces) ++ Nothing ∷ []) base (base + layer.last) in
      let own : PlacedBus = record { base = base; bus = b } in
      let split : all_buses base pieces ≡ behind_items base (map item_buses layer.items) ++ own ∷ [] = all_buses-append base shown.pieces (rom ∷ []) ∙ ap (λ (bs : List PlacedBus). bs ++ own ∷ []) (shown.behind base) in
      let apart : All S (behind_items base (map item_buses layer.items) ++ own ∷ []) = subst (All S) split all in
      let turned : All S (own ∷ behind_items base (map item_buses layer.items)) = last_first S (behind_items base (map item_buses layer.items)) own apart in
      let here_all : All S ((bus_buses b).all base) = subst (All S) (sym (buses_are base)) turned in
      subst (λ (l : Request → Arrival). All (Shows l (bus_parts b).contents base (base + layer.last)) ((bus_buses b).all base)) (sym route_is)
      (subst (λ (cs : List Content). All (Shows (route_in W32 (map child_placed (all_parts pieces))) cs base (base + layer.last)) ((bus_buses b).all base)) (sym contents_are) here_all)

-- ---- every bus

pub levels_are : (b : BusDescription) → bus_levels b ≡ suc (greatest (map item_levels (out-BusDescription b).items))
levels_are b = first_of (search (rules, the_lemmas), grind (arith, the_lemmas))

shown_upto : (n : ℕ) (b : BusDescription) → bus_levels b ≤ n → IsShown b
shown_upto zero b le sound = absurd (omega (arith, le, levels_are b))
shown_upto (suc n) b le sound =
    bus_shows b sound (shown_items n (out-BusDescription b).last (out-BusDescription b).items (λ c below. shown_upto n c below) (omega (arith, le, levels_are b)) (items_of_sound b sound))

pub every_shown : (b : BusDescription) → IsShown b
every_shown b = shown_upto (bus_levels b) b (omega arith)
