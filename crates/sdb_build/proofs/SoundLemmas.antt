-- What a sound bus says of its ROM, its items, and the buses behind them.
use Rattle.std.proofs.Common.{◌≡◌, ℕ, ◌+◌, ◌^◌, ◌<◌, ◌≤◌, List, [], ◌∷◌, ◌++◌, length, map, Bool, true, ◌&&◌, nat_le, nat_lt, ◌%◌, ◌-◌, refl, sym, ap, ◌∙◌, subst, arith, rules}
use Rattle.std.proofs.lemmas.Bool.Decides.{nat_tests}
use Rattle.std.proofs.lemmas.Bool.{and_parts, and_from}
use Rattle.std.specs.List.{list_all}
use Rattle.eb_base.specs.declared.width.Width.{Width}
use Rattle.eb_base.specs.declared.name.Product.{Product}
use Rattle.soc_desc.specs.declared.geometry.Extent.{Extent}
use Rattle.soc_desc.specs.declared.description.BusDescription.{BusDescription}
use Rattle.soc_desc.specs.declared.description.ItemDescription.{ItemDescription, the_lemmas}
use Rattle.soc_desc.specs.declared.description.ItemDescription.TheViews.{out-ItemDescription, out-BusDescription}
use Rattle.soc_desc.specs.declared.description.ItemDescription.TheFolds.{fold_out-BusDescription}
use Rattle.soc_desc.specs.View.{Device, octets_in, OfDevice, OfBridge, on_bus}
use Rattle.soc_desc.specs.Geometry as geo
use Rattle.soc_desc.proofs.Sound.{device_kept}
use Rattle.soc_desc.proofs.Seen.{fields_seen, place_seen, make_some}
use Rattle.soc_desc.specs.Geometry.{ItemPlace, BusPlace, item_place, bus_place, extents, extent_at, all_behind, are_within, are_apart, are_placed, rom_extent}
use Rattle.soc_desc.specs.Accepted.{IsSoundBusOf, all_of, is_product, is_make, item_fields, bus_fields}
use Rattle.soc_desc.specs.Checks.{is_in}
use Rattle.soc_desc.specs.Shape.{address, last_address}
use Rattle.sdb_build.specs.Sound.{end_in_range, IsSoundAt, AreSoundItems}

all_append : {A : Type 0} (p : A → Bool) (xs ys : List A) → list_all p (xs ++ ys) ≡ true → (list_all p xs ≡ true) × (list_all p ys ≡ true)
all_append p [] ys h = (refl, h)
all_append p (x ∷ xs) ys h =
    let both = and_parts (p x) (list_all p (xs ++ ys)) h in
    let rest = all_append p xs ys both.1 in
    (and_from (p x) (list_all p xs) both.0 rest.0, rest.1)

raised : (base last : ℕ) (es : List Extent) → base + last < 2 ^ 64 → are_within last es ≡ true → end_in_range base es ≡ true
raised base last [] l h = refl
raised base last (e ∷ es) l h =
    let both = and_parts (nat_le e.last last) (are_within last es) h in
    let here : nat_lt (base + e.last) (2 ^ 64) ≡ true = grind (arith, nat_tests, both.0, l) in
    and_from (nat_lt (base + e.last) (2 ^ 64)) (end_in_range base es) here (raised base last es l both.1)

-- what is placed on a bus ends on it
placed_parts : (last : ℕ) (items : List ItemPlace) (rom : Extent) → (are_placed last (extents items ++ rom ∷ []) && all_behind items) ≡ true
    → (are_within last (extents items) ≡ true) × (nat_le rom.last last ≡ true) × (all_behind items ≡ true)
placed_parts last items rom h =
    let both = and_parts (are_placed last (extents items ++ rom ∷ [])) (all_behind items) h in
    let here = and_parts (are_within last (extents items ++ rom ∷ [])) (are_apart (extents items ++ rom ∷ [])) both.0 in
    let within = all_append (λ e. nat_le e.last last) (extents items) (rom ∷ []) here.0 in
    (within.0, (and_parts (nat_le rom.last last) true within.1).0, both.1)

module _ (widths : Width → Bool) where
  pub own_fields : (bus : BusDescription) → bus_fields widths bus ≡ true
      → let b = out-BusDescription bus in (is_product b.product && widths b.width && is_in (last_address 4) b.last && is_in (address 4) b.sdb && nat_le (length (map (item_fields widths) b.items)) 64 && all_of (map (item_fields widths) b.items)) ≡ true
  own_fields bus fields = search (rules, the_lemmas, fields)

  module _ (bus : BusDescription) (sound : IsSoundBusOf widths bus) where
    own_places : let b = out-BusDescription bus in (are_placed b.last (extents (map item_place b.items) ++ rom_extent b.sdb (length (map item_place b.items)) ∷ []) && all_behind (map item_place b.items)) ≡ true
    own_places = search (rules, the_lemmas, sound.places)

    last_fits : 0 + (out-BusDescription bus).last < 2 ^ 64
    last_fits =
        let b = out-BusDescription bus in
        let counted = is_product b.product && widths b.width && is_in (last_address 4) b.last && is_in (address 4) b.sdb && nat_le (length (map (item_fields widths) b.items)) 64 in
        let p4 = (and_parts counted (all_of (map (item_fields widths) b.items)) (own_fields bus sound.fields)).0 in
        let p3 = (and_parts (is_product b.product && widths b.width && is_in (last_address 4) b.last && is_in (address 4) b.sdb) (nat_le (length (map (item_fields widths) b.items)) 64) p4).0 in
        let p2 = (and_parts (is_product b.product && widths b.width && is_in (last_address 4) b.last) (is_in (address 4) b.sdb) p3).0 in
        let p1 = (and_parts (is_product b.product && widths b.width) (is_in (last_address 4) b.last) p2).1 in
        grind (arith, nat_tests, p1)

    pub rom_inside : (out-BusDescription bus).sdb ≤ (out-BusDescription bus).last
    rom_inside =
        let b = out-BusDescription bus in
        let parts = placed_parts b.last (map item_place b.items) (rom_extent b.sdb (length (map item_place b.items))) own_places in
        grind (arith, nat_tests, parts.1)

    pub items_sound : (base : ℕ) → base + (out-BusDescription bus).last < 2 ^ 64 → AreSoundItems widths base (out-BusDescription bus).items
    items_sound base inside =
        let b = out-BusDescription bus in
        let parts = placed_parts b.last (map item_place b.items) (rom_extent b.sdb (length (map item_place b.items))) own_places in
        let others = is_product b.product && widths b.width && is_in (last_address 4) b.last && is_in (address 4) b.sdb && nat_le (length (map (item_fields widths) b.items)) 64 in
        record { fields = (and_parts others (all_of (map (item_fields widths) b.items)) (own_fields bus sound.fields)).1; places = parts.2; ends = raised base b.last (extents (map item_place b.items)) inside parts.0 }

  -- the first of these items, and the others
  pub first_sound : (base : ℕ) (item : ItemDescription) (items : List ItemDescription) → AreSoundItems widths base (item ∷ items) → IsSoundAt widths base item
  first_sound base item items h = record {
    fields = (and_parts (item_fields widths item) (all_of (map (item_fields widths) items)) h.fields).0;
    places = (and_parts (item_place item).placed (all_behind (map item_place items)) h.places).0;
    ends = (all_append (λ e. nat_lt (base + e.last) (2 ^ 64)) (extent_at (item_place item).extent) (extents (map item_place items)) h.ends).0;
  }

  pub others_sound : (base : ℕ) (item : ItemDescription) (items : List ItemDescription) → AreSoundItems widths base (item ∷ items) → AreSoundItems widths base items
  others_sound base item items h = record {
    fields = (and_parts (item_fields widths item) (all_of (map (item_fields widths) items)) h.fields).1;
    places = (and_parts (item_place item).placed (all_behind (map item_place items)) h.places).1;
    ends = (all_append (λ e. nat_lt (base + e.last) (2 ^ 64)) (extent_at (item_place item).extent) (extents (map item_place items)) h.ends).1;
  }

  -- a device that keeps the rules of its kind has some octets, and ends in range
  pub device_sound : (base : ℕ) (item : ItemDescription) (d : Device) → OfDevice d ≡ on_bus (out-ItemDescription item) → IsSoundAt widths base item
      → (is_make d.make ≡ true) × (1 ≤ octets_in d.make) × (base + d.at + octets_in d.make ≤ 2 ^ 64) × (d.at % 4 ≡ 0)
  device_sound base item d is h =
      let kept = device_kept d.product d.at d.make d.interface (sym (fields_seen item (OfDevice d) is widths) ∙ h.fields) in
      let some = make_some d.make kept.made in
      let ends = subst (λ (p : ItemPlace). end_in_range base (extent_at p.extent) ≡ true) (place_seen item (OfDevice d) is) h.ends in
      let lt = (and_parts (nat_lt (base + (d.at + octets_in d.make - 1)) (2 ^ 64)) true ends).0 in
      let last : base + (d.at + octets_in d.make - 1) < 2 ^ 64 = grind (arith, nat_tests, lt) in
      (kept.made, some, omega (arith, some, last), kept.aligned)

  -- the bus behind a bridge keeps the rules, and ends in range
  pub bridge_sound : (base : ℕ) (item : ItemDescription) (p : Product) (at : ℕ) (bus : BusDescription) → OfBridge p at bus ≡ on_bus (out-ItemDescription item) → IsSoundAt widths base item
      → IsSoundBusOf widths bus × (base + at + (out-BusDescription bus).last < 2 ^ 64)
  bridge_sound base item p at bus is h =
      let fields : (is_product p && is_in (address 4) at && bus_fields widths bus) ≡ true = sym (fields_seen item (OfBridge p at bus) is widths) ∙ h.fields in
      let place = place_seen item (OfBridge p at bus) is in
      let places : (bus_place bus).placed ≡ true = sym (ap (λ (q : ItemPlace). q.placed) place) ∙ h.places in
      let ends = subst (λ (q : ItemPlace). end_in_range base (extent_at q.extent) ≡ true) place h.ends in
      let lt = (and_parts (nat_lt (base + (at + (bus_place bus).last)) (2 ^ 64)) true ends).0 in
      let end : base + (at + (bus_place bus).last) < 2 ^ 64 = grind (arith, nat_tests, lt) in
      let last : (bus_place bus).last ≡ (out-BusDescription bus).last = ap (λ (q : BusPlace). q.last) (fold_out-BusDescription ItemPlace BusPlace geo.item_layer geo.bus_layer bus) in
      (record { fields = (and_parts (is_product p && is_in (address 4) at) (bus_fields widths bus) fields).1; places = places }, omega (arith, end, last))

  -- the items of a bus whose addresses are counted from its own base
  pub items_sound_at_0 : (bus : BusDescription) → IsSoundBusOf widths bus → AreSoundItems widths 0 (out-BusDescription bus).items
  items_sound_at_0 bus sound = items_sound bus sound 0 (last_fits bus sound)
