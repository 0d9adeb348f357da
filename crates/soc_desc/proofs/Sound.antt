-- What a sound bus and each of its items keep.
use Rattle.std.proofs.Common.{◌≡◌, ℕ, suc, zero, ◌+◌, ◌*◌, ◌-◌, ◌%◌, ◌^◌, ◌<◌, ◌≤◌, ◌==◌, ◌&&◌, ◌⊎◌, List, [], ◌∷◌, ◌++◌, length, map, Some, true, not, nat_le, refl, sym, ap, ◌∙◌, subst, arith, rules}
use Rattle.std.proofs.lemmas.Bool.{and_parts}
use Rattle.std.proofs.lemmas.List.{length-map}
use Rattle.std.proofs.lemmas.Bool.Decides.{nat_tests}
use Rattle.std.specs.Prelude.{slice_get, slice_index_or}
use Rattle.std.specs.List.{list_all}
use Rattle.eb_base.specs.declared.width.Width.{Width}
use Rattle.eb_base.specs.declared.width.Width.TheVariants.{W8, W16, W32, W64}
use Rattle.eb_base.specs.declared.name.Product.{Product}
use Rattle.eb_base.specs.declared.reg.Reg.{Reg}
use Rattle.soc_desc.specs.declared.description.PortWord.{PortWord}
use Rattle.soc_desc.specs.declared.description.ItemDescription.{ItemDescription, the_lemmas}
use Rattle.soc_desc.specs.declared.description.ItemDescription.TheVariants.{Ram, Regs, Fifo, Bridge}
use Rattle.soc_desc.specs.declared.view.Interface.{Interface}
use Rattle.soc_desc.specs.View.{Make, RamOf, RegsOf, FifoOf}
use Rattle.soc_desc.specs.declared.description.ItemDescription.TheViews.{out-BusDescription}
use Rattle.soc_desc.specs.declared.description.BusDescription.{BusDescription}
use Rattle.soc_desc.specs.declared.geometry.Extent.{Extent}
use Rattle.soc_desc.specs.Checks.{is_in}
use Rattle.soc_desc.specs.Shape.{address, last_address, wait_clocks, u16, u8}
use Rattle.soc_desc.specs.Geometry.{item_place, bus_place, extent_at, extents, rom_extent, octets_at, meets, are_within, are_apart, are_placed, all_behind}
use Rattle.soc_desc.specs.Accepted.{all_of, greatest, is_product, is_reg, is_interface, is_make, is_32, item_fields, bus_fields, item_levels, bus_levels, IsSoundBus}
use Rattle.soc_desc.specs.Sound.{IsSoundItem, IsInside, AreApart, TopOfSound, ItemsOfSound, ApartOnSound, IsSoundRam, IsSoundRegs, IsSoundFifo, IsSoundBridge, LevelsFall, LevelsOfBridge}

-- ---- a number in a range

in_range : (least most step rest n : ℕ) → is_in (record { least = least; most = most; step = step; rest = rest }) n ≡ true → (least ≤ n) × (n ≤ most) × (n % step ≡ rest)
in_range least most step rest n h =
    let outer = and_parts (nat_le least n && nat_le n most) (n % step == rest) h in
    let inner = and_parts (nat_le least n) (nat_le n most) outer.0 in
    (grind (arith, nat_tests, inner.0), grind (arith, nat_tests, inner.1), grind (arith, nat_tests, outer.1))

-- ---- the parts of what a list of items and its ROM keep

within_front : (last : ℕ) (xs ys : List Extent) → are_within last (xs ++ ys) ≡ true → (are_within last xs ≡ true) × (are_within last ys ≡ true)
within_front last [] ys h = (refl, h)
within_front last (x ∷ xs) ys h =
    let both = and_parts (nat_le x.last last) (are_within last (xs ++ ys)) h in
    let rest = within_front last xs ys both.1 in
    (ap (λ b. b && are_within last xs) both.0 ∙ rest.0, rest.1)

fields_at : (is : List ItemDescription) (k : ℕ) (d : ItemDescription) → k < length is → all_of (map (item_fields is_32) is) ≡ true → item_fields is_32 (slice_index_or is k d) ≡ true
fields_at [] k d lt h = absurd (omega arith)
fields_at (x ∷ xs) zero d lt h = (and_parts (item_fields is_32 x) (all_of (map (item_fields is_32) xs)) h).0
fields_at (x ∷ xs) (suc k) d lt h = fields_at xs k d (omega arith) (and_parts (item_fields is_32 x) (all_of (map (item_fields is_32) xs)) h).1

behind_at : (is : List ItemDescription) (k : ℕ) (d : ItemDescription) → k < length is → all_behind (map item_place is) ≡ true → (item_place (slice_index_or is k d)).placed ≡ true
behind_at [] k d lt h = absurd (omega arith)
behind_at (x ∷ xs) zero d lt h = (and_parts (item_place x).placed (all_behind (map item_place xs)) h).0
behind_at (x ∷ xs) (suc k) d lt h = behind_at xs k d (omega arith) (and_parts (item_place x).placed (all_behind (map item_place xs)) h).1

within_at : (last : ℕ) (is : List ItemDescription) (k : ℕ) (d : ItemDescription) → k < length is → are_within last (extents (map item_place is)) ≡ true
    → are_within last (extent_at (item_place (slice_index_or is k d)).extent) ≡ true
within_at last [] k d lt h = absurd (omega arith)
within_at last (x ∷ xs) zero d lt h = (within_front last (extent_at (item_place x).extent) (extents (map item_place xs)) h).0
within_at last (x ∷ xs) (suc k) d lt h = within_at last xs k d (omega arith) (within_front last (extent_at (item_place x).extent) (extents (map item_place xs)) h).1

levels_at : (is : List ItemDescription) (k : ℕ) (d : ItemDescription) → k < length is → item_levels (slice_index_or is k d) ≤ greatest (map item_levels is)
levels_at [] k d lt = absurd (omega arith)
levels_at (x ∷ xs) zero d lt = omega arith
levels_at (x ∷ xs) (suc k) d lt = let rest = levels_at xs k d (omega arith) in omega arith

-- ---- ranges apart

apart_first : (e : Extent) (es : List Extent) (j : ℕ) (b : Extent) → list_all (λ later. not (meets later e)) es ≡ true → slice_get es j ≡ Some b → (e.last < b.first) ⊎ (b.last < e.first)
apart_first e [] j b h k = absurd (cc)
apart_first e (x ∷ xs) zero b h k =
    let here = (and_parts (not (meets x e)) (list_all (λ later. not (meets later e)) xs) h).0 in
    let same : x ≡ b = cc in
    subst (λ (y : Extent). (e.last < y.first) ⊎ (y.last < e.first)) same (grind (arith, nat_tests, here))
apart_first e (x ∷ xs) (suc j) b h k = apart_first e xs j b (and_parts (not (meets x e)) (list_all (λ later. not (meets later e)) xs) h).1 k

apart : (es : List Extent) → are_apart es ≡ true → AreApart es
apart [] h i j a b lt ei ej = absurd (cc)
apart (e ∷ es) h i zero a b lt ei ej = absurd (omega arith)
apart (e ∷ es) h zero (suc j) a b lt ei ej =
    let first = (and_parts (list_all (λ later. not (meets later e)) es) (are_apart es) h).0 in
    let same : e ≡ a = cc in
    subst (λ (x : Extent). (x.last < b.first) ⊎ (b.last < x.first)) same (apart_first e es j b first ej)
apart (e ∷ es) h (suc i) (suc j) a b lt ei ej = apart es (and_parts (list_all (λ later. not (meets later e)) es) (are_apart es) h).1 i j a b (omega arith) ei ej

-- ---- a sound bus

places_of : (bus : BusDescription) → let b = out-BusDescription bus in (bus_place bus).placed ≡ (are_placed b.last (extents (map item_place b.items) ++ rom_extent b.sdb (length (map item_place b.items)) ∷ []) && all_behind (map item_place b.items))
places_of bus = first_of (search (rules, the_lemmas), grind (arith, the_lemmas))

fields_of : (bus : BusDescription) → let b = out-BusDescription bus in bus_fields is_32 bus ≡ (is_product b.product && is_32 b.width && is_in (last_address 4) b.last && is_in (address 4) b.sdb && nat_le (length (map (item_fields is_32) b.items)) 64 && all_of (map (item_fields is_32) b.items))
fields_of bus = first_of (search (rules, the_lemmas), grind (arith, the_lemmas))

levels_of : (bus : BusDescription) → bus_levels bus ≡ suc (greatest (map item_levels (out-BusDescription bus).items))
levels_of bus = first_of (search (rules, the_lemmas), grind (arith, the_lemmas))

pub top_of_sound : TopOfSound
top_of_sound bus h =
    let b = out-BusDescription bus in
    let fields = sym (fields_of bus) ∙ h.fields in
    let all = and_parts (is_product b.product && is_32 b.width && is_in (last_address 4) b.last && is_in (address 4) b.sdb && nat_le (length (map (item_fields is_32) b.items)) 64) (all_of (map (item_fields is_32) b.items)) fields in
    let count = and_parts (is_product b.product && is_32 b.width && is_in (last_address 4) b.last && is_in (address 4) b.sdb) (nat_le (length (map (item_fields is_32) b.items)) 64) all.0 in
    let sdb = and_parts (is_product b.product && is_32 b.width && is_in (last_address 4) b.last) (is_in (address 4) b.sdb) count.0 in
    let last = and_parts (is_product b.product && is_32 b.width) (is_in (last_address 4) b.last) sdb.0 in
    let sdb_in = in_range 0 (2 ^ 64 - 1) 4 0 b.sdb sdb.1 in
    let last_in = in_range 0 (2 ^ 64 - 1) 4 3 b.last last.1 in
    let placed = and_parts (are_placed b.last (extents (map item_place b.items) ++ rom_extent b.sdb (length (map item_place b.items)) ∷ [])) (all_behind (map item_place b.items)) (sym (places_of bus) ∙ h.places) in
    let within = and_parts (are_within b.last (extents (map item_place b.items) ++ rom_extent b.sdb (length (map item_place b.items)) ∷ [])) (are_apart (extents (map item_place b.items) ++ rom_extent b.sdb (length (map item_place b.items)) ∷ [])) placed.0 in
    let rom = within_front b.last (extents (map item_place b.items)) (rom_extent b.sdb (length (map item_place b.items)) ∷ []) within.0 in
    let rom_below = (and_parts (nat_le (b.sdb + 64 * (length (map item_place b.items) + 1) - 1) b.last) true rom.1).0 in
    let rom_least : b.sdb + 64 * (length (map item_place b.items) + 1) - 1 ≤ b.last = grind (arith, nat_tests, rom_below) in
    let counted : length (map (item_fields is_32) b.items) ≤ 64 = grind (arith, nat_tests, count.1) in
    record {
      whole_words = last_in.2;
      below = omega (arith, last_in.1);
      rom = record {
        aligned = sdb_in.2;
        within = omega (arith, rom_least, length-map b.items item_place);
        below = omega (arith, rom_least, last_in.1, length-map b.items item_place);
      };
      count = omega (arith, counted, length-map b.items (item_fields is_32));
    }

width_is : (w : Width) → is_32 w ≡ true → w ≡ W32
width_is W8 h = cc
width_is W16 h = cc
width_is W32 h = refl
width_is W64 h = cc

pub width_of_sound : (bus : BusDescription) → IsSoundBus bus → (out-BusDescription bus).width ≡ W32
width_of_sound bus h =
    let b = out-BusDescription bus in
    let all = and_parts (is_product b.product && is_32 b.width && is_in (last_address 4) b.last && is_in (address 4) b.sdb && nat_le (length (map (item_fields is_32) b.items)) 64) (all_of (map (item_fields is_32) b.items)) (sym (fields_of bus) ∙ h.fields) in
    let count = and_parts (is_product b.product && is_32 b.width && is_in (last_address 4) b.last && is_in (address 4) b.sdb) (nat_le (length (map (item_fields is_32) b.items)) 64) all.0 in
    let sdb = and_parts (is_product b.product && is_32 b.width && is_in (last_address 4) b.last) (is_in (address 4) b.sdb) count.0 in
    let last = and_parts (is_product b.product && is_32 b.width) (is_in (last_address 4) b.last) sdb.0 in
    width_is b.width (and_parts (is_product b.product) (is_32 b.width) last.0).1

pub items_of_sound : ItemsOfSound
items_of_sound bus h k d lt =
    let b = out-BusDescription bus in
    let fields = sym (fields_of bus) ∙ h.fields in
    let all = and_parts (is_product b.product && is_32 b.width && is_in (last_address 4) b.last && is_in (address 4) b.sdb && nat_le (length (map (item_fields is_32) b.items)) 64) (all_of (map (item_fields is_32) b.items)) fields in
    let placed = and_parts (are_placed b.last (extents (map item_place b.items) ++ rom_extent b.sdb (length (map item_place b.items)) ∷ [])) (all_behind (map item_place b.items)) (sym (places_of bus) ∙ h.places) in
    let within = and_parts (are_within b.last (extents (map item_place b.items) ++ rom_extent b.sdb (length (map item_place b.items)) ∷ [])) (are_apart (extents (map item_place b.items) ++ rom_extent b.sdb (length (map item_place b.items)) ∷ [])) placed.0 in
    let items = within_front b.last (extents (map item_place b.items)) (rom_extent b.sdb (length (map item_place b.items)) ∷ []) within.0 in
    record {
      fields = fields_at b.items k d lt all.1;
      behind = behind_at b.items k d lt placed.1;
      within = within_at b.last b.items k d lt items.0;
      below = (top_of_sound bus h).below;
    }

pub apart_on_sound : ApartOnSound
apart_on_sound bus h =
    let b = out-BusDescription bus in
    let placed = and_parts (are_placed b.last (extents (map item_place b.items) ++ rom_extent b.sdb (length (map item_place b.items)) ∷ [])) (all_behind (map item_place b.items)) (sym (places_of bus) ∙ h.places) in
    let within = and_parts (are_within b.last (extents (map item_place b.items) ++ rom_extent b.sdb (length (map item_place b.items)) ∷ [])) (are_apart (extents (map item_place b.items) ++ rom_extent b.sdb (length (map item_place b.items)) ∷ [])) placed.0 in
    subst (λ n. AreApart (extents (map item_place b.items) ++ rom_extent b.sdb n ∷ [])) (length-map b.items item_place) (apart (extents (map item_place b.items) ++ rom_extent b.sdb (length (map item_place b.items)) ∷ []) within.1)

-- ---- a sound item

-- a range that lies on the bus
inside : (last at octets : ℕ) (item : ItemDescription) → 0 < octets → at % 4 ≡ 0 → (item_place item).extent ≡ Some (octets_at at octets) → IsSoundItem last item → IsInside last at octets
inside last at octets item some aligned e h =
    let within = subst (λ x. are_within last (extent_at x) ≡ true) e h.within in
    let test = (and_parts (nat_le (at + octets - 1) last) true within).0 in
    let least : at + octets - 1 ≤ last = grind (arith, nat_tests, test) in
    record {
      aligned = aligned;
      within = omega (arith, least);
      below = omega (arith, least, h.below);
    }

waits_in : (i : Interface) → is_interface i ≡ true → i.wait ≤ 15
waits_in i h =
    let a = and_parts (is_in wait_clocks i.wait && is_in u16 i.class && is_in u8 i.major) (is_in u8 i.minor) h in
    let b = and_parts (is_in wait_clocks i.wait && is_in u16 i.class) (is_in u8 i.major) a.0 in
    let c = and_parts (is_in wait_clocks i.wait) (is_in u16 i.class) b.0 in
    (in_range 0 15 1 0 i.wait c.0).1

-- what the rules say of a device by its kind
pub record IsKept (p : Product) (at : ℕ) (make : Make) (i : Interface) : Type 0 where
  pub product : is_product p ≡ true
  pub aligned : at % 4 ≡ 0
  pub made : is_make make ≡ true
  pub waits : i.wait ≤ 15

pub device_kept : (p : Product) (at : ℕ) (make : Make) (i : Interface) → (is_product p && is_in (address 4) at && is_make make && is_interface i) ≡ true → IsKept p at make i
device_kept p at make i h =
    let a = and_parts (is_product p && is_in (address 4) at && is_make make) (is_interface i) h in
    let b = and_parts (is_product p && is_in (address 4) at) (is_make make) a.0 in
    let c = and_parts (is_product p) (is_in (address 4) at) b.0 in
    record { product = c.0; aligned = (in_range 0 (2 ^ 64 - 1) 4 0 at c.1).2; made = b.1; waits = waits_in i a.1 }

pub ram_made : (size : ℕ) → is_make (RamOf size) ≡ true → (4 ≤ size) × (size ≤ 1048576) × (size % 4 ≡ 0)
ram_made size h = in_range 4 1048576 4 0 size h

pub regs_made : (words : List Reg) → is_make (RegsOf words) ≡ true → (1 ≤ length words) × (length words ≤ 1024)
regs_made words h =
    let a = (and_parts (nat_le 1 (length words) && nat_le (length words) 1024) (list_all is_reg words) h).0 in
    let b = and_parts (nat_le 1 (length words)) (nat_le (length words) 1024) a in
    (grind (arith, nat_tests, b.0), grind (arith, nat_tests, b.1))

pub fifo_made : (depth : ℕ) → is_make (FifoOf depth) ≡ true → (1 ≤ depth) × (depth ≤ 1024)
fifo_made depth h = let range = in_range 1 1024 1 0 depth h in (range.0, range.1)

module _ (last : ℕ) (p : Product) (at : ℕ) where
  module _ (port : PortWord) (wait class major minor : ℕ) where
    abbrev own : Interface
    own = record { port = port; wait = wait; class = class; major = major; minor = minor }

    ram_kept : (size : ℕ) → IsSoundItem last (Ram p at size port wait class major minor) → IsKept p at (RamOf size) own
    ram_kept size h =
        let is : item_fields is_32 (Ram p at size port wait class major minor) ≡ (is_product p && is_in (address 4) at && is_make (RamOf size) && is_interface own) = first_of (search (rules, the_lemmas), grind (arith, the_lemmas)) in
        device_kept p at (RamOf size) own (sym is ∙ h.fields)

    regs_kept : (words : List Reg) → IsSoundItem last (Regs p at words port wait class major minor) → IsKept p at (RegsOf words) own
    regs_kept words h =
        let is : item_fields is_32 (Regs p at words port wait class major minor) ≡ (is_product p && is_in (address 4) at && is_make (RegsOf words) && is_interface own) = first_of (search (rules, the_lemmas), grind (arith, the_lemmas)) in
        device_kept p at (RegsOf words) own (sym is ∙ h.fields)

    fifo_kept : (depth : ℕ) → IsSoundItem last (Fifo p at depth port wait class major minor) → IsKept p at (FifoOf depth) own
    fifo_kept depth h =
        let is : item_fields is_32 (Fifo p at depth port wait class major minor) ≡ (is_product p && is_in (address 4) at && is_make (FifoOf depth) && is_interface own) = first_of (search (rules, the_lemmas), grind (arith, the_lemmas)) in
        device_kept p at (FifoOf depth) own (sym is ∙ h.fields)

  pub ram_of_sound : (size : ℕ) (port : PortWord) (wait class major minor : ℕ) → IsSoundItem last (Ram p at size port wait class major minor) → IsSoundRam last at size wait
  ram_of_sound size port wait class major minor h =
      let place : (item_place (Ram p at size port wait class major minor)).extent ≡ Some (octets_at at size) = first_of (search (rules, the_lemmas), grind (arith, the_lemmas)) in
      let kept = ram_kept port wait class major minor size h in
      let size_in = ram_made size kept.made in
      record {
        place = inside last at size (Ram p at size port wait class major minor) (omega (arith, size_in.0)) kept.aligned place h;
        least = size_in.0;
        most = size_in.1;
        whole_words = size_in.2;
        waits = kept.waits;
      }

  pub regs_of_sound : (words : List Reg) (port : PortWord) (wait class major minor : ℕ) → IsSoundItem last (Regs p at words port wait class major minor) → IsSoundRegs last at (length words) wait
  regs_of_sound words port wait class major minor h =
      let place : (item_place (Regs p at words port wait class major minor)).extent ≡ Some (octets_at at (4 * length words)) = first_of (search (rules, the_lemmas), grind (arith, the_lemmas)) in
      let kept = regs_kept port wait class major minor words h in
      let count = regs_made words kept.made in
      record {
        place = inside last at (4 * length words) (Regs p at words port wait class major minor) (omega (arith, count.0)) kept.aligned place h;
        least = count.0;
        most = count.1;
        waits = kept.waits;
      }

  pub fifo_of_sound : (depth : ℕ) (port : PortWord) (wait class major minor : ℕ) → IsSoundItem last (Fifo p at depth port wait class major minor) → IsSoundFifo last at depth wait
  fifo_of_sound depth port wait class major minor h =
      let place : (item_place (Fifo p at depth port wait class major minor)).extent ≡ Some (octets_at at 8) = first_of (search (rules, the_lemmas), grind (arith, the_lemmas)) in
      let kept = fifo_kept port wait class major minor depth h in
      let depth_in = fifo_made depth kept.made in
      record {
        place = inside last at 8 (Fifo p at depth port wait class major minor) (omega arith) kept.aligned place h;
        least = depth_in.0;
        most = depth_in.1;
        waits = kept.waits;
      }

  pub bridge_of_sound : (bus : BusDescription) → IsSoundItem last (Bridge p at bus) → IsSoundBridge last at bus
  bridge_of_sound bus h =
      let b = out-BusDescription bus in
      let is : item_fields is_32 (Bridge p at bus) ≡ (is_product p && is_in (address 4) at && bus_fields is_32 bus) = first_of (search (rules, the_lemmas), grind (arith, the_lemmas)) in
      let placed : (item_place (Bridge p at bus)).placed ≡ (bus_place bus).placed = first_of (search (rules, the_lemmas), grind (arith, the_lemmas)) in
      let place : (item_place (Bridge p at bus)).extent ≡ Some (record { first = at; last = at + b.last }) = first_of (search (rules, the_lemmas), grind (arith, the_lemmas)) in
      let a = and_parts (is_product p && is_in (address 4) at) (bus_fields is_32 bus) (sym is ∙ h.fields) in
      let c = and_parts (is_product p) (is_in (address 4) at) a.0 in
      let at_in = in_range 0 (2 ^ 64 - 1) 4 0 at c.1 in
      let within = subst (λ x. are_within last (extent_at x) ≡ true) place h.within in
      let test = (and_parts (nat_le (at + b.last) last) true within).0 in
      let least : at + b.last ≤ last = grind (arith, nat_tests, test) in
      record {
        place = record {
          aligned = at_in.2;
          within = omega (arith, least);
          below = omega (arith, least, h.below);
        };
        inner = record { fields = a.1; places = sym placed ∙ h.behind };
      }

-- ---- levels

pub levels_fall : LevelsFall
levels_fall bus k d lt = omega (arith, levels_of bus, levels_at (out-BusDescription bus).items k d lt)

pub levels_of_bridge : LevelsOfBridge
levels_of_bridge p at bus = first_of (search (rules, the_lemmas), grind (arith, the_lemmas))
