-- The tree of a described bus is its parts, one by one.
use Rattle.std.proofs.Common.{◌≡◌, ℕ, ◌+◌, ◌-◌, ◌*◌, ◌%◌, ◌^◌, ◌<◌, ◌≤◌, ◌&&◌, ◌==◌, nat_lt, nat_le, List, [], ◌∷◌, ◌++◌, length, map, Bool, true, false, Result, Ok, Err, IfOk, refl, ap, sym, ◌∙◌, subst, arith, append_assoc}
use Rattle.std.proofs.lemmas.List.{map-append, length-map, length-append}
use Rattle.std.proofs.lemmas.Bool.{and_parts}
use Rattle.std.proofs.lemmas.Bool.Decides.{nat_tests}
use Rattle.sdb_build.proofs.SoundLemmas.{own_fields}
use Rattle.eb_base.specs.declared.width.Width.{Width}
use Rattle.eb_base.specs.declared.width.Width.TheVariants.{W32}
use Rattle.soc_desc.specs.declared.description.BusDescription.{BusDescription}
use Rattle.soc_desc.specs.declared.description.ItemDescription.{ItemDescription, map-ItemDescription}
use Rattle.soc_desc.specs.declared.description.ItemDescription.TheOpen.{ItemDescription-F, Ram, Regs, Fifo, Bridge, Integration, Empty}
use Rattle.soc_desc.specs.declared.description.ItemDescription.TheViews.{roll-ItemDescription, out-ItemDescription, out-BusDescription}
use Rattle.soc_desc.specs.declared.description.ItemDescription.TheFolds.{fold-roll-ItemDescription, fold_out-ItemDescription, fold_out-BusDescription, ind-ItemDescription}
use Rattle.soc_desc.specs.Accepted.{IsSoundBus, is_product, is_32, is_make, is_interface, all_of, item_fields, item_fields_layer, bus_fields, bus_fields_layer}
use Rattle.soc_desc.specs.Checks.{is_in}
use Rattle.soc_desc.specs.Shape.{address, last_address}
use Rattle.sdb_build.specs.Tables.{image_of}
use Rattle.sdb_build.proofs.RecordLemmas.{length-image_of}
use Rattle.wb_signals.specs.Request.{Request, less}
use Rattle.wb_signals.specs.Content.{Content, Nothing, Rom, size_of}
use Rattle.wb_signals.specs.Bus.{Child, bus, leaf}
use Rattle.wb_signals.specs.Slave.{Slave}
use Rattle.wb_signals.specs.Parts as wb
use Rattle.wb_signals.specs.Parts.{FitsIn, AllFitIn, AllQuiet, contents_in}
use Rattle.wb_signals.specs.Turn.{bus_slave}
use Rattle.wb_signals.specs.declared.debtor.Debtor.TheVariants.{Nobody}
use Rattle.wb_tree.specs.declared.part.Part.{Part as TreePart}
use Rattle.wb_tree.specs.Tree.{AllSound, IsSoundPart}
use Rattle.wb_tree.proofs.LeafLemmas.{leaf_fits}
use Rattle.soc_machine.specs.Described.{Placement, ItemParts, BusParts, item_parts, bus_parts, item_parts_layer, bus_parts_layer, parts_in, parts_of, bus_again, child_placed, held_in, rom_at, built, device_on, bridge_at, parts_on, path_wait, port_stalls}
use Rattle.soc_machine.proofs.ItemLemmas.{in_range, built_size}
use Rattle.soc_machine.proofs.DescribedLemmas.{bus_good, bus_tests}
use Rattle.soc_core.specs.Built.{root_shown}
use Rattle.soc_bus.specs.Tree.{part_built}
use Rattle.soc_core.proofs.BuiltLemmas.{bus_shaped, root_parts, few_parts}
use Rattle.soc_desc.proofs.Sound.{top_of_sound, device_kept, ram_made, regs_made}
use Rattle.soc_desc.proofs.Seen.{make_some, fields_seen, with_bus, on_bus-map}
use Rattle.soc_desc.specs.View as view
use Rattle.soc_desc.specs.View.{Make, RamOf, RegsOf, FifoOf, Device, octets_in, OnBus, OfDevice, OfBridge, device, interface}
use Rattle.sdb_build.specs.Sound.{IsSoundAt}
use Rattle.wb_device.specs.State.{DeviceState, on_bus}
use Rattle.wb_tree.specs.Leaves.{leaf_slave}

-- ---- one bus

contents_built : (ps : List Placement) → contents_in (map part_built ps) ≡ held_in ps ++ Nothing ∷ []
contents_built [] = refl
contents_built (p ∷ ps) = ap (λ cs. p.contents ++ cs) (contents_built ps) ∙ sym (append_assoc p.contents (held_in ps) (Nothing ∷ []))

pub children_built : (ps : List Placement) → map wb.child_of (map part_built ps) ≡ map child_placed ps
children_built [] = refl
children_built (p ∷ ps) = ap (λ cs. child_placed p ∷ cs) (children_built ps)

pub quiet_built : (ps : List Placement) → AllQuiet (map part_built ps)
quiet_built [] = tt
quiet_built (p ∷ ps) = (refl, quiet_built ps)

fits_both : (xs ys : List Placement) → AllFitIn W32 (map part_built xs) → AllFitIn W32 (map part_built ys) → AllFitIn W32 (map part_built (xs ++ ys))
fits_both [] ys h k = k
fits_both (x ∷ xs) ys h k = (h.0, fits_both xs ys h.1 k)

-- ---- the rules of a bus's fields

pub width_from : (b : BusDescription) → (bus_fields is_32) b ≡ true → (out-BusDescription b).width ≡ W32
width_from b_ fields_ =
    let b = out-BusDescription b_ in
    let fields = fold_out-BusDescription Bool Bool item_fields_layer (bus_fields_layer is_32) b_ in
    (bus_tests b.product b.width b.last b.sdb (map (item_fields is_32) b.items) (sym fields ∙ fields_)).width_is

rom_aligned : (b : BusDescription) → (bus_fields is_32) b ≡ true → (out-BusDescription b).sdb % 4 ≡ 0
rom_aligned b_ fields_ =
    let b = out-BusDescription b_ in
    let fields = fold_out-BusDescription Bool Bool item_fields_layer (bus_fields_layer is_32) b_ in
    (bus_tests b.product b.width b.last b.sdb (map (item_fields is_32) b.items) (sym fields ∙ fields_)).aligned

items_fields : (b : BusDescription) → (bus_fields is_32) b ≡ true → all_of (map (item_fields is_32) (out-BusDescription b).items) ≡ true
items_fields b_ fields_ =
    let b = out-BusDescription b_ in
    let fields = fold_out-BusDescription Bool Bool item_fields_layer (bus_fields_layer is_32) b_ in
    (bus_tests b.product b.width b.last b.sdb (map (item_fields is_32) b.items) (sym fields ∙ fields_)).each

-- ---- each item fits its bus

device_fits : (at octets : ℕ) (content : Content) (wait : ℕ) (stalls : Bool) → at % 4 ≡ 0 → 1 ≤ octets → size_of content ≡ octets
    → FitsIn W32 (record { first = at; last = at + octets - 1; slave = record { wiring = leaf W32 octets wait stalls; contents = content ∷ []; owed = [] } })
device_fits at octets content wait stalls aligned some size =
    leaf_fits (on_bus W32 content) wait stalls at (at + octets - 1) (record { wiring = leaf W32 octets wait stalls; contents = content ∷ []; owed = [] })
    (λ i. record { wiring = leaf W32 (sym size i) wait stalls; contents = content ∷ []; owed = [] }) aligned (omega (arith, some, size))

made_fits : (d : Device) → (is_product d.product && is_in (address 4) d.at && is_make d.make && is_interface d.interface) ≡ true → FitsIn W32 (part_built (device_on d W32))
made_fits d h =
    let kept = device_kept d.product d.at d.make d.interface h in
    device_fits d.at (octets_in d.make) (built d.make) (path_wait d.interface.port d.interface.wait) (port_stalls d.interface.port) kept.aligned (make_some d.make kept.made) (built_size d.make kept.made)

bus_takes : (width : Width) (children : List Child) (adr first last sel : ℕ) → width ≡ W32 → first % 4 ≡ 0 → (adr % 4 == 0) && nat_lt sel 16 ≡ true → (nat_le first adr && nat_le adr last) ≡ true
    → ((adr - first) % 4 == 0) && nat_lt sel 16 ≡ true
bus_takes width children adr first last sel w aligned t c = takes_lower adr first last sel aligned c t
  where
    takes_lower : (adr first last sel : ℕ) → first % 4 ≡ 0 → (nat_le first adr && nat_le adr last) ≡ true → (adr % 4 == 0) && nat_lt sel 16 ≡ true → ((adr - first) % 4 == 0) && nat_lt sel 16 ≡ true
    takes_lower adr first last sel f c t =
        let a : adr % 4 ≡ 0 = grind (arith, t) in
        let s : nat_lt sel 16 ≡ true = grind (arith, t) in
        let g : first ≤ adr = grind (arith, c) in
        let e : (adr - first) % 4 ≡ 0 = omega arith in
        rw (e, s) refl

bridge_takes : (children : List Child) (first last : ℕ) (r : Request) → first % 4 ≡ 0 → (nat_le first r.adr && nat_le r.adr last) ≡ true → (r.adr % 4 == 0) && nat_lt r.sel 16 ≡ true
    → (bus W32 children).accepts (less first r) ≡ true
unfolding bus
bridge_takes children first last r aligned c t = bus_takes W32 children r.adr first last r.sel refl aligned t c

bridge_fits : (at : ℕ) (b : BusDescription) → at % 4 ≡ 0 → (bus_fields is_32) b ≡ true → FitsIn W32 (part_built (bridge_at at (bus_parts b)))
bridge_fits at b aligned fields =
    let shape = bus_shaped b in
    record {
      shaped = record { all = shape.count; within = λ r t. shape.shaped.goes r; queues = shape.shaped.queues; owing = tt };
      takes = λ r c t.
          subst (λ (x : BusParts). x.wiring.accepts (less at r) ≡ true) (sym (root_parts b))
          (subst (λ w. (bus w (map child_placed (parts_of (root_shown b)))).accepts (less at r) ≡ true) (sym (width_from b fields))
          (bridge_takes (map child_placed (parts_of (root_shown b))) at (at + (bus_parts b).last) r aligned c t));
    }

abbrev FitsItem : ItemDescription → Type 0
FitsItem item = (item_fields is_32) item ≡ true → AllFitIn W32 (map part_built ((item_parts item).parts W32))

abbrev FitItem : Type 0
FitItem = (item : ItemDescription) × FitsItem item

abbrev AnyBus : Type 0
AnyBus = (b : BusDescription) × Unit {0}

fits_as : (item : ItemDescription) (parts : ItemParts) (fields : Bool) → item_parts item ≡ parts → (item_fields is_32) item ≡ fields → (fields ≡ true → AllFitIn W32 (map part_built (parts.parts W32))) → FitsItem item
fits_as item parts fields same same_f fit h = subst (λ (x : ItemParts). AllFitIn W32 (map part_built (x.parts W32))) (sym same) (fit (sym same_f ∙ h))

fits_step : (y : ItemDescription-F FitItem AnyBus) → FitsItem (roll-ItemDescription (map-ItemDescription FitItem AnyBus ItemDescription BusDescription (λ e. e.0) (λ e. e.0) y))
fits_step (Ram p at size port wait class major minor) =
    let x : ItemDescription-F ItemDescription BusDescription = Ram p at size port wait class major minor in
    fits_as (roll-ItemDescription x) _ _ (fold-roll-ItemDescription ItemParts BusParts item_parts_layer bus_parts_layer x) (fold-roll-ItemDescription Bool Bool item_fields_layer (bus_fields_layer is_32) x)
    (λ h. (made_fits (device p at (RamOf size) (interface port wait class major minor)) h, tt))
fits_step (Regs p at words port wait class major minor) =
    let x : ItemDescription-F ItemDescription BusDescription = Regs p at words port wait class major minor in
    fits_as (roll-ItemDescription x) _ _ (fold-roll-ItemDescription ItemParts BusParts item_parts_layer bus_parts_layer x) (fold-roll-ItemDescription Bool Bool item_fields_layer (bus_fields_layer is_32) x)
    (λ h. (made_fits (device p at (RegsOf words) (interface port wait class major minor)) h, tt))
fits_step (Fifo p at depth port wait class major minor) =
    let x : ItemDescription-F ItemDescription BusDescription = Fifo p at depth port wait class major minor in
    fits_as (roll-ItemDescription x) _ _ (fold-roll-ItemDescription ItemParts BusParts item_parts_layer bus_parts_layer x) (fold-roll-ItemDescription Bool Bool item_fields_layer (bus_fields_layer is_32) x)
    (λ h. (made_fits (device p at (FifoOf depth) (interface port wait class major minor)) h, tt))
fits_step (Bridge p at b) =
    let x : ItemDescription-F ItemDescription BusDescription = Bridge p at b.0 in
    fits_as (roll-ItemDescription x) _ _ (fold-roll-ItemDescription ItemParts BusParts item_parts_layer bus_parts_layer x) (fold-roll-ItemDescription Bool Bool item_fields_layer (bus_fields_layer is_32) x)
    (λ h. let parts = and_parts (is_product p && is_in (address 4) at) ((bus_fields is_32) b.0) h in
    (bridge_fits at b.0 (in_range (address 4) at (and_parts (is_product p) (is_in (address 4) at) parts.0).1).2 parts.1, tt))
fits_step (Integration p) =
    let x : ItemDescription-F ItemDescription BusDescription = Integration p in
    fits_as (roll-ItemDescription x) _ _ (fold-roll-ItemDescription ItemParts BusParts item_parts_layer bus_parts_layer x) (fold-roll-ItemDescription Bool Bool item_fields_layer (bus_fields_layer is_32) x) (λ h. tt)
fits_step Empty =
    let x : ItemDescription-F ItemDescription BusDescription = Empty in
    fits_as (roll-ItemDescription x) _ _ (fold-roll-ItemDescription ItemParts BusParts item_parts_layer bus_parts_layer x) (fold-roll-ItemDescription Bool Bool item_fields_layer (bus_fields_layer is_32) x) (λ h. tt)

item_fits : (item : ItemDescription) → FitsItem item
item_fits = ind-ItemDescription FitsItem (λ b. Unit {0})
    (λ x y is. subst (λ z. FitsItem (roll-ItemDescription z)) is (fits_step y))
    (λ x y is. tt)

items_fit : (items : List ItemDescription) → all_of (map (item_fields is_32) items) ≡ true → AllFitIn W32 (map part_built (parts_in W32 (map item_parts items)))
items_fit [] h = tt
items_fit (item ∷ items) h =
    let both = and_parts ((item_fields is_32) item) (all_of (map (item_fields is_32) items)) h in
    fits_both ((item_parts item).parts W32) (parts_in W32 (map item_parts items)) (item_fits item both.0) (items_fit items both.1)

-- ---- a bus from its parts

module _ (b : BusDescription) (sound : IsSoundBus b) where
  abbrev items : List ItemDescription
  items = (out-BusDescription b).items

  abbrev sdb : ℕ
  sdb = (out-BusDescription b).sdb

  again : bus_again (root_shown b) ≡ b
  again = ap (λ (x : BusParts). x.bus) (sym (root_parts b)) ∙ (bus_good b).again

  root_is : parts_of (root_shown b) ≡ parts_in W32 (map item_parts items) ++ rom_at sdb (length (map item_parts items)) (image_of b) W32 ∷ []
  root_is =
      ap (λ w. parts_in w (map item_parts items) ++ rom_at sdb (length (map item_parts items)) (image_of (bus_again (root_shown b))) w ∷ []) (width_from b sound.fields)
      ∙ ap (λ x. parts_in W32 (map item_parts items) ++ rom_at sdb (length (map item_parts items)) (image_of x) W32 ∷ []) again

  image_long : length (image_of b) ≡ 64 * (length (map item_parts items) + 1)
  image_long = let n = length-map items item_parts in omega (arith, length-image_of is_32 b sound.fields, n)

  rom_is : (octets : List ℕ) → octets ≡ image_of b
      → (let rom : wb.Part = record { first = sdb; last = sdb + length octets - 1; slave = record { wiring = leaf W32 (length octets) 0 false; contents = Rom octets ∷ []; owed = [] } } in rom)
      ≡ part_built (rom_at sdb (length (map item_parts items)) (image_of b) W32)
  rom_is octets is =
      let n : length octets ≡ 64 * (length (map item_parts items) + 1) = ap (λ (xs : List ℕ). length xs) is ∙ image_long in
      λ i. record { first = sdb; last = sdb + n i - 1; slave = record { wiring = leaf W32 (n i) 0 false; contents = Rom (is i) ∷ []; owed = [] } }

  -- the parts of its items, then its ROM
  pub parts_are : (octets : List ℕ) (first last : List wb.Part) → octets ≡ image_of b → first ≡ map part_built (parts_in W32 (map item_parts items))
      → last ≡ first ++ record { first = sdb; last = sdb + length octets - 1; slave = record { wiring = leaf W32 (length octets) 0 false; contents = Rom octets ∷ []; owed = [] } } ∷ []
      → last ≡ map part_built (parts_of (root_shown b))
  parts_are octets first last is of_items with_rom =
      with_rom ∙ ap (λ xs. xs ++ record { first = sdb; last = sdb + length octets - 1; slave = record { wiring = leaf W32 (length octets) 0 false; contents = Rom octets ∷ []; owed = [] } } ∷ []) of_items
      ∙ ap (λ x. map part_built (parts_in W32 (map item_parts items)) ++ x ∷ []) (rom_is octets is)
      ∙ sym (map-append part_built (parts_in W32 (map item_parts items)) (rom_at sdb (length (map item_parts items)) (image_of b) W32 ∷ []))
      ∙ ap (map part_built) (sym root_is)

  pub root_fits : AllFitIn W32 (map part_built (parts_of (root_shown b)))
  root_fits =
      subst (λ ps. AllFitIn W32 (map part_built ps)) (sym root_is)
      (fits_both (parts_in W32 (map item_parts items)) (rom_at sdb (length (map item_parts items)) (image_of b) W32 ∷ []) (items_fit items (items_fields b sound.fields))
      (device_fits sdb (64 * (length (map item_parts items) + 1)) (Rom (image_of b)) 0 false (rom_aligned b sound.fields) (omega arith) image_long, tt))

  root_layer : (let s : Slave = record { wiring = bus W32 (map child_placed (parts_of (root_shown b))); contents = held_in (parts_of (root_shown b)) ++ Nothing ∷ []; owed = [] } in s)
      ≡ record { wiring = (bus_parts b).wiring; contents = (bus_parts b).contents; owed = [] }
  root_layer =
      ap (λ w. (let s : Slave = record { wiring = bus w (map child_placed (parts_of (root_shown b))); contents = held_in (parts_of (root_shown b)) ++ Nothing ∷ []; owed = [] } in s)) (sym (width_from b sound.fields))
      ∙ ap (λ (x : BusParts). (let s : Slave = record { wiring = x.wiring; contents = x.contents; owed = [] } in s)) (sym (root_parts b))

  -- as a slave
  pub bus_is : (ps : List wb.Part) → ps ≡ map part_built (parts_of (root_shown b)) → bus_slave W32 ps Nobody ≡ record { wiring = (bus_parts b).wiring; contents = (bus_parts b).contents; owed = [] }
  bus_is ps are =
      ap (λ xs. bus_slave W32 xs Nobody) are
      ∙ (λ i. record { wiring = bus W32 (children_built (parts_of (root_shown b)) i); contents = contents_built (parts_of (root_shown b)) i; owed = [] })
      ∙ root_layer

  pub wiring_is : (children : List Child) → children ≡ map child_placed (parts_of (root_shown b)) → bus W32 children ≡ (bus_parts b).wiring
  wiring_is children are = ap (bus W32) are ∙ ap (λ (s : Slave). s.wiring) root_layer

  pub contents_is : contents_in (map part_built (parts_of (root_shown b))) ≡ (bus_parts b).contents
  contents_is = contents_built (parts_of (root_shown b)) ∙ ap (λ (s : Slave). s.contents) root_layer

-- one more item
pub parts_more : (x : ItemParts) (xs : List ItemParts) (old new total : List wb.Part) → new ≡ old ++ map part_built (x.parts W32)
    → old ++ map part_built (parts_in W32 (x ∷ xs)) ≡ total → new ++ map part_built (parts_in W32 xs) ≡ total
parts_more x xs old new total one all =
    ap (λ ps. ps ++ map part_built (parts_in W32 xs)) one ∙ append_assoc old (map part_built (x.parts W32)) (map part_built (parts_in W32 xs))
    ∙ ap (λ ps. old ++ ps) (sym (map-append part_built (x.parts W32) (parts_in W32 xs))) ∙ all

pub if_ok : {A E : Type 0} {P Q : A → Type 0} (r : Result A E) → ((x : A) → P x → Q x) → IfOk r P → IfOk r Q
if_ok (Ok x) f p = f x p
if_ok (Err e) f p = tt

pub sound_more : (parts : List TreePart) (p : TreePart) → AllSound parts → IsSoundPart p → AllSound (parts ++ p ∷ [])
sound_more [] p h k = (k, tt)
sound_more (x ∷ parts) p h k = (h.0, sound_more parts p h.1 k)

pub last_below : (bus : BusDescription) → IsSoundBus bus → (out-BusDescription bus).last < 2 ^ 64
last_below bus sound =
    let b = out-BusDescription bus in
    let counted = is_product b.product && is_32 b.width && is_in (last_address 4) b.last && is_in (address 4) b.sdb && nat_le (length (map (item_fields is_32) b.items)) 64 in
    let p4 = (and_parts counted (all_of (map (item_fields is_32) b.items)) (own_fields is_32 bus sound.fields)).0 in
    let p3 = (and_parts (is_product b.product && is_32 b.width && is_in (last_address 4) b.last && is_in (address 4) b.sdb) (nat_le (length (map (item_fields is_32) b.items)) 64) p4).0 in
    let p2 = (and_parts (is_product b.product && is_32 b.width && is_in (last_address 4) b.last) (is_in (address 4) b.sdb) p3).0 in
    let p1 = (and_parts (is_product b.product && is_32 b.width) (is_in (last_address 4) b.last) p2).1 in
    grind (arith, nat_tests, p1)

-- ---- what an item is on its bus

-- as it is seen
pub item_seen : (item : ItemDescription) (seen : OnBus BusDescription) → seen ≡ view.on_bus (out-ItemDescription item)
    → map part_built ((item_parts item).parts W32) ≡ map part_built (parts_on (with_bus bus_parts seen) W32)
item_seen item seen is =
    ap (λ (x : ItemParts). map part_built (x.parts W32)) (fold_out-ItemDescription ItemParts BusParts item_parts_layer bus_parts_layer item)
    ∙ ap (λ (v : OnBus BusParts). map part_built (parts_on v W32)) (on_bus-map item_parts bus_parts (out-ItemDescription item) ∙ ap (with_bus bus_parts) (sym is))

-- a device waits at most 15 clocks
pub device_waits : (item : ItemDescription) (d : Device) → OfDevice d ≡ view.on_bus (out-ItemDescription item) → IsSoundAt is_32 0 item → d.interface.wait ≤ 15
device_waits item d is h = (device_kept d.product d.at d.make d.interface (sym (fields_seen item (OfDevice d) is is_32) ∙ h.fields)).waits

pub bus_last : (bus : BusDescription) → (bus_parts bus).last ≡ (out-BusDescription bus).last
bus_last bus = ap (λ (b : BusParts). b.last) (root_parts bus)

-- a device takes few octets
pub make_small : (m : Make) → is_make m ≡ true → octets_in m < 2 ^ 64
make_small (RamOf size) h = let r = ram_made size h in omega (arith, r.1)
make_small (RegsOf words) h = let r = regs_made words h in omega (arith, r.1)
make_small (FifoOf depth) h = omega arith

-- a device on its bus, as it is built and joined
pub device_listed : (d : Device) (octets : ℕ) (device : DeviceState) (slave : Slave) (part : wb.Part) → is_make d.make ≡ true → octets ≡ octets_in d.make
    → device ≡ on_bus W32 (built d.make) → slave ≡ leaf_slave device (path_wait d.interface.port d.interface.wait) (port_stalls d.interface.port)
    → part ≡ record { first = d.at; last = d.at + (octets - 1); slave = slave } → part ∷ [] ≡ map part_built (device_on d W32 ∷ [])
device_listed d octets device slave part is_made count is_device is_slave is_part =
    let last : d.at + (octets - 1) ≡ d.at + octets_in d.make - 1 = omega (arith, count, make_some d.make is_made) in
    let whole : slave ≡ record { wiring = leaf W32 (octets_in d.make) (path_wait d.interface.port d.interface.wait) (port_stalls d.interface.port); contents = built d.make ∷ []; owed = [] } =
    is_slave ∙ ap (λ (s : DeviceState). leaf_slave s (path_wait d.interface.port d.interface.wait) (port_stalls d.interface.port)) is_device
    ∙ (λ i. record { wiring = leaf W32 (built_size d.make is_made i) (path_wait d.interface.port d.interface.wait) (port_stalls d.interface.port); contents = built d.make ∷ []; owed = [] }) in
    ap (λ (p : wb.Part). p ∷ []) (is_part ∙ (λ i. record { first = d.at; last = last i; slave = whole i }))

pub bridge_listed : (bus : BusDescription) (at last : ℕ) (slave : Slave) (part : wb.Part) → last ≡ (out-BusDescription bus).last
    → slave ≡ record { wiring = (bus_parts bus).wiring; contents = (bus_parts bus).contents; owed = [] }
    → part ≡ record { first = at; last = at + last; slave = slave } → part ∷ [] ≡ map part_built (bridge_at at (bus_parts bus) ∷ [])
bridge_listed bus at last slave part ends is_slave is_part =
    let same = ends ∙ sym (bus_last bus) in
    ap (λ (p : wb.Part). p ∷ []) (is_part ∙ (λ i. record { first = at; last = at + same i; slave = is_slave i }))

-- ---- the parts of a bus

pub few_roots : (b : BusDescription) (sound : IsSoundBus b) (ps : List wb.Part) → ps ≡ map part_built (parts_of (root_shown b)) → length ps ≤ 128
few_roots b sound ps are =
    let n : length ps ≡ length (parts_of (root_shown b)) = ap (λ (xs : List wb.Part). length xs) are ∙ length-map (parts_of (root_shown b)) part_built in
    let m : length (parts_of (root_shown b)) ≡ length (parts_in W32 (map item_parts (out-BusDescription b).items) ++ rom_at (out-BusDescription b).sdb (length (map item_parts (out-BusDescription b).items)) (image_of b) W32 ∷ []) =
    ap (λ (xs : List Placement). length xs) (root_is b sound) in
    let k = length-append (parts_in W32 (map item_parts (out-BusDescription b).items)) (rom_at (out-BusDescription b).sdb (length (map item_parts (out-BusDescription b).items)) (image_of b) W32 ∷ []) in
    let few = few_parts W32 (out-BusDescription b).items in
    let count = (top_of_sound b sound).count in
    omega (arith, n, m, k, few, count)
