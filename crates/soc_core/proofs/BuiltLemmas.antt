-- The numbers of a described bus fit one another.
use Rattle.std.proofs.Common.{◌≡◌, inl, inr, ℕ, zero, suc, ◌+◌, ◌-◌, ◌*◌, ◌<◌, ◌≤◌, nat_lt, List, [], ◌∷◌, ◌++◌, length, map, Bool, true, false, cond, Option, Some, None, refl, ap, sym, ◌∙◌, subst, arith, append_assoc}
use Rattle.std.proofs.lemmas.Bool.{cases_eq, cases_lt, lt-ltb, le-ltb, cond-true, cond-false}
use Rattle.std.proofs.lemmas.List.{length-append, get_or-append_right}
use Rattle.eb_base.specs.declared.width.Width.{Width}
use Rattle.eb_base.specs.declared.name.Product.{Product}
use Rattle.soc_desc.specs.declared.description.Description.{Description}
use Rattle.soc_desc.specs.declared.description.BusDescription.{BusDescription}
use Rattle.soc_desc.specs.declared.description.ItemDescription.{ItemDescription, map-ItemDescription}
use Rattle.soc_desc.specs.declared.description.PortWord.{PortWord}
use Rattle.soc_desc.specs.declared.description.ItemDescription.TheOpen.{ItemDescription-F, BusDescription-F, Ram, Regs, Fifo, Bridge, Integration, Empty}
use Rattle.soc_desc.specs.declared.description.ItemDescription.TheViews.{roll-ItemDescription, roll-BusDescription, out-BusDescription}
use Rattle.soc_desc.specs.declared.description.ItemDescription.TheFolds.{fold-roll-ItemDescription, fold-roll-BusDescription, fold_out-BusDescription, ind-ItemDescription}
use Rattle.soc_desc.specs.declared.geometry.Extent.{Extent}
use Rattle.soc_desc.specs.Geometry.{octets_at, rom_extent}
use Rattle.soc_desc.specs.View.{Make, RamOf, RegsOf, FifoOf, Device, octets_in}
use Rattle.wb_signals.specs.Request.{Request}
use Rattle.wb_signals.specs.Content.{Content, Nothing, Rom}
use Rattle.wb_signals.specs.Wiring.{Wiring}
use Rattle.wb_signals.specs.Bus.{Child, covers, inside, farther, places_in, route_in, queue_in, bus, leaf}
use Rattle.wb_signals.specs.Slave.{queue_to}
use Rattle.soc_machine.specs.Described.{Placement, ItemParts, BusParts, item_parts, bus_parts, item_parts_layer, bus_parts_layer, parts_in, parts_of, bus_again, child_placed, held_in, rom_at, device_part, device_on, path_wait, port_stalls, built, described_wiring}
use Rattle.sdb_build.specs.Tables.{image_of}
use Rattle.soc_core.specs.Fabric.{IsFabric, held_at}
use Rattle.soc_core.specs.Built.{longest_of, root_shown, top_slaves, fabric_of}
use Rattle.soc_core.proofs.Numbers.{next, target_at, slave_number, target_is, slave_is, slave_below}

-- ---- the children of a bus

-- each operation goes to a place that there is, and so does each place to its queue
pub record IsShaped (w : Wiring) : Type 0 where
  pub goes : (r : Request) → (w.route r).place < w.places
  pub queues : (place : ℕ) → place < w.places → w.queue place < w.places

abbrev pub AllShaped : List Child → Type 0
AllShaped [] = Unit {0}
AllShaped (child ∷ children) = IsShaped child.wiring × AllShaped children

queue_by : (b : Bool) (place n own more total : ℕ) → nat_lt place n ≡ b → (place < n → own < n) → (n ≤ place → more < total) → cond b own (n + more) < n + total
queue_by true place n own more total e h g = let l : place < n = grind (arith, e) in omega (arith, h l)
queue_by false place n own more total e h g = let l : n ≤ place = grind (arith, e) in omega (arith, g l)

queues_shaped : (children : List Child) → AllShaped children → (place : ℕ) → place < places_in children → queue_in children place < places_in children
queues_shaped [] all place h = h
queues_shaped (child ∷ children) all place h =
    let n = child.wiring.places in
    queue_by (nat_lt place n) place n (child.wiring.queue place) (queue_in children (place - n)) (places_in children) refl
    (all.0.queues place) (λ l. queues_shaped children all.1 (place - n) (omega (arith, h, l)))

module _ (width : Width) where
  leads_by : (b : Bool) (child : Child) (children : List Child) (r : Request) → IsShaped child.wiring
      → (route_in width children r).place < places_in children
      → (cond b (child.wiring.route (inside child r)) (farther child.wiring.places (route_in width children r))).place < child.wiring.places + places_in children
  leads_by true child children r one more = let e = one.goes (inside child r) in omega (arith, e)
  leads_by false child children r one more = omega (arith, more)

  pub leads_shaped : (children : List Child) → AllShaped children → (r : Request) → (route_in width children r).place < places_in children
  leads_shaped [] all r = omega arith
  leads_shaped (child ∷ children) all r = leads_by (covers child r.adr) child children r all.0 (leads_shaped children all.1 r)

  tops_by : (b : Bool) (child : Child) (children : List Child) (r : Request) → IsShaped child.wiring
      → slave_number children (route_in width children r).place ≡ target_at children r.adr
      → slave_number (child ∷ children) (cond b (child.wiring.route (inside child r)) (farther child.wiring.places (route_in width children r))).place
      ≡ cond b (Some 0) (next (target_at children r.adr))
  tops_by true child children r one more = cond-true _ _ _ (lt-ltb (child.wiring.route (inside child r)).place child.wiring.places (one.goes (inside child r)))
  tops_by false child children r one more =
      let past : nat_lt (child.wiring.places + (route_in width children r).place) child.wiring.places ≡ false = le-ltb _ child.wiring.places (omega arith) in
      let back : child.wiring.places + (route_in width children r).place - child.wiring.places ≡ (route_in width children r).place = omega arith in
      cond-false _ _ _ past ∙ ap (λ n. next (slave_number children n)) back ∙ ap next more

  pub tops_at : (children : List Child) → AllShaped children → (r : Request) → slave_number children (route_in width children r).place ≡ target_at children r.adr
  tops_at [] all r = refl
  tops_at (child ∷ children) all r = tops_by (covers child r.adr) child children r all.0 (tops_at children all.1 r)

next_none : (o : Option ℕ) → next o ≡ None → o ≡ None
next_none None is = refl
next_none (Some j) is = absurd (let never : Some (suc j) ≡ None = is in cc)

-- ---- the parts of a described bus

-- A part has a content for each place, and its operations go to places that there are.
pub record IsShapedPart (p : Placement) : Type 0 where
  pub count : length p.contents ≡ p.wiring.places
  pub shaped : IsShaped p.wiring

abbrev pub AllShapedParts : List Placement → Type 0
AllShapedParts [] = Unit {0}
AllShapedParts (p ∷ ps) = IsShapedPart p × AllShapedParts ps

shaped_children : (ps : List Placement) → AllShapedParts ps → AllShaped (map child_placed ps)
shaped_children [] all = tt
shaped_children (p ∷ ps) all = (all.0.shaped, shaped_children ps all.1)

pub nowhere_at : (ps : List Placement) → AllShapedParts ps → (place : ℕ) → slave_number (map child_placed ps) place ≡ None → held_at (held_in ps ++ Nothing ∷ []) place ≡ Nothing
nowhere_at [] all zero is = refl
nowhere_at [] all (suc place) is = refl
nowhere_at (p ∷ ps) all place is = elim (cases_lt place p.wiring.places) [
  | inl here ↦ absurd (let never : Some 0 ≡ None = sym (cond-true _ _ _ (lt-ltb place p.wiring.places here)) ∙ is in cc)
  | inr there ↦
      let none : slave_number (map child_placed ps) (place - p.wiring.places) ≡ None =
      next_none (slave_number (map child_placed ps) (place - p.wiring.places)) (sym (cond-false _ _ _ (le-ltb place p.wiring.places there)) ∙ is) in
      ap (λ cs. held_at cs place) (append_assoc p.contents (held_in ps) (Nothing ∷ []))
      ∙ get_or-append_right p.contents (held_in ps ++ Nothing ∷ []) p.wiring.places place Nothing all.0.count there
      ∙ nowhere_at ps all.1 (place - p.wiring.places) none
]

held_long : (ps : List Placement) → AllShapedParts ps → length (held_in ps ++ Nothing ∷ []) ≡ places_in (map child_placed ps)
held_long [] all = refl
held_long (p ∷ ps) all =
    omega (arith, length-append (p.contents ++ held_in ps) (Nothing ∷ []), length-append p.contents (held_in ps), length-append (held_in ps) (Nothing ∷ []), all.0.count, held_long ps all.1)

shaped_both : (ps qs : List Placement) → AllShapedParts ps → AllShapedParts qs → AllShapedParts (ps ++ qs)
shaped_both [] qs h k = k
shaped_both (p ∷ ps) qs h k = (h.0, shaped_both ps qs h.1 k)

-- a device by itself
device_shaped : (extent : Extent) (width : Width) (octets wait : ℕ) (stalls : Bool) (content : Content) → IsShapedPart (device_part extent (leaf width octets wait stalls) content)
device_shaped extent width octets wait stalls content =
    record { count = refl; shaped = record { goes = λ r. omega arith; queues = λ place within. omega (arith, within) } }

on_shaped : (d : Device) (width : Width) → IsShapedPart (device_on d width)
on_shaped d width =
    device_shaped (octets_at d.at (octets_in d.make)) width (octets_in d.make) (path_wait d.interface.port d.interface.wait) (port_stalls d.interface.port) (built d.make)

rom_shaped : (sdb items : ℕ) (octets : List ℕ) (width : Width) → IsShapedPart (rom_at sdb items octets width)
rom_shaped sdb items octets width = device_shaped (rom_extent sdb items) width (64 * (items + 1)) 0 false (Rom octets)

-- ---- every item and every bus

pub record IsShapedBus (b : BusParts) : Type 0 where
  pub count : length b.contents ≡ b.wiring.places
  pub shaped : IsShaped b.wiring

abbrev IsShapedItem : ItemDescription → Type 0
IsShapedItem item = (width : Width) → AllShapedParts ((item_parts item).parts width)

abbrev IsShapedBusOf : BusDescription → Type 0
IsShapedBusOf b = IsShapedBus (bus_parts b)

abbrev GoodItem : Type 0
GoodItem = (item : ItemDescription) × IsShapedItem item

abbrev GoodBus : Type 0
GoodBus = (b : BusDescription) × IsShapedBusOf b

shaped_as : (item : ItemDescription) (parts : ItemParts) → item_parts item ≡ parts → ((width : Width) → AllShapedParts (parts.parts width)) → IsShapedItem item
shaped_as item parts same shaped width = subst (λ (x : ItemParts). AllShapedParts (x.parts width)) (sym same) (shaped width)

abbrev own : Product → ℕ → Make → PortWord → ℕ → ℕ → ℕ → ℕ → Device
own p at make port wait class major minor =
    record { product = p; at = at; make = make; interface = record { port = port; wait = wait; class = class; major = major; minor = minor } }

item_step : (y : ItemDescription-F GoodItem GoodBus) → IsShapedItem (roll-ItemDescription (map-ItemDescription GoodItem GoodBus ItemDescription BusDescription (λ e. e.0) (λ e. e.0) y))
item_step (Ram p at size port wait class major minor) =
    let x : ItemDescription-F ItemDescription BusDescription = Ram p at size port wait class major minor in
    shaped_as (roll-ItemDescription x) _ (fold-roll-ItemDescription ItemParts BusParts item_parts_layer bus_parts_layer x) (λ width. (on_shaped (own p at (RamOf size) port wait class major minor) width, tt))
item_step (Regs p at words port wait class major minor) =
    let x : ItemDescription-F ItemDescription BusDescription = Regs p at words port wait class major minor in
    shaped_as (roll-ItemDescription x) _ (fold-roll-ItemDescription ItemParts BusParts item_parts_layer bus_parts_layer x) (λ width. (on_shaped (own p at (RegsOf words) port wait class major minor) width, tt))
item_step (Fifo p at depth port wait class major minor) =
    let x : ItemDescription-F ItemDescription BusDescription = Fifo p at depth port wait class major minor in
    shaped_as (roll-ItemDescription x) _ (fold-roll-ItemDescription ItemParts BusParts item_parts_layer bus_parts_layer x) (λ width. (on_shaped (own p at (FifoOf depth) port wait class major minor) width, tt))
item_step (Bridge p at b) =
    let x : ItemDescription-F ItemDescription BusDescription = Bridge p at b.0 in
    shaped_as (roll-ItemDescription x) _ (fold-roll-ItemDescription ItemParts BusParts item_parts_layer bus_parts_layer x)
    (λ width. (record { count = b.1.count; shaped = b.1.shaped }, tt))
item_step (Integration p) =
    let x : ItemDescription-F ItemDescription BusDescription = Integration p in
    shaped_as (roll-ItemDescription x) _ (fold-roll-ItemDescription ItemParts BusParts item_parts_layer bus_parts_layer x) (λ width. tt)
item_step Empty =
    let x : ItemDescription-F ItemDescription BusDescription = Empty in
    shaped_as (roll-ItemDescription x) _ (fold-roll-ItemDescription ItemParts BusParts item_parts_layer bus_parts_layer x) (λ width. tt)

items_shaped : (width : Width) (es : List GoodItem) → AllShapedParts (parts_in width (map item_parts (map (λ e. e.0) es)))
items_shaped width [] = tt
items_shaped width (e ∷ es) = shaped_both ((item_parts e.0).parts width) (parts_in width (map item_parts (map (λ e. e.0) es))) (e.1 width) (items_shaped width es)

with_rom : (b : BusDescription-F ItemParts BusParts) → AllShapedParts (parts_in b.width b.items) → AllShapedParts (parts_of b)
with_rom b all = shaped_both (parts_in b.width b.items) (rom_at b.sdb (length b.items) (image_of (bus_again b)) b.width ∷ []) all (rom_shaped b.sdb (length b.items) (image_of (bus_again b)) b.width, tt)

layer_shaped : (b : BusDescription-F ItemParts BusParts) → AllShapedParts (parts_of b) → IsShapedBus (bus_parts_layer b)
unfolding bus
layer_shaped b all = record {
  count = held_long (parts_of b) all;
  shaped = record {
    goes = leads_shaped b.width (map child_placed (parts_of b)) (shaped_children (parts_of b) all);
    queues = queues_shaped (map child_placed (parts_of b)) (shaped_children (parts_of b) all);
  };
}

bus_step : (p : Product) (width : Width) (last sdb : ℕ) (es : List GoodItem)
    → IsShapedBusOf (roll-BusDescription (record { product = p; width = width; last = last; sdb = sdb; items = map (λ e. e.0) es }))
bus_step p width last sdb es =
    let x : BusDescription-F ItemDescription BusDescription = record { product = p; width = width; last = last; sdb = sdb; items = map (λ e. e.0) es } in
    let seen : BusDescription-F ItemParts BusParts = record { product = p; width = width; last = last; sdb = sdb; items = map item_parts (map (λ e. e.0) es) } in
    subst (λ (b : BusParts). IsShapedBus b) (sym (fold-roll-BusDescription ItemParts BusParts item_parts_layer bus_parts_layer x))
    (layer_shaped seen (with_rom seen (items_shaped width es)))

item_shaped : (item : ItemDescription) → IsShapedItem item
item_shaped = ind-ItemDescription IsShapedItem IsShapedBusOf
    (λ x y is. subst (λ z. IsShapedItem (roll-ItemDescription z)) is (item_step y))
    (λ x y is. subst (λ z. IsShapedBusOf (roll-BusDescription z)) is (bus_step y.product y.width y.last y.sdb y.items))

all_shaped : (width : Width) (items : List ItemDescription) → AllShapedParts (parts_in width (map item_parts items))
all_shaped width [] = tt
all_shaped width (item ∷ items) = shaped_both ((item_parts item).parts width) (parts_in width (map item_parts items)) (item_shaped item width) (all_shaped width items)

root_parts_shaped : (bus : BusDescription) → AllShapedParts (parts_of (root_shown bus))
root_parts_shaped bus = with_rom (root_shown bus) (all_shaped (root_shown bus).width (out-BusDescription bus).items)

pub root_parts : (bus : BusDescription) → bus_parts bus ≡ bus_parts_layer (root_shown bus)
root_parts bus = fold_out-BusDescription ItemParts BusParts item_parts_layer bus_parts_layer bus

pub bus_shaped : (b : BusDescription) → IsShapedBus (bus_parts b)
bus_shaped b = subst (λ (x : BusParts). IsShapedBus x) (sym (root_parts b)) (layer_shaped (root_shown b) (root_parts_shaped b))

longest_most : (wait : ℕ → ℕ) (n place : ℕ) → place < n → wait place ≤ longest_of wait n
longest_most wait zero place within = absurd (let never : ⊥ = omega (arith, within) in never)
longest_most wait (suc n) place within = elim (cases_eq place n) [
  | inl last ↦ let same : wait place ≡ wait n = ap wait last in omega (arith, same)
  | inr other ↦ let more = longest_most wait n place (omega (arith, within, other)) in omega (arith, more)
]

-- ---- the whole

layer_tops : (b : BusDescription-F ItemParts BusParts) → AllShapedParts (parts_of b) → (r : Request)
    → slave_number (map child_placed (parts_of b)) ((bus_parts_layer b).wiring.route r).place ≡ target_at (map child_placed (parts_of b)) r.adr
unfolding bus
layer_tops b all r = tops_at b.width (map child_placed (parts_of b)) (shaped_children (parts_of b) all) r

pub described_fabric : (d : Description) → 1 ≤ d.masters → 1 ≤ d.depth → IsFabric (fabric_of d)
described_fabric d masters depth =
    let parts = root_parts d.bus in
    let all = root_parts_shaped d.bus in
    record {
      tops = λ r.
          slave_is (top_slaves d) ((described_wiring d).route r).place
          ∙ subst (λ (b : BusParts). slave_number (top_slaves d) (b.wiring.route r).place ≡ target_at (top_slaves d) r.adr) (sym parts) (layer_tops (root_shown d.bus) all r)
          ∙ sym (target_is (top_slaves d) r.adr);
      below = slave_below (top_slaves d);
      nowhere = λ place none.
          subst (λ (b : BusParts). held_at b.contents place ≡ Nothing) (sym parts)
          (nowhere_at (parts_of (root_shown d.bus)) all place (sym (slave_is (top_slaves d) place) ∙ none));
      waits = λ r.
          let shape = (layer_shaped (root_shown d.bus) all).shaped in
          longest_most (described_wiring d).wait (described_wiring d).places (queue_to (described_wiring d) r)
          (subst (λ (b : BusParts). queue_to b.wiring r < b.wiring.places) (sym parts) (shape.queues ((bus_parts_layer (root_shown d.bus)).wiring.route r).place (shape.goes r)));
      some_depth = depth;
      some_port = masters;
    }

-- ---- how many parts an item is

abbrev IsFewItem : ItemDescription → Type 0
IsFewItem item = (width : Width) → length ((item_parts item).parts width) ≤ 1

abbrev FewItem : Type 0
FewItem = (item : ItemDescription) × IsFewItem item

abbrev AnyBus : Type 0
AnyBus = (b : BusDescription) × Unit {0}

few_as : (item : ItemDescription) (parts : ItemParts) → item_parts item ≡ parts → ((width : Width) → length (parts.parts width) ≤ 1) → IsFewItem item
few_as item parts same few width = subst (λ (x : ItemParts). length (x.parts width) ≤ 1) (sym same) (few width)

few_step : (y : ItemDescription-F FewItem AnyBus) → IsFewItem (roll-ItemDescription (map-ItemDescription FewItem AnyBus ItemDescription BusDescription (λ e. e.0) (λ e. e.0) y))
few_step (Ram p at size port wait class major minor) =
    let x : ItemDescription-F ItemDescription BusDescription = Ram p at size port wait class major minor in
    few_as (roll-ItemDescription x) _ (fold-roll-ItemDescription ItemParts BusParts item_parts_layer bus_parts_layer x) (λ width. omega arith)
few_step (Regs p at words port wait class major minor) =
    let x : ItemDescription-F ItemDescription BusDescription = Regs p at words port wait class major minor in
    few_as (roll-ItemDescription x) _ (fold-roll-ItemDescription ItemParts BusParts item_parts_layer bus_parts_layer x) (λ width. omega arith)
few_step (Fifo p at depth port wait class major minor) =
    let x : ItemDescription-F ItemDescription BusDescription = Fifo p at depth port wait class major minor in
    few_as (roll-ItemDescription x) _ (fold-roll-ItemDescription ItemParts BusParts item_parts_layer bus_parts_layer x) (λ width. omega arith)
few_step (Bridge p at b) =
    let x : ItemDescription-F ItemDescription BusDescription = Bridge p at b.0 in
    few_as (roll-ItemDescription x) _ (fold-roll-ItemDescription ItemParts BusParts item_parts_layer bus_parts_layer x) (λ width. omega arith)
few_step (Integration p) =
    let x : ItemDescription-F ItemDescription BusDescription = Integration p in
    few_as (roll-ItemDescription x) _ (fold-roll-ItemDescription ItemParts BusParts item_parts_layer bus_parts_layer x) (λ width. omega arith)
few_step Empty =
    let x : ItemDescription-F ItemDescription BusDescription = Empty in
    few_as (roll-ItemDescription x) _ (fold-roll-ItemDescription ItemParts BusParts item_parts_layer bus_parts_layer x) (λ width. omega arith)

few_item : (item : ItemDescription) → IsFewItem item
few_item = ind-ItemDescription IsFewItem (λ b. Unit {0})
    (λ x y is. subst (λ z. IsFewItem (roll-ItemDescription z)) is (few_step y))
    (λ x y is. tt)

pub few_parts : (width : Width) (items : List ItemDescription) → length (parts_in width (map item_parts items)) ≤ length items
few_parts width [] = omega arith
few_parts width (item ∷ items) =
    let one = few_item item width in
    let more = few_parts width items in
    omega (arith, one, more, length-append ((item_parts item).parts width) (parts_in width (map item_parts items)))
