-- On the bus of a description each device and each miss is its own queue.
use Rattle.std.proofs.Common.{◌≡◌, ℕ, ◌+◌, ◌-◌, ◌*◌, ◌<◌, ◌≤◌, nat_lt, List, [], ◌∷◌, ◌++◌, length, map, Bool, true, false, cond, refl, sym, subst, arith}
use Rattle.eb_base.specs.declared.width.Width.{Width}
use Rattle.eb_base.specs.declared.name.Product.{Product}
use Rattle.soc_desc.specs.declared.description.BusDescription.{BusDescription}
use Rattle.soc_desc.specs.declared.description.ItemDescription.{ItemDescription, map-ItemDescription}
use Rattle.soc_desc.specs.declared.description.PortWord.{PortWord}
use Rattle.soc_desc.specs.declared.description.ItemDescription.TheOpen.{ItemDescription-F, BusDescription-F, Ram, Regs, Fifo, Bridge, Integration, Empty}
use Rattle.soc_desc.specs.declared.description.ItemDescription.TheViews.{roll-ItemDescription, roll-BusDescription, out-BusDescription}
use Rattle.soc_desc.specs.declared.description.ItemDescription.TheFolds.{fold-roll-ItemDescription, fold-roll-BusDescription, ind-ItemDescription}
use Rattle.soc_desc.specs.declared.geometry.Extent.{Extent}
use Rattle.soc_desc.specs.Geometry.{octets_at, rom_extent}
use Rattle.soc_desc.specs.View.{Make, RamOf, RegsOf, FifoOf, Device, octets_in}
use Rattle.wb_signals.specs.Content.{Content, Rom}
use Rattle.wb_signals.specs.Wiring.{Wiring}
use Rattle.wb_signals.specs.Bus.{Child, places_in, queue_in, bus, leaf}
use Rattle.soc_machine.specs.Described.{Placement, ItemParts, BusParts, item_parts, bus_parts, item_parts_layer, bus_parts_layer, parts_in, parts_of, bus_again, child_placed, rom_at, device_part, device_on, path_wait, port_stalls, built, described_wiring}
use Rattle.sdb_build.specs.Tables.{image_of}
use Rattle.soc_core.specs.Built.{root_shown}
use Rattle.soc_core.proofs.BuiltLemmas.{bus_shaped, root_parts}
use Rattle.soc_wave.specs.Readings.{QueueIsPlace}

-- each place is its own queue
abbrev OwnQueues : Wiring → Type 0
OwnQueues w = (place : ℕ) → place < w.places → w.queue place ≡ place

abbrev AllOwn : List Child → Type 0
AllOwn [] = Unit {0}
AllOwn (child ∷ children) = OwnQueues child.wiring × AllOwn children

own_by : (b : Bool) (place n own more : ℕ) → nat_lt place n ≡ b → (place < n → own ≡ place) → (n ≤ place → more ≡ place - n) → cond b own (n + more) ≡ place
own_by true place n own more e h g = let l : place < n = grind (arith, e) in h l
own_by false place n own more e h g = let l : n ≤ place = grind (arith, e) in omega (arith, l, g l)

queues_own : (children : List Child) → AllOwn children → (place : ℕ) → place < places_in children → queue_in children place ≡ place
queues_own [] all place h = refl
queues_own (child ∷ children) all place h =
    let n = child.wiring.places in
    own_by (nat_lt place n) place n (child.wiring.queue place) (queue_in children (place - n)) refl
    (all.0 place) (λ l. queues_own children all.1 (place - n) (omega (arith, h, l)))

abbrev IsOwnPart : Placement → Type 0
IsOwnPart p = OwnQueues p.wiring

abbrev AllOwnParts : List Placement → Type 0
AllOwnParts [] = Unit {0}
AllOwnParts (p ∷ ps) = IsOwnPart p × AllOwnParts ps

owning_children : (ps : List Placement) → AllOwnParts ps → AllOwn (map child_placed ps)
owning_children [] all = tt
owning_children (p ∷ ps) all = (all.0, owning_children ps all.1)

owning_both : (ps qs : List Placement) → AllOwnParts ps → AllOwnParts qs → AllOwnParts (ps ++ qs)
owning_both [] qs h k = k
owning_both (p ∷ ps) qs h k = (h.0, owning_both ps qs h.1 k)

device_owning : (extent : Extent) (width : Width) (octets wait : ℕ) (stalls : Bool) (content : Content) → IsOwnPart (device_part extent (leaf width octets wait stalls) content)
device_owning extent width octets wait stalls content =
    λ place within. omega (arith, within)

on_owning : (d : Device) (width : Width) → IsOwnPart (device_on d width)
on_owning d width =
    device_owning (octets_at d.at (octets_in d.make)) width (octets_in d.make) (path_wait d.interface.port d.interface.wait) (port_stalls d.interface.port) (built d.make)

rom_owning : (sdb items : ℕ) (octets : List ℕ) (width : Width) → IsOwnPart (rom_at sdb items octets width)
rom_owning sdb items octets width = device_owning (rom_extent sdb items) width (64 * (items + 1)) 0 false (Rom octets)

-- ---- every item and every bus

abbrev IsOwnBus : BusParts → Type 0
IsOwnBus b = OwnQueues b.wiring

abbrev IsOwnItem : ItemDescription → Type 0
IsOwnItem item = (width : Width) → AllOwnParts ((item_parts item).parts width)

abbrev IsOwnBusOf : BusDescription → Type 0
IsOwnBusOf b = IsOwnBus (bus_parts b)

abbrev GoodItem : Type 0
GoodItem = (item : ItemDescription) × IsOwnItem item

abbrev GoodBus : Type 0
GoodBus = (b : BusDescription) × IsOwnBusOf b

owning_as : (item : ItemDescription) (parts : ItemParts) → item_parts item ≡ parts → ((width : Width) → AllOwnParts (parts.parts width)) → IsOwnItem item
owning_as item parts same owning width = subst (λ (x : ItemParts). AllOwnParts (x.parts width)) (sym same) (owning width)

abbrev own : Product → ℕ → Make → PortWord → ℕ → ℕ → ℕ → ℕ → Device
own p at make port wait class major minor =
    record { product = p; at = at; make = make; interface = record { port = port; wait = wait; class = class; major = major; minor = minor } }

item_step : (y : ItemDescription-F GoodItem GoodBus) → IsOwnItem (roll-ItemDescription (map-ItemDescription GoodItem GoodBus ItemDescription BusDescription (λ e. e.0) (λ e. e.0) y))
item_step (Ram p at size port wait class major minor) =
    let x : ItemDescription-F ItemDescription BusDescription = Ram p at size port wait class major minor in
    owning_as (roll-ItemDescription x) _ (fold-roll-ItemDescription ItemParts BusParts item_parts_layer bus_parts_layer x) (λ width. (on_owning (own p at (RamOf size) port wait class major minor) width, tt))
item_step (Regs p at words port wait class major minor) =
    let x : ItemDescription-F ItemDescription BusDescription = Regs p at words port wait class major minor in
    owning_as (roll-ItemDescription x) _ (fold-roll-ItemDescription ItemParts BusParts item_parts_layer bus_parts_layer x) (λ width. (on_owning (own p at (RegsOf words) port wait class major minor) width, tt))
item_step (Fifo p at depth port wait class major minor) =
    let x : ItemDescription-F ItemDescription BusDescription = Fifo p at depth port wait class major minor in
    owning_as (roll-ItemDescription x) _ (fold-roll-ItemDescription ItemParts BusParts item_parts_layer bus_parts_layer x) (λ width. (on_owning (own p at (FifoOf depth) port wait class major minor) width, tt))
item_step (Bridge p at b) =
    let x : ItemDescription-F ItemDescription BusDescription = Bridge p at b.0 in
    owning_as (roll-ItemDescription x) _ (fold-roll-ItemDescription ItemParts BusParts item_parts_layer bus_parts_layer x)
    (λ width. (b.1, tt))
item_step (Integration p) =
    let x : ItemDescription-F ItemDescription BusDescription = Integration p in
    owning_as (roll-ItemDescription x) _ (fold-roll-ItemDescription ItemParts BusParts item_parts_layer bus_parts_layer x) (λ width. tt)
item_step Empty =
    let x : ItemDescription-F ItemDescription BusDescription = Empty in
    owning_as (roll-ItemDescription x) _ (fold-roll-ItemDescription ItemParts BusParts item_parts_layer bus_parts_layer x) (λ width. tt)

items_owning : (width : Width) (es : List GoodItem) → AllOwnParts (parts_in width (map item_parts (map (λ e. e.0) es)))
items_owning width [] = tt
items_owning width (e ∷ es) = owning_both ((item_parts e.0).parts width) (parts_in width (map item_parts (map (λ e. e.0) es))) (e.1 width) (items_owning width es)

with_rom : (b : BusDescription-F ItemParts BusParts) → AllOwnParts (parts_in b.width b.items) → AllOwnParts (parts_of b)
with_rom b all = owning_both (parts_in b.width b.items) (rom_at b.sdb (length b.items) (image_of (bus_again b)) b.width ∷ []) all (rom_owning b.sdb (length b.items) (image_of (bus_again b)) b.width, tt)

layer_owning : (b : BusDescription-F ItemParts BusParts) → AllOwnParts (parts_of b) → IsOwnBus (bus_parts_layer b)
unfolding bus
layer_owning b all = queues_own (map child_placed (parts_of b)) (owning_children (parts_of b) all)

bus_step : (p : Product) (width : Width) (last sdb : ℕ) (es : List GoodItem)
    → IsOwnBusOf (roll-BusDescription (record { product = p; width = width; last = last; sdb = sdb; items = map (λ e. e.0) es }))
bus_step p width last sdb es =
    let x : BusDescription-F ItemDescription BusDescription = record { product = p; width = width; last = last; sdb = sdb; items = map (λ e. e.0) es } in
    let seen : BusDescription-F ItemParts BusParts = record { product = p; width = width; last = last; sdb = sdb; items = map item_parts (map (λ e. e.0) es) } in
    subst (λ (b : BusParts). IsOwnBus b) (sym (fold-roll-BusDescription ItemParts BusParts item_parts_layer bus_parts_layer x))
    (layer_owning seen (with_rom seen (items_owning width es)))

item_owning : (item : ItemDescription) → IsOwnItem item
item_owning = ind-ItemDescription IsOwnItem IsOwnBusOf
    (λ x y is. subst (λ z. IsOwnItem (roll-ItemDescription z)) is (item_step y))
    (λ x y is. subst (λ z. IsOwnBusOf (roll-BusDescription z)) is (bus_step y.product y.width y.last y.sdb y.items))

all_owning : (width : Width) (items : List ItemDescription) → AllOwnParts (parts_in width (map item_parts items))
all_owning width [] = tt
all_owning width (item ∷ items) = owning_both ((item_parts item).parts width) (parts_in width (map item_parts items)) (item_owning item width) (all_owning width items)

root_parts_owning : (bus : BusDescription) → AllOwnParts (parts_of (root_shown bus))
root_parts_owning bus = with_rom (root_shown bus) (all_owning (root_shown bus).width (out-BusDescription bus).items)

pub bus_owning : (b : BusDescription) → IsOwnBus (bus_parts b)
bus_owning b = subst (λ (x : BusParts). IsOwnBus x) (sym (root_parts b)) (layer_owning (root_shown b) (root_parts_owning b))

pub queue_is_place : QueueIsPlace
queue_is_place d r = bus_owning d.bus ((described_wiring d).route r).place ((bus_shaped d.bus).shaped.goes r)
