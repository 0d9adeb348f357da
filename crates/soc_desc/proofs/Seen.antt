-- What the view of an item says of its fields and of where it stands.
use Rattle.std.proofs.Common.{◌≡◌, ◌≤◌, Bool, true, refl, sym, ap, ◌∙◌, arith}
use Rattle.eb_base.specs.declared.width.Width.{Width}
use Rattle.soc_desc.specs.declared.description.BusDescription.{BusDescription}
use Rattle.soc_desc.specs.declared.description.ItemDescription.{ItemDescription, map-ItemDescription}
use Rattle.soc_desc.specs.declared.description.ItemDescription.TheOpen.{ItemDescription-F, Ram, Regs, Fifo, Bridge, Integration, Empty}
use Rattle.soc_desc.specs.declared.description.ItemDescription.TheViews.{out-ItemDescription}
use Rattle.soc_desc.specs.declared.description.ItemDescription.TheFolds.{fold_out-ItemDescription}
use Rattle.soc_desc.specs.View.{Make, RamOf, RegsOf, FifoOf, octets_in, OnBus, OfDevice, OfBridge, OfNote, OfEmpty, on_bus}
use Rattle.soc_desc.specs.Geometry as geo
use Rattle.soc_desc.specs.Geometry.{ItemPlace, BusPlace, item_place, bus_place, place_on}
use Rattle.soc_desc.specs.Accepted.{is_make, item_fields, bus_fields, fields_on, item_fields_layer, bus_fields_layer}
use Rattle.soc_desc.proofs.Sound.{ram_made, regs_made}

-- the same with something else shown of the bus behind a bridge
abbrev pub with_bus : {B C : Type 0} → (B → C) → OnBus B → OnBus C
with_bus f (OfDevice d) = OfDevice d
with_bus f (OfBridge p at bus) = OfBridge p at (f bus)
with_bus f (OfNote p) = OfNote p
with_bus f OfEmpty = OfEmpty

pub on_bus-map : {A B C D : Type 0} (f : A → C) (g : B → D) (y : ItemDescription-F A B) → on_bus (map-ItemDescription A B C D f g y) ≡ with_bus g (on_bus y)
on_bus-map f g (Ram p at size port wait class major minor) = refl
on_bus-map f g (Regs p at words port wait class major minor) = refl
on_bus-map f g (Fifo p at depth port wait class major minor) = refl
on_bus-map f g (Bridge p at bus) = refl
on_bus-map f g (Integration p) = refl
on_bus-map f g Empty = refl

module _ (item : ItemDescription) (v : OnBus BusDescription) (is : v ≡ on_bus (out-ItemDescription item)) where
  pub fields_seen : (widths : Width → Bool) → item_fields widths item ≡ fields_on (with_bus (bus_fields widths) v)
  fields_seen widths =
      fold_out-ItemDescription Bool Bool item_fields_layer (bus_fields_layer widths) item
      ∙ ap fields_on (on_bus-map (item_fields widths) (bus_fields widths) (out-ItemDescription item))
      ∙ ap (λ (u : OnBus BusDescription). fields_on (with_bus (bus_fields widths) u)) (sym is)

  pub place_seen : item_place item ≡ place_on (with_bus bus_place v)
  place_seen =
      fold_out-ItemDescription ItemPlace BusPlace geo.item_layer geo.bus_layer item
      ∙ ap place_on (on_bus-map item_place bus_place (out-ItemDescription item))
      ∙ ap (λ (u : OnBus BusDescription). place_on (with_bus bus_place u)) (sym is)

pub make_some : (m : Make) → is_make m ≡ true → 1 ≤ octets_in m
make_some (RamOf size) h = omega (arith, (ram_made size h).0)
make_some (RegsOf words) h = omega (arith, (regs_made words h).0)
make_some (FifoOf depth) h = omega arith
