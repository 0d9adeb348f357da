-- What keeps the rules of a description where buses have 32 data bits keeps those where they have 32 or 64.
use Rattle.std.proofs.Common.{◌≡◌, ℕ, List, [], ◌∷◌, length, map, Bool, true, ◌&&◌, nat_le, refl, sym, ap, ◌∙◌, subst}
use Rattle.std.proofs.lemmas.Bool.{and_parts, and_from}
use Rattle.std.proofs.lemmas.List.{length-map}
use Rattle.eb_base.specs.declared.width.Width.{Width}
use Rattle.eb_base.specs.declared.width.Width.TheVariants.{W8, W16, W32, W64}
use Rattle.eb_base.specs.declared.name.Product.{Product}
use Rattle.soc_desc.specs.declared.description.BusDescription.{BusDescription}
use Rattle.soc_desc.specs.declared.description.ItemDescription.{ItemDescription, map-ItemDescription}
use Rattle.soc_desc.specs.declared.description.ItemDescription.TheOpen.{ItemDescription-F, BusDescription-F}
use Rattle.soc_desc.specs.declared.description.ItemDescription.TheOpen as layer
use Rattle.soc_desc.specs.declared.description.ItemDescription.TheViews.{roll-ItemDescription, roll-BusDescription}
use Rattle.soc_desc.specs.declared.description.ItemDescription.TheFolds.{fold-roll-ItemDescription, fold-roll-BusDescription, ind-BusDescription}
use Rattle.soc_desc.specs.Checks.{is_in}
use Rattle.soc_desc.specs.Shape.{address, last_address}
use Rattle.soc_desc.specs.Accepted.{all_of, is_product, is_32, is_32_or_64, item_fields, bus_fields, item_fields_layer, bus_fields_layer, IsSoundBus, IsSoundBusOf}

widths_wider : (w : Width) → is_32 w ≡ true → is_32_or_64 w ≡ true
widths_wider W8 h = h
widths_wider W16 h = h
widths_wider W32 h = h
widths_wider W64 h = refl

abbrev IsWiderItem : ItemDescription → Type 0
IsWiderItem item = item_fields is_32 item ≡ true → item_fields is_32_or_64 item ≡ true

abbrev IsWiderBus : BusDescription → Type 0
IsWiderBus b = bus_fields is_32 b ≡ true → bus_fields is_32_or_64 b ≡ true

abbrev WiderItem : Type 0
WiderItem = (item : ItemDescription) × IsWiderItem item

abbrev WiderBus : Type 0
WiderBus = (b : BusDescription) × IsWiderBus b

-- an item whose layer in wider buses keeps what it keeps in these
wider_layer : (y : ItemDescription-F ItemDescription BusDescription)
    → (item_fields_layer (map-ItemDescription ItemDescription BusDescription Bool Bool (item_fields is_32) (bus_fields is_32) y) ≡ true
    → item_fields_layer (map-ItemDescription ItemDescription BusDescription Bool Bool (item_fields is_32_or_64) (bus_fields is_32_or_64) y) ≡ true)
    → IsWiderItem (roll-ItemDescription y)
wider_layer y goes h =
    fold-roll-ItemDescription Bool Bool item_fields_layer (bus_fields_layer is_32_or_64) y
    ∙ goes (sym (fold-roll-ItemDescription Bool Bool item_fields_layer (bus_fields_layer is_32) y) ∙ h)

wider_bridge : (p : Product) (at : ℕ) (b : BusDescription) → IsWiderBus b → IsWiderItem (roll-ItemDescription (layer.Bridge p at b))
wider_bridge p at b w = wider_layer (layer.Bridge p at b)
    (λ h. let both = and_parts (is_product p && is_in (address 4) at) (bus_fields is_32 b) h in and_from (is_product p && is_in (address 4) at) (bus_fields is_32_or_64 b) both.0 (w both.1))

wider_item : (y : ItemDescription-F WiderItem WiderBus) → IsWiderItem (roll-ItemDescription (map-ItemDescription WiderItem WiderBus ItemDescription BusDescription (λ e. e.0) (λ e. e.0) y))
wider_item (layer.Ram p at size port wait class major minor) = wider_layer (layer.Ram p at size port wait class major minor) (λ h. h)
wider_item (layer.Regs p at words port wait class major minor) = wider_layer (layer.Regs p at words port wait class major minor) (λ h. h)
wider_item (layer.Fifo p at depth port wait class major minor) = wider_layer (layer.Fifo p at depth port wait class major minor) (λ h. h)
wider_item (layer.Bridge p at b) = wider_bridge p at b.0 b.1
wider_item (layer.Integration p) = wider_layer (layer.Integration p) (λ h. h)
wider_item layer.Empty = wider_layer layer.Empty (λ h. h)

wider_items : (es : List WiderItem) → all_of (map (item_fields is_32) (map (λ e. e.0) es)) ≡ true → all_of (map (item_fields is_32_or_64) (map (λ e. e.0) es)) ≡ true
wider_items [] h = refl
wider_items (e ∷ es) h =
    let both = and_parts (item_fields is_32 e.0) (all_of (map (item_fields is_32) (map (λ e. e.0) es))) h in
    and_from (item_fields is_32_or_64 e.0) (all_of (map (item_fields is_32_or_64) (map (λ e. e.0) es))) (e.1 both.0) (wider_items es both.1)

wider_bus : (p : Product) (width : Width) (last sdb : ℕ) (es : List WiderItem) → IsWiderBus (roll-BusDescription (record { product = p; width = width; last = last; sdb = sdb; items = map (λ e. e.0) es }))
wider_bus p width last sdb es h =
    let plain : List ItemDescription = map (λ (e : WiderItem). e.0) es in
    let y : BusDescription-F ItemDescription BusDescription = record { product = p; width = width; last = last; sdb = sdb; items = plain } in
    let kept = sym (fold-roll-BusDescription Bool Bool item_fields_layer (bus_fields_layer is_32) y) ∙ h in
    let a = and_parts (is_product p && is_32 width && is_in (last_address 4) last && is_in (address 4) sdb && nat_le (length (map (item_fields is_32) plain)) 64) (all_of (map (item_fields is_32) plain)) kept in
    let b = and_parts (is_product p && is_32 width && is_in (last_address 4) last && is_in (address 4) sdb) (nat_le (length (map (item_fields is_32) plain)) 64) a.0 in
    let c = and_parts (is_product p && is_32 width && is_in (last_address 4) last) (is_in (address 4) sdb) b.0 in
    let d = and_parts (is_product p && is_32 width) (is_in (last_address 4) last) c.0 in
    let e = and_parts (is_product p) (is_32 width) d.0 in
    let count : nat_le (length (map (item_fields is_32_or_64) plain)) 64 ≡ true =
    ap (λ (n : ℕ). nat_le n 64) (length-map plain (item_fields is_32_or_64) ∙ sym (length-map plain (item_fields is_32))) ∙ b.1 in
    let own = and_from (is_product p) (is_32_or_64 width) e.0 (widths_wider width e.1) in
    let to_last = and_from (is_product p && is_32_or_64 width) (is_in (last_address 4) last) own d.1 in
    let to_sdb = and_from (is_product p && is_32_or_64 width && is_in (last_address 4) last) (is_in (address 4) sdb) to_last c.1 in
    let to_count = and_from (is_product p && is_32_or_64 width && is_in (last_address 4) last && is_in (address 4) sdb) (nat_le (length (map (item_fields is_32_or_64) plain)) 64) to_sdb count in
    fold-roll-BusDescription Bool Bool item_fields_layer (bus_fields_layer is_32_or_64) y
    ∙ and_from (is_product p && is_32_or_64 width && is_in (last_address 4) last && is_in (address 4) sdb && nat_le (length (map (item_fields is_32_or_64) plain)) 64) (all_of (map (item_fields is_32_or_64) plain)) to_count (wider_items es a.1)

wider : (b : BusDescription) → bus_fields is_32 b ≡ true → bus_fields is_32_or_64 b ≡ true
wider = ind-BusDescription IsWiderItem IsWiderBus
    (λ x y is. subst (λ z. IsWiderItem (roll-ItemDescription z)) is (wider_item y))
    (λ x y is. subst (λ z. IsWiderBus (roll-BusDescription z)) is (wider_bus y.product y.width y.last y.sdb y.items))

pub sound_wider : (b : BusDescription) → IsSoundBus b → IsSoundBusOf is_32_or_64 b
sound_wider b h = record { fields = wider b h.fields; places = h.places }
