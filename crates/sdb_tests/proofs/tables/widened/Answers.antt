-- The rules of a bus are the same at 64 data bits but for its width.
use Rattle.std.proofs.Common.{◌≡◌, ℕ, length, map, Bool, true, ◌&&◌, nat_le, refl, sym, ap, ◌∙◌}
use Rattle.std.proofs.lemmas.Bool.{and_parts, and_from}
use Rattle.eb_base.specs.declared.width.Width.{Width}
use Rattle.eb_base.specs.declared.width.Width.TheVariants.{W64}
use Rattle.soc_desc.specs.declared.description.BusDescription.{BusDescription}
use Rattle.soc_desc.specs.declared.description.ItemDescription.{ItemDescription}
use Rattle.soc_desc.specs.declared.description.ItemDescription.TheOpen.{BusDescription-F}
use Rattle.soc_desc.specs.declared.description.ItemDescription.TheViews.{out-BusDescription, roll-BusDescription}
use Rattle.soc_desc.specs.declared.description.ItemDescription.TheFolds.{fold-roll-BusDescription, fold_out-BusDescription}
use Rattle.soc_desc.specs.Checks.{is_in}
use Rattle.soc_desc.specs.Shape.{address, last_address}
use Rattle.soc_desc.specs.Geometry as geo
use Rattle.soc_desc.specs.Geometry.{ItemPlace, BusPlace}
use Rattle.soc_desc.specs.Accepted.{all_of, is_product, is_32_or_64, item_fields, item_fields_layer, bus_fields_layer, IsSoundBus, IsSoundBusOf}
use Rattle.soc_desc.proofs.Wider.{sound_wider}
use Rattle.sdb_tests.proofs.tables.widened.Goals as goal

at_64 : (b : BusDescription) → IsSoundBus b → IsSoundBusOf is_32_or_64 (roll-BusDescription (record (out-BusDescription b) { width = W64 }))
at_64 b sound =
    let o = out-BusDescription b in
    let y : BusDescription-F ItemDescription BusDescription = record o { width = W64 } in
    let wide = sound_wider b sound in
    let fs = map (item_fields is_32_or_64) o.items in
    let kept = sym (fold_out-BusDescription Bool Bool item_fields_layer (bus_fields_layer is_32_or_64) b) ∙ wide.fields in
    let items = and_parts (is_product o.product && is_32_or_64 o.width && is_in (last_address 4) o.last && is_in (address 4) o.sdb && nat_le (length fs) 64) (all_of fs) kept in
    let count = and_parts (is_product o.product && is_32_or_64 o.width && is_in (last_address 4) o.last && is_in (address 4) o.sdb) (nat_le (length fs) 64) items.0 in
    let sdb = and_parts (is_product o.product && is_32_or_64 o.width && is_in (last_address 4) o.last) (is_in (address 4) o.sdb) count.0 in
    let last = and_parts (is_product o.product && is_32_or_64 o.width) (is_in (last_address 4) o.last) sdb.0 in
    let own = and_from (is_product o.product) true (and_parts (is_product o.product) (is_32_or_64 o.width) last.0).0 refl in
    let to_last = and_from (is_product o.product && true) (is_in (last_address 4) o.last) own last.1 in
    let to_sdb = and_from (is_product o.product && true && is_in (last_address 4) o.last) (is_in (address 4) o.sdb) to_last sdb.1 in
    let to_count = and_from (is_product o.product && true && is_in (last_address 4) o.last && is_in (address 4) o.sdb) (nat_le (length fs) 64) to_sdb count.1 in
    record {
      fields = fold-roll-BusDescription Bool Bool item_fields_layer (bus_fields_layer is_32_or_64) y
          ∙ and_from (is_product o.product && true && is_in (last_address 4) o.last && is_in (address 4) o.sdb && nat_le (length fs) 64) (all_of fs) to_count items.1;
      places = ap (λ (p : BusPlace). p.placed) (fold-roll-BusDescription ItemPlace BusPlace geo.item_layer geo.bus_layer y)
          ∙ sym (ap (λ (p : BusPlace). p.placed) (fold_out-BusDescription ItemPlace BusPlace geo.item_layer geo.bus_layer b)) ∙ wide.places;
    }

pub returns : goal.returns
returns c = at_64 c.args.bus c.requires
