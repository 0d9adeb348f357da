-- The records of a bus whose fields keep the rules: each has 64 octets.
use Rattle.std.proofs.Common.{◌≡◌, ℕ, suc, ◌+◌, ◌*◌, ◌-◌, List, [], ◌∷◌, length, map, Bool, true, ◌&&◌, nat_le, refl, sym, ap, ◌∙◌, subst, arith}
use Rattle.std.proofs.lemmas.Bool.Decides.{nat_tests}
use Rattle.std.proofs.lemmas.Bool.{and_parts}
use Rattle.std.proofs.lemmas.List.{length-map}
use Rattle.std.proofs.lemmas.List.Elements.{All-nil, All-cons}
use Rattle.std.specs.List.{All}
use Rattle.eb_base.specs.declared.width.Width.{Width}
use Rattle.eb_base.specs.declared.name.Product.{Product}
use Rattle.soc_desc.specs.declared.description.BusDescription.{BusDescription}
use Rattle.soc_desc.specs.declared.description.ItemDescription.{ItemDescription}
use Rattle.soc_desc.specs.declared.description.ItemDescription.TheViews.{out-ItemDescription, out-BusDescription}
use Rattle.soc_desc.specs.declared.description.ItemDescription.TheFolds.{fold_out-ItemDescription}
use Rattle.soc_desc.specs.Accepted.{all_of, is_product, is_padded, item_fields, bus_fields, fields_on}
use Rattle.soc_desc.specs.Checks.{is_in}
use Rattle.soc_desc.specs.View.{octets_in, OnBus, OfDevice, OfBridge, OfNote, OfEmpty, on_bus}
use Rattle.soc_desc.proofs.Sound.{device_kept}
use Rattle.soc_desc.proofs.Seen.{with_bus, on_bus-map, fields_seen}
use Rattle.soc_desc.specs.Shape.{address, last_address, u64, u32}
use Rattle.sdb_record.specs.declared.kinds.Record.{Record}
use Rattle.sdb_record.specs.declared.kinds.Record.TheVariants.{Interconnect}
use Rattle.sdb_build.specs.Tables as tables
use Rattle.sdb_build.specs.Tables.{ItemTables, BusTables, item_tables, bus_tables, entry_on, entries, interconnect, table_records, image_of}
use Rattle.sdb_build.specs.Whole.{IsWhole, IsTable}
use Rattle.sdb_build.proofs.ImageLemmas.{whole_device, whole_bridge, whole_interconnect, whole_integration, whole_empty, length-spelled}
use Rattle.sdb_build.proofs.SoundLemmas.{own_fields}
use Rattle.sdb_build.proofs.TableLemmas.{records_are}

-- ---- names have 19 octets

pub named : (p : Product) → is_product p ≡ true → length p.name ≡ 19
named p h =
    let last = (and_parts (is_in u64 p.vendor && is_in u32 p.device && is_in u32 p.version && is_in u32 p.date) (is_padded p.name) h).1 in
    grind (arith, nat_tests, last)

-- ---- the record of an item

module _ (widths : Width → Bool) where
  whole_seen : (width : Width) (v : OnBus BusDescription) → fields_on (with_bus (bus_fields widths) v) ≡ true → IsWhole (entry_on (with_bus bus_tables v) width)
  whole_seen width (OfDevice d) h =
      whole_device d.product (named d.product (device_kept d.product d.at d.make d.interface h).product) d.interface.class d.interface.major d.interface.minor (tables.access_widths width) d.at (d.at + octets_in d.make - 1)
  whole_seen width (OfBridge p at bus) h =
      let own = (and_parts (is_product p && is_in (address 4) at) (bus_fields widths bus) h).0 in
      whole_bridge p (named p (and_parts (is_product p) (is_in (address 4) at) own).0) _ _ _
  whole_seen width (OfNote p) h = whole_integration p (named p h)
  whole_seen width OfEmpty h = whole_empty

  whole_entry : (width : Width) (item : ItemDescription) → item_fields widths item ≡ true → IsWhole ((item_tables item).entry width)
  whole_entry width item h =
      let v : OnBus BusDescription = on_bus (out-ItemDescription item) in
      let same : (item_tables item).entry width ≡ entry_on (with_bus bus_tables v) width =
      ap (λ (t : ItemTables). t.entry width) (fold_out-ItemDescription ItemTables BusTables tables.placed_item_layer tables.placed_bus_layer item)
      ∙ ap (λ (u : OnBus BusTables). entry_on u width) (on_bus-map item_tables bus_tables (out-ItemDescription item)) in
      subst IsWhole (sym same) (whole_seen width v (sym (fields_seen item v refl widths) ∙ h))

  whole_entries : (width : Width) (items : List ItemDescription) → all_of (map (item_fields widths) items) ≡ true → All IsWhole (entries width (map item_tables items))
  whole_entries width [] h = All-nil IsWhole
  whole_entries width (item ∷ items) h =
      let both = and_parts (item_fields widths item) (all_of (map (item_fields widths) items)) h in
      All-cons IsWhole ((item_tables item).entry width) (entries width (map item_tables items)) (whole_entry width item both.0) (whole_entries width items both.1)

-- ---- the table of a bus

length-entries : (width : Width) (items : List ItemTables) → length (entries width items) ≡ length items
length-entries width [] = refl
length-entries width (item ∷ items) = ap suc (length-entries width items)

module _ (widths : Width → Bool) (bus : BusDescription) (fields : bus_fields widths bus ≡ true) where
  own_parts : let b = out-BusDescription bus in (length b.product.name ≡ 19) × (all_of (map (item_fields widths) b.items) ≡ true)
  own_parts =
      let b = out-BusDescription bus in
      let a = and_parts (is_product b.product && widths b.width && is_in (last_address 4) b.last && is_in (address 4) b.sdb && nat_le (length (map (item_fields widths) b.items)) 64) (all_of (map (item_fields widths) b.items)) (own_fields widths bus fields) in
      let c = (and_parts (is_product b.product && widths b.width && is_in (last_address 4) b.last && is_in (address 4) b.sdb) (nat_le (length (map (item_fields widths) b.items)) 64) a.0).0 in
      let d = (and_parts (is_product b.product && widths b.width && is_in (last_address 4) b.last) (is_in (address 4) b.sdb) c).0 in
      let e = (and_parts (is_product b.product && widths b.width) (is_in (last_address 4) b.last) d).0 in
      (named b.product (and_parts (is_product b.product) (widths b.width) e).0, a.1)

  pub items_fields : all_of (map (item_fields widths) (out-BusDescription bus).items) ≡ true
  items_fields = own_parts.1

  whole_table : All IsWhole (table_records bus)
  whole_table =
      let b = out-BusDescription bus in
      subst (All IsWhole) (sym (records_are bus))
      (All-cons IsWhole (interconnect b.product b.last (length b.items)) (entries b.width (map item_tables b.items)) (whole_interconnect b.product own_parts.0 _ _ _) (whole_entries widths b.width b.items own_parts.1))

  length-table : length (table_records bus) ≡ length (out-BusDescription bus).items + 1
  length-table =
      let b = out-BusDescription bus in
      omega (arith, ap length (records_are bus), length-entries b.width (map item_tables b.items), length-map b.items item_tables)

  pub table_of_bus : IsTable (table_records bus)
  table_of_bus =
      let b = out-BusDescription bus in
      let others : List Record = entries b.width (map item_tables b.items) in
      record {
        counted = (b.last, b.product, others, records_are bus ∙ ap (λ (n : ℕ). Interconnect n 0 b.last b.product ∷ others) (sym length-table));
        whole = whole_table;
      }

  pub length-image_of : length (image_of bus) ≡ 64 * (length (out-BusDescription bus).items + 1)
  length-image_of = length-spelled (table_records bus) whole_table ∙ ap (λ (n : ℕ). 64 * n) length-table
