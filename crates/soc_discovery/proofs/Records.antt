-- The records of a sound bus: each fits its fields, is valid, and has 64 octets.
use Rattle.std.proofs.Common.{◌≡◌, ℕ, ◌+◌, ◌-◌, ◌^◌, ◌<◌, ◌≤◌, ◌==◌, ◌++◌, ◌&&◌, true, length, sym, arith, refl, rules, subst}
use Rattle.std.proofs.lemmas.Bool.{and_parts}
use Rattle.std.proofs.lemmas.Bool.Decides.{nat_tests}
use Rattle.eb_base.specs.Name.{are_printed}
use Rattle.eb_base.specs.declared.name.Product.{Product}
use Rattle.eb_base.specs.declared.width.Width.TheVariants.{W32}
use Rattle.soc_desc.specs.declared.description.BusDescription.{BusDescription}
use Rattle.soc_desc.specs.declared.description.ItemDescription.{ItemDescription, the_lemmas}
use Rattle.soc_desc.specs.declared.description.ItemDescription.TheViews.{out-ItemDescription, out-BusDescription}
use Rattle.soc_desc.specs.Accepted.{IsSoundBus, is_32, is_product, is_padded}
use Rattle.soc_desc.specs.Checks.{is_in}
use Rattle.soc_desc.specs.Shape.{u64, u32}
use Rattle.soc_desc.specs.Sound.{IsSoundItem}
use Rattle.soc_desc.specs.View.{octets_in, OnBus, OfDevice, OfBridge, OfNote, OfEmpty, on_bus}
use Rattle.soc_desc.proofs.Sound.{top_of_sound}
use Rattle.soc_machine.proofs.ItemLemmas.{in_range}
use Rattle.sdb_record.specs.declared.kinds.Record.{Record}
use Rattle.sdb_record.specs.declared.kinds.Record.TheVariants as sdb
use Rattle.sdb_record.specs.Layout.{product_fields, type_field, fields, wishbone}
use Rattle.sdb_record.specs.Relation.{IsValid, FitFields, encoded}
use Rattle.sdb_build.specs.Tables.{access_widths, item_tables, bus_tables, interconnect}
use Rattle.sdb_build.proofs.ImageLemmas.{whole_device, whole_bridge, whole_interconnect, whole_integration, whole_empty}
use Rattle.sdb_build.proofs.SoundLemmas.{own_fields}
use Rattle.soc_discovery.proofs.Seen.{record_seen, entry_seen, table_last, table_sdb, sound_device, sound_bridge, sound_note}

-- a record that can be written, and is read again
pub record IsGoodRecord (r : Record) : Type 0 where
  pub valid : IsValid r
  pub fit : FitFields (fields wishbone r)
  pub whole : length (encoded wishbone r) ≡ 64

-- ---- products

pub record IsGoodProduct (p : Product) : Type 0 where
  pub vendor : p.vendor < 2 ^ 64
  pub device : p.device < 2 ^ 32
  pub version : p.version < 2 ^ 32
  pub date : p.date < 2 ^ 32
  pub long : length p.name ≡ 19
  pub printed : are_printed p.name ≡ true

good_product : (p : Product) → is_product p ≡ true → IsGoodProduct p
good_product p h =
    let a = and_parts (is_in u64 p.vendor && is_in u32 p.device && is_in u32 p.version && is_in u32 p.date) (is_padded p.name) h in
    let b = and_parts (is_in u64 p.vendor && is_in u32 p.device && is_in u32 p.version) (is_in u32 p.date) a.0 in
    let d = and_parts (is_in u64 p.vendor && is_in u32 p.device) (is_in u32 p.version) b.0 in
    let e = and_parts (is_in u64 p.vendor) (is_in u32 p.device) d.0 in
    let name = and_parts (length p.name == 19) (are_printed p.name) a.1 in
    record {
      vendor = omega (arith, (in_range u64 p.vendor e.0).1);
      device = omega (arith, (in_range u32 p.device e.1).1);
      version = omega (arith, (in_range u32 p.version d.1).1);
      date = omega (arith, (in_range u32 p.date b.1).1);
      long = grind (arith, nat_tests, name.0);
      printed = name.1;
    }

product_fits : (p : Product) (kind : ℕ) → kind < 256 → IsGoodProduct p → FitFields (product_fields p ++ type_field kind)
product_fits p kind small g = (g.vendor, (g.device, (g.version, (g.date, ((g.long, g.printed), (small, tt))))))

-- ---- the records of a table

good_device : (p : Product) (class major minor first last : ℕ) → IsGoodProduct p → class < 2 ^ 16 → major < 2 ^ 8 → minor < 2 ^ 8 → first ≤ last → last < 2 ^ 64
    → IsGoodRecord (sdb.Device class major minor (access_widths W32) first last p)
good_device p class major minor first last g c a b le lt = record {
  valid = le;
  fit = (c, (a, (b, (omega arith, (omega arith, (lt, product_fits p 0x01 (omega arith) g))))));
  whole = whole_device p g.long class major minor (access_widths W32) first last;
}

good_bridge : (p : Product) (child first last : ℕ) → IsGoodProduct p → child < 2 ^ 64 → first ≤ last → last < 2 ^ 64 → IsGoodRecord (sdb.Bridge child first last p)
good_bridge p child first last g c le lt = record {
  valid = le;
  fit = (c, (omega arith, (lt, product_fits p 0x02 (omega arith) g)));
  whole = whole_bridge p g.long child first last;
}

good_interconnect : (p : Product) (last items : ℕ) → IsGoodProduct p → items ≤ 64 → last < 2 ^ 64 → IsGoodRecord (interconnect p last items)
good_interconnect p last items g few lt = record {
  valid = (omega arith, omega arith);
  fit = (omega arith, (omega arith, (omega arith, (omega arith, (omega arith, (lt, product_fits p 0x00 (omega arith) g))))));
  whole = whole_interconnect p g.long (items + 1) 0 last;
}

good_integration : (p : Product) → IsGoodProduct p → IsGoodRecord (sdb.Integration p)
good_integration p g = record { valid = tt; fit = product_fits p 0x80 (omega arith) g; whole = whole_integration p g.long }

good_empty : IsGoodRecord sdb.Empty
good_empty = record { valid = tt; fit = (omega arith, tt); whole = whole_empty }

-- ---- of an item

pub good_seen : (last : ℕ) (item : ItemDescription) (v : OnBus BusDescription) → v ≡ on_bus (out-ItemDescription item) → IsSoundItem last item → IsGoodRecord (record_seen v W32)
good_seen last item (OfDevice d) is sound =
    let s = sound_device last item sound d is in
    let below = sound.below in
    good_device d.product d.interface.class d.interface.major d.interface.minor d.at (d.at + octets_in d.make - 1) (good_product d.product s.product)
    s.class s.major s.minor (omega (arith, s.some)) (omega (arith, s.inside, s.some, below))
good_seen last item (OfBridge p at b) is sound =
    let s = sound_bridge last item sound p at b is in
    let below = sound.below in
    let rom = (top_of_sound b s.inner).rom.within in
    good_bridge p (at + (bus_tables b).sdb) at (at + (bus_tables b).last) (good_product p s.product)
    (omega (arith, s.inside, below, table_sdb b, rom)) (omega arith) (omega (arith, s.inside, below, table_last b))
good_seen last item (OfNote p) is sound = good_integration p (good_product p (sound_note last item sound p is))
good_seen last item OfEmpty is sound = good_empty

pub good_record : (last : ℕ) (item : ItemDescription) → IsSoundItem last item → IsGoodRecord ((item_tables item).entry W32)
good_record last item sound =
    let v : OnBus BusDescription = on_bus (out-ItemDescription item) in
    subst IsGoodRecord (sym (entry_seen item v refl W32)) (good_seen last item v refl sound)

-- ---- of a bus

pub good_first : (b : BusDescription) → IsSoundBus b → let l = out-BusDescription b in IsGoodRecord (interconnect l.product l.last (length l.items))
good_first b sound =
    let l = out-BusDescription b in
    let top = top_of_sound b sound in
    good_interconnect l.product l.last (length l.items) (good_product l.product (search (rules, the_lemmas, own_fields is_32 b sound.fields))) top.count top.below
