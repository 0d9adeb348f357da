-- The rules that an accepted description keeps, however it was made.
use Rattle.std.specs.Prelude.{◌≡◌, ◌≤◌, ℕ, suc, max, ◌==◌, ◌&&◌, List, [], ◌∷◌, length, Bool, true, false, nat_le}
use Rattle.std.specs.List.{list_all}
use Rattle.eb_base.specs.Name.{are_printed}
use Rattle.eb_base.specs.Width.{octets}
use Rattle.eb_base.specs.declared.name.Product.{Product}
use Rattle.eb_base.specs.declared.reg.Reg.{Reg}
use Rattle.eb_base.specs.declared.width.Width.{Width}
use Rattle.eb_base.specs.declared.width.Width.TheVariants.{W8, W16, W32, W64}
use Rattle.soc_desc.specs.declared.description.Description.{Description}
use Rattle.soc_desc.specs.declared.description.ItemDescription.{ItemDescription}
use Rattle.soc_desc.specs.declared.description.BusDescription.{BusDescription}
use Rattle.soc_desc.specs.declared.description.ItemDescription.TheOpen.{ItemDescription-F, BusDescription-F}
use Rattle.soc_desc.specs.declared.description.ItemDescription.TheFolds.{fold-ItemDescription, fold-BusDescription}
use Rattle.soc_desc.specs.Checks.{is_in}
use Rattle.soc_desc.specs.View.{Make, RamOf, RegsOf, FifoOf, OnBus, OfDevice, OfBridge, OfNote, OfEmpty, on_bus, bridged}
use Rattle.soc_desc.specs.declared.view.Interface.{Interface}
use Rattle.soc_desc.specs.Shape.{u64, u32, u16, u8, wait_clocks, fifo_depth, address, last_address, ram_size}
use Rattle.soc_desc.specs.Geometry.{bus_place}
use Rattle.soc_desc.specs.Totals.{bus_totals}

-- ---- fields: numbers, texts and lengths of lists

abbrev pub all_of : List Bool → Bool
all_of [] = true
all_of (kept ∷ others) = kept && all_of others

-- a name in its 19 octets
abbrev pub is_padded : List ℕ → Bool
is_padded octets = length octets == 19 && are_printed octets

abbrev pub is_product : Product → Bool
is_product p = is_in u64 p.vendor && is_in u32 p.device && is_in u32 p.version && is_in u32 p.date && is_padded p.name

abbrev pub is_reg : Reg → Bool
is_reg r = is_in u32 r.reset

abbrev pub is_interface : Interface → Bool
is_interface i = is_in wait_clocks i.wait && is_in u16 i.class && is_in u8 i.major && is_in u8 i.minor

abbrev pub is_make : Make → Bool
is_make (RamOf size) = is_in (ram_size 4) size
is_make (RegsOf words) = nat_le 1 (length words) && nat_le (length words) 1024 && list_all is_reg words
is_make (FifoOf depth) = is_in fifo_depth depth

-- Widths that buses may have. Descriptions are read for 32 bits alone, tables are made for 64 too.
abbrev pub is_32 : Width → Bool
is_32 W8 = false
is_32 W16 = false
is_32 W32 = true
is_32 W64 = false

abbrev pub is_32_or_64 : Width → Bool
is_32_or_64 W8 = false
is_32_or_64 W16 = false
is_32_or_64 W32 = true
is_32_or_64 W64 = true

abbrev pub fields_on : OnBus Bool → Bool
fields_on (OfDevice d) = is_product d.product && is_in (address 4) d.at && is_make d.make && is_interface d.interface
fields_on (OfBridge p at bus) = is_product p && is_in (address 4) at && bus
fields_on (OfNote p) = is_product p
fields_on OfEmpty = true

abbrev pub item_fields_layer : ItemDescription-F Bool Bool → Bool
item_fields_layer item = fields_on (on_bus item)

abbrev pub bus_fields_layer : (Width → Bool) → BusDescription-F Bool Bool → Bool
bus_fields_layer widths b =
    is_product b.product && widths b.width && is_in (last_address 4) b.last && is_in (address 4) b.sdb && nat_le (length b.items) 64 && all_of b.items

-- where buses have these widths
abbrev pub item_fields : (Width → Bool) → ItemDescription → Bool
item_fields widths = fold-ItemDescription Bool Bool item_fields_layer (bus_fields_layer widths)

abbrev pub bus_fields : (Width → Bool) → BusDescription → Bool
bus_fields widths = fold-BusDescription Bool Bool item_fields_layer (bus_fields_layer widths)

-- ---- levels of buses

abbrev pub greatest : List ℕ → ℕ
greatest [] = 0
greatest (n ∷ ns) = max n (greatest ns)

abbrev pub item_levels_layer : ItemDescription-F ℕ ℕ → ℕ
item_levels_layer item = bridged 0 (λ at bus. bus) (on_bus item)

abbrev pub bus_levels_layer : BusDescription-F ℕ ℕ → ℕ
bus_levels_layer b = suc (greatest b.items)

abbrev pub item_levels : ItemDescription → ℕ
item_levels = fold-ItemDescription ℕ ℕ item_levels_layer bus_levels_layer

abbrev pub bus_levels : BusDescription → ℕ
bus_levels = fold-BusDescription ℕ ℕ item_levels_layer bus_levels_layer

-- ---- a bus with all buses under it, and a whole description

-- where buses have these widths
pub record IsSoundBusOf (widths : Width → Bool) (bus : BusDescription) : Type 0 where
  pub fields : bus_fields widths bus ≡ true
  pub places : (bus_place bus).placed ≡ true

abbrev pub IsSoundBus : BusDescription → Type 0
IsSoundBus = IsSoundBusOf is_32

pub record IsAccepted (d : Description) : Type 0 where
  pub depth_least : 1 ≤ d.depth
  pub depth_most : d.depth ≤ 16
  pub masters_least : 1 ≤ d.masters
  pub masters_most : d.masters ≤ 16
  pub sound : IsSoundBus d.bus
  pub levels : bus_levels d.bus ≤ 4
  pub devices : (bus_totals d.bus).devices ≤ 256
  pub records : (bus_totals d.bus).records ≤ 4096
  pub ram : (bus_totals d.bus).ram ≤ 16777216
