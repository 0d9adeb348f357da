-- What the rules say of one item of a sound bus, and what later readers of a description rest on.
use Rattle.std.specs.Prelude.{◌≡◌, ℕ, ◌+◌, ◌*◌, ◌%◌, ◌^◌, ◌<◌, ◌≤◌, ◌⊎◌, List, [], ◌∷◌, ◌++◌, length, map, Some, slice_get, true}
use Rattle.std.specs.List.{All}
use Rattle.eb_base.specs.declared.name.Product.{Product}
use Rattle.eb_base.specs.declared.reg.Reg.{Reg}
use Rattle.soc_desc.specs.declared.description.PortWord.{PortWord}
use Rattle.soc_desc.specs.declared.description.ItemDescription.{ItemDescription}
use Rattle.soc_desc.specs.declared.description.ItemDescription.TheVariants.{Ram, Regs, Fifo, Bridge}
use Rattle.soc_desc.specs.declared.description.ItemDescription.TheViews.{out-BusDescription}
use Rattle.soc_desc.specs.declared.description.BusDescription.{BusDescription}
use Rattle.soc_desc.specs.declared.geometry.Extent.{Extent}
use Rattle.soc_desc.specs.Geometry.{item_place, extent_at, extents, rom_extent, are_within}
use Rattle.soc_desc.specs.Accepted.{is_32, is_32_or_64, item_fields, item_levels, bus_levels, IsSoundBus, IsSoundBusOf}

-- an item on a bus with this last address
pub record IsSoundItem (last : ℕ) (item : ItemDescription) : Type 0 where
  pub fields : item_fields is_32 item ≡ true
  pub behind : (item_place item).placed ≡ true
  pub within : are_within last (extent_at (item_place item).extent) ≡ true
  pub below : last < 2 ^ 64

-- so many octets from an address on, all of them on a bus with this last address
pub record IsInside (last at octets : ℕ) : Type 0 where
  pub aligned : at % 4 ≡ 0
  pub within : at + octets ≤ last + 1
  pub below : at + octets ≤ 2 ^ 64

-- no two ranges of a list have an address in common
abbrev pub AreApart : List Extent → Type 0
AreApart es = (i j : ℕ) (a b : Extent) → i < j → slice_get es i ≡ Some a → slice_get es j ≡ Some b → (a.last < b.first) ⊎ (b.last < a.first)

-- ---- a sound bus

pub record IsSoundTop (last sdb items : ℕ) : Type 0 where
  pub whole_words : last % 4 ≡ 3
  pub below : last < 2 ^ 64
  pub rom : IsInside last sdb (64 * (items + 1))
  pub count : items ≤ 64

abbrev pub TopOfSound : Type 0
TopOfSound = (bus : BusDescription) → IsSoundBus bus → let b = out-BusDescription bus in IsSoundTop b.last b.sdb (length b.items)

abbrev pub ItemsOfSound : Type 0
ItemsOfSound = (bus : BusDescription) → IsSoundBus bus → let b = out-BusDescription bus in All (IsSoundItem b.last) b.items

-- what takes addresses on a bus, the ROM last
abbrev pub ApartOnSound : Type 0
ApartOnSound = (bus : BusDescription) → IsSoundBus bus → let b = out-BusDescription bus in AreApart (extents (map item_place b.items) ++ rom_extent b.sdb (length b.items) ∷ [])

-- ---- a sound item, by its kind

pub record IsSoundRam (last at size wait : ℕ) : Type 0 where
  pub place : IsInside last at size
  pub least : 4 ≤ size
  pub most : size ≤ 1048576
  pub whole_words : size % 4 ≡ 0
  pub waits : wait ≤ 15

pub record IsSoundRegs (last at words wait : ℕ) : Type 0 where
  pub place : IsInside last at (4 * words)
  pub least : 1 ≤ words
  pub most : words ≤ 1024
  pub waits : wait ≤ 15

pub record IsSoundFifo (last at depth wait : ℕ) : Type 0 where
  pub place : IsInside last at 8
  pub least : 1 ≤ depth
  pub most : depth ≤ 1024
  pub waits : wait ≤ 15

pub record IsSoundBridge (last at : ℕ) (bus : BusDescription) : Type 0 where
  pub place : IsInside last at ((out-BusDescription bus).last + 1)
  pub inner : IsSoundBus bus

abbrev pub RamOfSound : Type 0
RamOfSound = (last : ℕ) (p : Product) (at size : ℕ) (port : PortWord) (wait class major minor : ℕ)
    → IsSoundItem last (Ram p at size port wait class major minor) → IsSoundRam last at size wait

abbrev pub RegsOfSound : Type 0
RegsOfSound = (last : ℕ) (p : Product) (at : ℕ) (words : List Reg) (port : PortWord) (wait class major minor : ℕ)
    → IsSoundItem last (Regs p at words port wait class major minor) → IsSoundRegs last at (length words) wait

abbrev pub FifoOfSound : Type 0
FifoOfSound = (last : ℕ) (p : Product) (at depth : ℕ) (port : PortWord) (wait class major minor : ℕ)
    → IsSoundItem last (Fifo p at depth port wait class major minor) → IsSoundFifo last at depth wait

abbrev pub BridgeOfSound : Type 0
BridgeOfSound = (last : ℕ) (p : Product) (at : ℕ) (bus : BusDescription) → IsSoundItem last (Bridge p at bus) → IsSoundBridge last at bus

-- ---- levels: each bus behind a bridge has fewer than the bridge's

abbrev pub LevelsFall : Type 0
LevelsFall = (bus : BusDescription) → All (λ item. item_levels item < bus_levels bus) (out-BusDescription bus).items

abbrev pub LevelsOfBridge : Type 0
LevelsOfBridge = (p : Product) (at : ℕ) (bus : BusDescription) → item_levels (Bridge p at bus) ≡ bus_levels bus

-- ---- widths: a sound bus of 32 data bits is one of 32 or 64

abbrev pub WiderOfSound : Type 0
WiderOfSound = (bus : BusDescription) → IsSoundBus bus → IsSoundBusOf is_32_or_64 bus
