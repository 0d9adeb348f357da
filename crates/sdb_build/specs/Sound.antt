-- Items that keep the rules of a description, on a bus with a base from which no address passes 64 bits.
use Rattle.std.specs.Prelude.{◌≡◌, ℕ, ◌+◌, ◌^◌, List, map, Bool, true, nat_lt}
use Rattle.std.specs.List.{list_all}
use Rattle.eb_base.specs.declared.width.Width.{Width}
use Rattle.soc_desc.specs.declared.geometry.Extent.{Extent}
use Rattle.soc_desc.specs.declared.description.ItemDescription.{ItemDescription}
use Rattle.soc_desc.specs.Geometry.{item_place, extents, extent_at, all_behind}
use Rattle.soc_desc.specs.Accepted.{all_of, item_fields}

-- no range ends above the last address, counted from this base
abbrev pub end_in_range : ℕ → List Extent → Bool
end_in_range base es = list_all (λ e. nat_lt (base + e.last) (2 ^ 64)) es

-- an item with all buses behind it, which have these widths
pub record IsSoundAt (widths : Width → Bool) (base : ℕ) (item : ItemDescription) : Type 0 where
  pub fields : item_fields widths item ≡ true
  pub places : (item_place item).placed ≡ true
  pub ends : end_in_range base (extent_at (item_place item).extent) ≡ true

-- the items of a bus, with all buses behind them
pub record AreSoundItems (widths : Width → Bool) (base : ℕ) (items : List ItemDescription) : Type 0 where
  pub fields : all_of (map (item_fields widths) items) ≡ true
  pub places : all_behind (map item_place items) ≡ true
  pub ends : end_in_range base (extents (map item_place items)) ≡ true
