-- The bus cycles of a list of items.
use Rattle.std.specs.Prelude.{◌≡◌, ℕ, ◌+◌, length, Bool, true, false, List, [], ◌∷◌, ◌++◌, map, Option, Some, None}
use Rattle.eb_base.specs.declared.width.Width.{Width}
use Rattle.eb_codec.specs.declared.item.Header.{Header}
use Rattle.eb_codec.specs.Stream.{StreamItem, Probed, Headed, Recorded, header_after}
use Rattle.wb_signals.specs.Request.{Request}
use Rattle.wb_signals.specs.History.{Entry, Group, group, marked}
use Rattle.eb_session.specs.Operations.{record_ops, ends_cycle}

-- The cycles that ended, and the operations of the one that is open.
pub record Cycles : Type 0 where
  pub whole : List Group
  pub opened : List Request

-- No cycle yet.
abbrev pub no_cycles : Cycles
no_cycles = record { whole = []; opened = [] }

-- More operations go to the open cycle, which ends after them or not.
abbrev pub cycles_more : Cycles → List Request → Bool → Cycles
cycles_more c ops false = record { whole = c.whole; opened = c.opened ++ ops }
cycles_more c ops true = record { whole = c.whole ++ group false (c.opened ++ ops); opened = [] }

-- The operations of an item, given the header that came before it. Only a record has them, and it stands after a header.
abbrev pub item_ops : Width → Option Header → StreamItem → List Request
item_ops bus (Some h) (Recorded r) = record_ops bus h r
item_ops bus None (Recorded r) = []
item_ops bus header (Probed p) = []
item_ops bus header (Headed h) = []

-- whether an item ends a cycle
abbrev pub item_ends : StreamItem → Bool
item_ends (Recorded r) = ends_cycle r
item_ends x = false

-- What items that follow make of the cycles so far.
abbrev pub cycles_from : Width → Option Header → Cycles → List StreamItem → Cycles
cycles_from bus header c [] = c
cycles_from bus header c (x ∷ xs) = cycles_from bus (header_after header x) (cycles_more c (item_ops bus header x) (item_ends x)) xs

-- The cycles of a stream's items.
abbrev pub cycles_in : Width → List StreamItem → Cycles
cycles_in bus items = cycles_from bus None no_cycles items

-- What is asked in all of them, the last one cut where no record ended it.
abbrev pub groups_in : Width → List StreamItem → List Group
groups_in bus items = (cycles_in bus items).whole ++ group true (cycles_in bus items).opened

-- Entries fit the cycles of items: they are as many, with the same marks and the same operations.
abbrev pub Fit : Width → List StreamItem → List Entry → Type 0
Fit bus items entries = map marked entries ≡ groups_in bus items

-- How many operations items have.
abbrev pub count_from : Width → Option Header → List StreamItem → ℕ
count_from bus header [] = 0
count_from bus header (x ∷ xs) = length (item_ops bus header x) + count_from bus (header_after header x) xs
