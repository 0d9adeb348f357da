-- What a journal holds.
use Rattle.std.specs.Prelude.{ℕ, List}
use Rattle.wb_signals.specs.History.{Entry}

-- its entries, and how many more there is room for
pub record JournalState : Type 0 where
  pub entries : List Entry
  pub spare : ℕ
