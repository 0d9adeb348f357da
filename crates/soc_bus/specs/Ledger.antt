-- What a bus tells as a value that passes between its masters: its history, a stake for each, and a charter.
use Rattle.std.specs.Prelude.{◌≡◌, ℕ, Bool, false, List}
use Rattle.soc_desc.specs.declared.description.Description.{Description}
use Rattle.wb_signals.specs.History.{Entry}
use Rattle.soc_journal.specs.Ledger.{Adds}
use Rattle.soc_core.specs.Core.{Stake, stake}
use Rattle.soc_bus.specs.View.{BusState}

-- What no event changes: the description that it was built from, and whether it is watched, which it never is yet.
pub record Charter : Type 0 where
  pub description : Description
  pub watched : Bool

abbrev pub history_of : BusState → List Entry
history_of b = b.core.journal

abbrev pub stake_in : BusState → ℕ → Stake
stake_in b m = stake b.core m

abbrev pub charter_of : BusState → Charter
charter_of b = record { description = b.description; watched = false }

-- An event of the master m: it adds entries of m alone, and leaves the stakes of the others and the charter.
abbrev pub AddsOwn : ℕ → BusState → BusState → Type 0
AddsOwn m old new = Adds history_of stake_in charter_of m old new

-- A tick: it leaves the history, all stakes and the charter.
abbrev pub KeepsLedger : BusState → BusState → Type 0
KeepsLedger old new = (history_of new ≡ history_of old) × ((n : ℕ) → stake_in new n ≡ stake_in old n) × (charter_of new ≡ charter_of old)
