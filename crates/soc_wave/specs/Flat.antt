-- The rows of a wave in one flat room, one behind the other.
use Rattle.std.specs.Prelude.{◌≡◌, ◌≤◌, ℕ, zero, suc, ◌+◌, ◌*◌, List, [], ◌∷◌, take, drop, Option}
use Rattle.wb_signals.specs.declared.port_row.PortRow.{PortRow}
use Rattle.wb_signals.specs.Wave.{WaveRowState}

-- A wave: its rows, how many more there is room for, and how many ports and top slaves each row has.
pub record WaveState : Type 0 where
  pub rows : List WaveRowState
  pub spare : ℕ
  pub ports : ℕ
  pub slaves : ℕ

-- The first n rows of so many ports and top slaves each.
abbrev pub rows_in : ℕ → ℕ → ℕ → List PortRow → List (Option ℕ) → List WaveRowState
rows_in zero p s ports holders = []
rows_in (suc n) p s ports holders = record { ports = take p ports; holders = take s holders } ∷ rows_in n p s (drop p ports) (drop s holders)

-- So many parts of n items each fill the length, and there is room for so many more.
pub record HasParts (length room parts spare n : ℕ) : Type 0 where
  pub all : length ≡ parts * n
  pub more : length + spare * n ≤ room
