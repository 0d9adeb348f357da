-- The signals of a bus in a clock, as contracts see them.
use Rattle.std.specs.Prelude.{ℕ, List, Option}
use Rattle.wb_signals.specs.declared.port_row.PortRow.{PortRow}

-- The rows of its ports, and for each top slave the port that holds it.
pub record WaveRowState : Type 0 where
  pub ports : List PortRow
  pub holders : List (Option ℕ)
