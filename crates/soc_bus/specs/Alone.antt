-- A clock in which one port alone has a request or is owed an answer.
use Rattle.std.specs.Prelude.{◌≡◌, ◌≢◌, ◌≤◌, ◌<◌, ℕ, List, length, map, slice_get, Some, None}
use Rattle.wb_signals.specs.declared.port_row.PortRow.{PortRow}
use Rattle.wb_port.specs.Port.{PortState}
use Rattle.soc_core.specs.Core.{CorePort}
use Rattle.soc_core.specs.Sound.{is_busy_phase}
use Rattle.soc_bus.specs.Clocked.{driving}
use Rattle.soc_bus.specs.declared.alone.Active.{Active}
use Rattle.soc_bus.specs.declared.alone.Active.TheVariants.{Nobody, One, Many}

-- All ports have all answers to what they have loaded, or all but this one, or those from one on and before another.
abbrev pub AreAllDone : List PortState → Type 0
AreAllDone ports = (n : ℕ) (p : PortState) → slice_get ports n ≡ Some p → length p.answers ≡ length p.loaded

abbrev pub AreOthersDone : ℕ → List PortState → Type 0
AreOthersDone m ports = (n : ℕ) (p : PortState) → n ≢ m → slice_get ports n ≡ Some p → length p.answers ≡ length p.loaded

abbrev pub AreDoneBetween : ℕ → ℕ → List PortState → Type 0
AreDoneBetween from to ports = (n : ℕ) (p : PortState) → from ≤ n → n < to → slice_get ports n ≡ Some p → length p.answers ≡ length p.loaded

abbrev pub IsActive : Active → List PortState → Type 0
IsActive Nobody ports = AreAllDone ports
IsActive (One m) ports = (m < length ports) × AreOthersDone m ports
IsActive Many ports = Unit {0}

-- The rows of ports that drive nothing.
abbrev pub resting_rows : List CorePort → List PortRow
resting_rows = map (λ c. driving (is_busy_phase c.phase) None)
