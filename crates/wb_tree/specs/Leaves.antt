-- A device on its bus, as a slave that owes nothing.
use Rattle.std.specs.Prelude.{ℕ, Bool, [], ◌∷◌}
use Rattle.wb_signals.specs.Slave.{Slave}
use Rattle.wb_device.specs.State.{DeviceState}
use Rattle.wb_device.specs.Line.{device_leaf}

-- with its path wait, and whether it stalls while it waits
abbrev pub leaf_slave : DeviceState → ℕ → Bool → Slave
leaf_slave d wait stalls = record { wiring = device_leaf d wait stalls; contents = d.content ∷ []; owed = [] }
