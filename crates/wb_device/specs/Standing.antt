-- A request that stands at a device, as contracts see it.
use Rattle.std.specs.Prelude.{ℕ, ◌≤◌, true, [], ◌∷◌, Option, Some, None}
use Rattle.wb_signals.specs.Standing.{Standing, ClassicSlave}
use Rattle.wb_device.specs.State.{DeviceState}
use Rattle.wb_device.specs.Line.{device_leaf}
use Rattle.wb_device.specs.declared.held.Standing.{Standing as HeldStanding}

abbrev pub held_standing : Option HeldStanding → Option Standing
held_standing None = None
held_standing (Some s) = Some (record { request = s.request; answer = s.answer; clocks = s.clocks })

-- It has not stood for more clocks than it waits.
abbrev pub Within : ℕ → Option HeldStanding → Type 0
Within wait None = Unit {0}
Within wait (Some s) = s.clocks ≤ wait

-- A device by itself that waits so many clocks, and holds its requests.
abbrev pub held_leaf : DeviceState → ℕ → Option HeldStanding → ClassicSlave
held_leaf d wait standing = record { wiring = device_leaf d wait true; wait = wait; contents = d.content ∷ []; standing = held_standing standing }
