-- A line of answers, each at the index that is its due.
use Rattle.std.specs.Prelude.{ℕ, ◌+◌, ◌%◌, ◌^◌, ◌==◌, ◌&&◌, nat_lt, Bool, false, List, [], ◌∷◌, Option, Some, None}
use Rattle.eb_base.specs.Width.{octets}
use Rattle.wb_signals.specs.Request.{Request}
use Rattle.wb_signals.specs.Content.{Content, size_of}
use Rattle.wb_signals.specs.Device.{device}
use Rattle.wb_signals.specs.Wiring.{Wiring}
use Rattle.wb_signals.specs.Bus.{leaf}
use Rattle.wb_signals.specs.Slave.{Owed, Slave}
use Rattle.wb_signals.specs.declared.answer.Answer.{Answer}
use Rattle.wb_device.specs.State.{DeviceState}

-- what the line owes, from index k on
abbrev pub owed_from : ℕ → List (Option Answer) → List Owed
owed_from k [] = []
owed_from k (None ∷ line) = owed_from (k + 1) line
owed_from k (Some answer ∷ line) = record { place = 0; answer = answer; due = k } ∷ owed_from (k + 1) line

-- whether a device takes an operation
abbrev pub is_taken : DeviceState → Request → Bool
is_taken d r = (r.adr % octets d.bus == 0) && (nat_lt r.adr (size_of d.content) && nat_lt r.sel (2 ^ octets d.bus))

-- What an operation, if there is one, makes of a device's content, and its answer.
abbrev pub content_after : DeviceState → Option Request → Content
content_after d None = d.content
content_after d (Some r) = (device d.bus d.content r).content

abbrev pub answer_to : DeviceState → Option Request → Option Answer
answer_to d None = None
answer_to d (Some r) = Some ((device d.bus d.content r).answer)

-- the wiring of a device by itself with its path wait, and whether it stalls while it waits
abbrev pub device_leaf : DeviceState → ℕ → Bool → Wiring
device_leaf d wait holds = leaf d.bus (size_of d.content) wait holds

-- a device by itself that waits so many clocks and never stalls
abbrev pub piped_leaf : DeviceState → ℕ → List Owed → Slave
piped_leaf d wait owed = record { wiring = device_leaf d wait false; contents = d.content ∷ []; owed = owed }
