-- A sink in memory.
use Rattle.std.specs.Prelude.{◌≡◌, ◌⊎◌, ℕ, ◌-◌, length}
use Rattle.eb_io.specs.Writing.{Writing, Octets}
use Rattle.eb_io.specs.Plan.{Plan, FailsNow}
use Rattle.eb_io.specs.Calls as calls
use Rattle.eb_io.specs.declared.sink.MemSink.{MemSink}

-- what it tells
abbrev pub writing_of : MemSink → Writing
writing_of s = record { written = Octets s.octets.items; faults = s.faults }

-- its calls
abbrev pub plan_of : MemSink → Plan
plan_of s = calls.plan_of s.calls

-- how many octets it has room for, those written included
abbrev pub room_of : MemSink → ℕ
room_of s = s.room

-- how many more it has room for
abbrev pub room_left : MemSink → ℕ
room_left s = s.room - length s.octets.items

-- The next call fails: it is one of those that fail, or no room is left.
abbrev pub WillFail : MemSink → Type 0
WillFail s = FailsNow (plan_of s) ⊎ (room_left s ≡ 0)
