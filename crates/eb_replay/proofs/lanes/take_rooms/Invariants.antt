use Rattle.std.proofs.Common.{◌≡◌, ◌≤◌, length}
use Rattle.std.specs.Prelude.{All, vec_capacity}
use Rattle.eb_replay.specs.Lanes.{IsUnused}
use Rattle.eb_replay.proofs.lanes.take_rooms.Given as goal

abbrev pub invariant-loop : goal.invariant-loop
invariant-loop l = (length l.rooms.items ≡ l.counter) × (l.count ≤ vec_capacity l.rooms) × All (IsUnused l.slave) l.rooms.items
