use Rattle.std.proofs.Common.{◌≡◌, ◌++◌, ◌≤◌, length}
use Rattle.std.specs.Prelude.{All, vec_capacity}
use Rattle.std.specs.Vec.Iter.{into_iter_items, into_iter_len}
use Rattle.eb_replay.specs.Lanes.{EachAt}
use Rattle.eb_ports.specs.Ends.{no_ends}
use Rattle.eb_serve.specs.Seats.{IsAtDoor}
use Rattle.eb_serve.proofs.lanes.seat.Given as goal

abbrev pub invariant-loop-door : goal.invariant-loop-door
invariant-loop-door g l = record {
  doors : l.yielded ++ into_iter_items l.door-iterator ≡ l.fn.doors.items;
  count : length l.lanes.items ≡ length l.yielded;
  seated : EachAt (IsAtDoor l.turn l.connections l.fn.doors.items) l.lanes.items;
  root : l.root ≡ record l.initial.root { made = length l.yielded };
  ends : length l.ends.items ≡ length (into_iter_items l.door-iterator);
  ready : All (λ e. e ≡ no_ends l.connections) l.ends.items;
  space : length l.fn.doors.items ≤ vec_capacity l.lanes;
  len : into_iter_len l.door-iterator ≡ length (into_iter_items l.door-iterator);
}
