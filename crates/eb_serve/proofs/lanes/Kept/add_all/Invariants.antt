use Rattle.std.proofs.Common.{◌≡◌, ◌++◌, length}
use Rattle.std.specs.Vec.Iter.{into_iter_items, into_iter_len}
use Rattle.eb_serve.specs.Seats.{WereKept, KeepsSpace}
use Rattle.eb_serve.proofs.lanes.Kept.add_all.Given as goal

abbrev pub invariant-loop-lane : goal.invariant-loop-lane
invariant-loop-lane g l = record {
  lanes : l.yielded ++ into_iter_items l.lane-iterator ≡ l.fn.lanes.items;
  kept : WereKept l.yielded l.self.doors.items l.self.passes.items l.self.ports.items;
  space : KeepsSpace (length (into_iter_items l.lane-iterator)) l.self;
  len : into_iter_len l.lane-iterator ≡ length (into_iter_items l.lane-iterator);
}
