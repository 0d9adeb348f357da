use Rattle.std.proofs.Common.{◌≡◌, ◌++◌, length}
use Rattle.std.specs.Vec.Iter.{into_iter_items, into_iter_len}
use Rattle.eb_replay.specs.Lanes.{HaveEnded, HasSpace}
use Rattle.eb_replay.proofs.lanes.Ended.add_all.Given as goal

abbrev pub invariant-loop-lane : goal.invariant-loop-lane
invariant-loop-lane g l = record {
  lanes : l.yielded ++ into_iter_items l.lane-iterator ≡ l.fn.lanes.items;
  ended : HaveEnded g.F.Source.reading l.yielded l.self.files.items l.self.passes.items l.self.ports.items;
  space : HasSpace (length (into_iter_items l.lane-iterator)) l.self;
  len : into_iter_len l.lane-iterator ≡ length (into_iter_items l.lane-iterator);
}
