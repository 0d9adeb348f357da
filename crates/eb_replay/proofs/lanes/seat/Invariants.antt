use Rattle.std.proofs.Common.{◌≡◌, ◌++◌, ◌≤◌, length}
use Rattle.std.specs.Prelude.{All, vec_capacity}
use Rattle.std.specs.Vec.Iter.{into_iter_items, into_iter_len}
use Rattle.eb_replay.specs.Replay.{replay_slave}
use Rattle.eb_replay.specs.Lanes.{EachAt, IsUnused, IsSeated}
use Rattle.eb_replay.proofs.lanes.seat.Given as goal

abbrev pub invariant-loop-file : goal.invariant-loop-file
invariant-loop-file g l = record {
  files : l.yielded ++ into_iter_items l.file-iterator ≡ l.fn.files.items;
  count : length l.lanes.items ≡ length l.yielded;
  seated : EachAt (IsSeated l.turn (replay_slave l.initial.root.origin.description) l.fn.files.items) l.lanes.items;
  root : l.root ≡ record l.initial.root { made = length l.yielded };
  rooms : length l.rooms.items ≡ length (into_iter_items l.file-iterator);
  ready : All (IsUnused (replay_slave l.initial.root.origin.description)) l.rooms.items;
  space : length l.fn.files.items ≤ vec_capacity l.lanes;
  len : into_iter_len l.file-iterator ≡ length (into_iter_items l.file-iterator);
}
