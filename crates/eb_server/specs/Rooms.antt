-- The rooms of a stream.
use Rattle.std.specs.Prelude.{◌+◌, ◌<◌, ◌≤◌, length, vec_capacity}
use Rattle.eb_server.specs.declared.rooms.Rooms.{Rooms}

-- A piece has room, and the replies to what pends before it and to it.
pub record HasRoom (rooms : Rooms) : Type 0 where
  pub some : 0 < length rooms.piece.items
  pub fits : length rooms.piece.items + 4103 ≤ vec_capacity rooms.replies
