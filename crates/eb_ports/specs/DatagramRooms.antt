-- The rooms of a datagram.
use Rattle.std.specs.Prelude.{◌≡◌, ◌≤◌, length, vec_capacity}
use Rattle.eb_net.specs.Posting.{most_of_datagram}
use Rattle.eb_ports.specs.declared.datagram.DatagramRooms.{DatagramRooms}

-- There is room for the greatest datagram, and for as many octets of replies.
pub record HasDatagramRoom (rooms : DatagramRooms) : Type 0 where
  pub octets : length rooms.octets.items ≡ most_of_datagram
  pub replies : most_of_datagram ≤ vec_capacity rooms.replies
