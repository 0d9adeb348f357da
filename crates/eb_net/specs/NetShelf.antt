-- What a net keeps.
use Rattle.std.specs.Prelude.{map, string_bytes}
use Rattle.eb_net.specs.Network.{Network, Wanted, door_at, post_at, link_to}
use Rattle.eb_net.specs.declared.net_shelf.Ask.{Ask}
use Rattle.eb_net.specs.declared.net_shelf.Ask.TheVariants as ask
use Rattle.eb_net.specs.declared.net_shelf.NetShelf.{NetShelf}

-- what was asked for
abbrev pub wanted_by : Ask → Wanted
wanted_by (ask.Door port) = door_at port
wanted_by (ask.Post port) = post_at port
wanted_by (ask.Link address) = link_to (string_bytes address)

-- what a net with this shelf tells
abbrev pub network_of : {D P L : Type 0} → NetShelf D P L → Network D P L
network_of s = record {
  asked = map wanted_by s.asked.items;
  doors = s.doors.items;
  post = s.post;
  link = s.link;
  door_faults = s.door_faults;
  dial_faults = s.dial_faults;
}
