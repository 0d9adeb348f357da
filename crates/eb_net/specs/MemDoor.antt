-- A door in memory.
use Rattle.std.specs.Prelude.{Some, map}
use Rattle.eb_io.specs.Plan.{Plan}
use Rattle.eb_net.specs.Accepting.{Accepting, DoorState}
use Rattle.eb_net.specs.DoorLink.{left_on, connection_of, standing_reading, standing_writing}
use Rattle.eb_net.specs.Tries.{tries_of}
use Rattle.eb_net.specs.declared.door_link.DoorLink.{DoorLink}
use Rattle.eb_net.specs.declared.mem_door.MemDoor.{MemDoor}

-- what it tells of its accepts
abbrev pub door_accepting : MemDoor → Accepting
door_accepting d = record {
  links = Some (map left_on d.links.items);
  earlier = Some (map connection_of d.earlier.items);
  began = d.began;
  faults = d.faults;
}

-- all that it tells
abbrev pub door_state : MemDoor → DoorState
door_state d = record { reading = standing_reading d.standing; writing = standing_writing d.standing; accepting = door_accepting d }

-- its accepts
abbrev pub accepts_of : MemDoor → Plan
accepts_of d = tries_of d.tries

-- the door where the connection that stands is another
abbrev pub door_with : MemDoor → DoorLink → MemDoor
door_with d c = record d { standing = c }
