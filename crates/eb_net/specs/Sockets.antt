-- TCP connections and ports, and UDP ports: what they tell is their counts of faults alone.
use Rattle.std.specs.Prelude.{None}
use Rattle.eb_io.specs.Reading.{Reading}
use Rattle.eb_io.specs.Writing.{Writing, Nothing}
use Rattle.eb_net.specs.Accepting.{Accepting}
use Rattle.eb_net.specs.Posting.{Posting}
use Rattle.eb_net.specs.declared.sockets.TcpLink.{TcpLink}
use Rattle.eb_net.specs.declared.sockets.TcpDoor.{TcpDoor}
use Rattle.eb_net.specs.declared.sockets.UdpPost.{UdpPost}

abbrev pub tcp_reading : TcpLink → Reading
tcp_reading l = record { given = None; left = None; faults = l.read_faults }

abbrev pub tcp_writing : TcpLink → Writing
tcp_writing l = record { written = Nothing; faults = l.write_faults }

-- no accept is told but for their count of faults
abbrev pub tcp_accepting : TcpDoor → Accepting
tcp_accepting d = record { links = None; earlier = None; began = None; faults = d.faults }

-- the door where the connection that stands is another
abbrev pub tcp_with : TcpDoor → TcpLink → TcpDoor
tcp_with d l = record d { standing = l }

abbrev pub udp_posting : UdpPost → Posting
udp_posting p = record { received = None; left = None; sent = None; faults = record { reads = p.read_faults; writes = p.write_faults } }
