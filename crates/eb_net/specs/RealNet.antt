-- The real sockets.
use Rattle.eb_net.specs.Network.{Network}
use Rattle.eb_net.specs.NetShelf.{network_of}
use Rattle.eb_net.specs.declared.sockets.TcpDoor.{TcpDoor}
use Rattle.eb_net.specs.declared.sockets.UdpPost.{UdpPost}
use Rattle.eb_net.specs.declared.sockets.TcpLink.{TcpLink}
use Rattle.eb_net.specs.declared.real_net.RealNet.{RealNet}

-- what it tells; of its sockets, their counts of faults alone
abbrev pub real_network : RealNet → Network TcpDoor UdpPost TcpLink
real_network n = network_of n.shelf
