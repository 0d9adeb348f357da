-- A slave on a port of the clocked bus, on which a stream is served.
use Rattle.std.specs.Prelude.{◌≡◌, List, []}
use Rattle.eb_base.specs.declared.width.Width.TheVariants.{W32}
use Rattle.wb_signals.specs.History.{Entry}
use Rattle.eb_session.specs.Keeping.{new_session}
use Rattle.eb_server.specs.Rooms.{HasRoom}
use Rattle.soc_desc.specs.declared.description.Description.{Description}
use Rattle.soc_core.specs.Built.{fabric_of}
use Rattle.soc_bus.specs.Local.{made_since, cycles_since}
use Rattle.eb_run.specs.Streams.{System, described_system}
use Rattle.eb_run.specs.declared.port_slave.PortSlave.{PortSlave}

-- the slave, and the bus as it was when the session began
abbrev pub port_system : PortSlave → System
port_system s = record { slave = s.session.slave; wiring = (fabric_of s.port.bus.now.description).wiring; contents = s.port.began.value.core.contents }

-- the entries of its cycles
abbrev pub port_entries : PortSlave → List Entry
port_entries s = made_since s.port.began.value s.port.bus.now

-- No stream was served on it.
pub record IsNewPort (s : PortSlave) : Type 0 where
  pub session : s.session ≡ new_session s.session.slave
  pub width : s.session.slave.bus ≡ W32
  pub number : s.port.m ≡ 0
  pub none : cycles_since s.port.began.value s.port.bus.now s.port.m ≡ record { made = []; opened = [] }
  pub room : HasRoom s.rooms

-- It is on the first port of this described bus as it is built, whose SDB ROM is at the root address.
pub record IsOnPort (d : Description) (s : PortSlave) : Type 0 where
  pub fresh : IsNewPort s
  pub system_is : port_system s ≡ described_system d
