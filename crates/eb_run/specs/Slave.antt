-- A slave with a plain master, on which a stream is served.
use Rattle.std.specs.Prelude.{◌≡◌, ℕ, List}
use Rattle.eb_base.specs.declared.width.Width.TheVariants.{W32}
use Rattle.wb_signals.specs.History.{Entry}
use Rattle.eb_session.specs.Keeping.{new_session}
use Rattle.eb_server.specs.Rooms.{HasRoom}
use Rattle.soc_machine.specs.Machine.{MachineState, machine_width, wiring_of}
use Rattle.soc_machine.specs.Plain.{new_plain}
use Rattle.eb_run.specs.Streams.{System}
use Rattle.eb_run.specs.declared.slave.PlainSlave.{PlainSlave}

-- the slave, and the bus as it was when the session began
abbrev pub system_of : {R : Type 0} → PlainSlave R → System
system_of s = record { slave = s.session.slave; wiring = wiring_of s.master.began; contents = s.master.began.contents }

-- the entries of its cycles
abbrev pub entries_of : {R : Type 0} → PlainSlave R → List Entry
entries_of s = s.master.made

-- No stream was served on it.
pub record IsNewSlave {R : Type 0} (s : PlainSlave R) : Type 0 where
  pub session : s.session ≡ new_session s.session.slave
  pub width : s.session.slave.bus ≡ machine_width s.master.began
  pub master : s.master ≡ new_plain s.master.began 0
  pub room : HasRoom s.rooms

-- It was made of this machine and has its root table at this address.
pub record IsMade {R : Type 0} (machine : MachineState) (root : ℕ) (s : PlainSlave R) : Type 0 where
  pub fresh : IsNewSlave s
  pub slave_is : s.session.slave ≡ record { bus = W32; root = root }
  pub machine_is : s.master.began ≡ machine
