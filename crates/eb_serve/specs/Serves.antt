-- Ports that are served beside each other on one described bus.
use Rattle.std.specs.Prelude.{◌≡◌, ℕ, ◌<◌, ◌≤◌, List, [], length, slice_index_or}
use Rattle.eb_base.specs.declared.width.Width.TheVariants.{W32}
use Rattle.wb_signals.specs.History.{Entry, IsLegal, own}
use Rattle.wb_signals.specs.Cycles.{MasterCycles}
use Rattle.soc_desc.specs.declared.description.Description.{Description}
use Rattle.soc_machine.specs.Described.{described_wiring, described_contents}
use Rattle.eb_net.specs.Accepting.{DoorState}
use Rattle.eb_session.specs.declared.slave.Slave.{Slave}
use Rattle.eb_ports.specs.Ends.{EndsState}
use Rattle.eb_ports.specs.Connections.{ServedPort}

-- What is kept of served ports: how the connections of each ended, in the order of the doors, and the entries of the one journal.
pub record ServeState : Type 0 where
  pub ports : List EndsState
  pub journal : List Entry

-- The slave that every connection is served as: its bus is the described one, whose SDB ROM is at the root address.
abbrev pub port_slave : Description → Slave
port_slave d = record { bus = W32; root = d.bus.sdb }

-- A master without an open cycle that has made these entries.
abbrev pub has_made : List Entry → MasterCycles
has_made entries = record { made = entries; opened = [] }

-- So many connections of each door were asked for, and door i was served as the master i: the journal is one legal history from the
-- described system as it is built; each door is there still, in its place, and its port was served by a master that made its own
-- part of the journal, from nothing, with no cycle open before or after; and the masters beyond the doors have made nothing.
pub record Serves {D : Type 0} (told : D → DoorState) (d : Description) (count : ℕ) (doors doors' : List D) (r : ServeState) : Type 0 where
  pub legal : IsLegal (described_wiring d) (described_contents d) r.journal
  pub doors_count : length doors' ≡ length doors
  pub ports_count : length r.ports ≡ length doors
  pub served : (i : ℕ) (f f' : D) (p : EndsState) → i < length doors
      → ServedPort i (port_slave d) count (told (slice_index_or doors i f)) (told (slice_index_or doors' i f')) (has_made []) (has_made (own i r.journal)) (slice_index_or r.ports i p)
  pub others : (m : ℕ) → length doors ≤ m → own m r.journal ≡ []
