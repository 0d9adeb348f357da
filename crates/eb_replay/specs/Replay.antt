-- Captures that are replayed beside each other on one described bus.
use Rattle.std.specs.Prelude.{◌≡◌, ℕ, ◌<◌, ◌≤◌, List, [], length, slice_index_or}
use Rattle.eb_base.specs.declared.width.Width.TheVariants.{W32}
use Rattle.eb_io.specs.Reading.{Reading}
use Rattle.wb_signals.specs.History.{Entry, IsLegal, own}
use Rattle.soc_desc.specs.declared.description.Description.{Description}
use Rattle.soc_machine.specs.Described.{described_wiring, described_contents}
use Rattle.eb_session.specs.declared.slave.Slave.{Slave}
use Rattle.eb_replay.specs.Ports.{PortOutcome, ServedFile}

-- What is kept of a replay: each port in the order of the captures, and the entries of the one journal.
pub record ReplayState : Type 0 where
  pub ports : List PortOutcome
  pub journal : List Entry

-- The slave at which every capture is replayed: its bus is the described one, whose SDB ROM is at the root address.
abbrev pub replay_slave : Description → Slave
replay_slave d = record { bus = W32; root = d.bus.sdb }

-- Files were replayed, file i as the master i: the journal is one legal history from the described system as it is built; each
-- file is there still, in its place, and its stream was served with its master's own part of the journal; and the masters beyond
-- the files have made nothing.
pub record Replays {F : Type 0} (reading : F → Reading) (d : Description) (files files' : List F) (r : ReplayState) : Type 0 where
  pub legal : IsLegal (described_wiring d) (described_contents d) r.journal
  pub files_count : length files' ≡ length files
  pub ports_count : length r.ports ≡ length files
  pub served : (i : ℕ) (f f' : F) (p : PortOutcome) → i < length files
      → ServedFile (replay_slave d) (reading (slice_index_or files i f)) (reading (slice_index_or files' i f')) (own i r.journal) (slice_index_or r.ports i p)
  pub others : (m : ℕ) → length files ≤ m → own m r.journal ≡ []
