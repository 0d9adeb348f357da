-- A post that is served on a described bus.
use Rattle.std.specs.Prelude.{◌≡◌, ◌≤◌, ℕ, List, []}
use Rattle.wb_signals.specs.History.{Entry, IsLegal, own}
use Rattle.soc_desc.specs.declared.description.Description.{Description}
use Rattle.soc_machine.specs.Described.{described_wiring, described_contents}
use Rattle.eb_net.specs.Posting.{Posting}
use Rattle.eb_ports.specs.Ends.{EndsState, no_ends}
use Rattle.eb_ports.specs.Datagrams.{ServedPost}
use Rattle.eb_serve.specs.Serves.{port_slave, has_made}

-- What is kept of a post that was served: how its datagrams ended, in their order, and the entries of the journal.
pub record PostState : Type 0 where
  pub ends : EndsState
  pub journal : List Entry

-- So many datagrams of a post were asked for, and it was served by the master 0: the journal is one legal history from the described
-- system as it is built; the master made its own part of it, from nothing, with no cycle open before or after; and the other masters
-- have made nothing.
pub record ServesDatagrams (d : Description) (count : ℕ) (old new : Posting) (r : PostState) : Type 0 where
  pub legal : IsLegal (described_wiring d) (described_contents d) r.journal
  pub served : ServedPost 0 (port_slave d) count old new (has_made []) (has_made (own 0 r.journal)) (no_ends count) r.ends
  pub others : (m : ℕ) → 1 ≤ m → own m r.journal ≡ []
