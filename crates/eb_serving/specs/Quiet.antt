-- A server whose doors, peers and output don't fail, and whose peers send whole streams.
use Rattle.std.specs.Prelude.{◌≡◌, ℕ, List, ◌++◌, All, Some}
use Rattle.eb_base.specs.declared.width.Width.TheVariants.{W32}
use Rattle.eb_io.specs.Counts.{Rose}
use Rattle.eb_net.specs.Accepting.{Connection, DoorState, connections}
use Rattle.eb_net.specs.Posting.{Datagram, Posting}
use Rattle.eb_session.specs.Replies.{sets_of}
use Rattle.eb_server.specs.Serving.{EndsAs}
use Rattle.eb_server.specs.declared.ending.Ending.TheVariants as ending
use Rattle.eb_serving.specs.ServingWords.{ServingTask, PortsTask, PostTask}
use Rattle.eb_serving.specs.ServingRuns.{PortRun}

-- The octets are a whole stream of a slave on a bus of 32 data bits.
abbrev pub IsWholeStream : List ℕ → Type 0
IsWholeStream octets = EndsAs (sets_of W32) octets ending.Clean

-- A connection tells both what it gave and what it has left, and these together are a whole stream.
pub record IsWholeConnection (c : Connection) : Type 0 where
  pub given : List ℕ
  pub left : List ℕ
  pub given_is : c.given ≡ Some given
  pub left_is : c.left ≡ Some left
  pub whole : IsWholeStream (given ++ left)

-- No accept, read or write of a door that was new failed, and each connection that it tells is a whole stream.
pub record IsQuietDoor (door : DoorState) : Type 0 where
  pub held : List Connection
  pub told : connections door ≡ Some held
  pub whole : All IsWholeConnection held
  pub accept_faults : Rose 0 door.accepting.faults → ⊥
  pub read_faults : Rose 0 door.reading.faults → ⊥
  pub write_faults : Rose 0 door.writing.faults → ⊥

-- No receive or send of a post that was new failed, and each datagram that it tells is a whole stream.
pub record IsQuietPost (post : Posting) : Type 0 where
  pub held : List Datagram
  pub told : post.received ≡ Some held
  pub whole : All (λ datagram. IsWholeStream datagram.octets) held
  pub read_faults : Rose 0 post.faults.reads → ⊥
  pub write_faults : Rose 0 post.faults.writes → ⊥

-- The doors behind those that the net had, or its post, are quiet.
abbrev pub AreQuietPeers : {D P L : Type 0} → PortRun D P L → ServingTask → Type 0
AreQuietPeers {D} run (PortsTask ask) = (doors : List D) × (run.net'.doors ≡ run.net.doors ++ doors) × All (λ door. IsQuietDoor (run.state door)) doors
AreQuietPeers {D} {P} run (PostTask ask) = (post : P) × (run.net'.post ≡ Some post) × IsQuietPost (run.posting post)

-- And no count of faults of the net or the output rose.
pub record IsQuietServing {D P L : Type 0} (run : PortRun D P L) (task : ServingTask) : Type 0 where
  pub peers : AreQuietPeers run task
  pub door_faults : Rose run.net.door_faults run.net'.door_faults → ⊥
  pub write_faults : Rose run.out.faults run.out'.faults → ⊥
