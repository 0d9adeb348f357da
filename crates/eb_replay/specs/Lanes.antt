-- The lanes of files, before their streams are served and after.
use Rattle.std.specs.Prelude.{◌≡◌, ℕ, ◌+◌, ◌<◌, ◌≤◌, List, [], length, map, slice_index_or, vec_capacity, Some, All}
use Rattle.atomic_table.specs.Seated.{TableId}
use Rattle.eb_io.specs.Reading.{Reading}
use Rattle.eb_session.specs.declared.slave.Slave.{Slave}
use Rattle.eb_session.specs.Keeping.{new_session}
use Rattle.eb_server.specs.Rooms.{HasRoom}
use Rattle.eb_server.specs.Serving.{Served}
use Rattle.soc_turn.specs.Views.{PassView}
use Rattle.soc_bus.specs.View.{BusState}
use Rattle.eb_shared.specs.declared.lanes.Lane.{Lane}
use Rattle.eb_shared.specs.Shared.{number_told, cycles_told}
use Rattle.eb_shared.specs.Lanes.{IsThere}
use Rattle.eb_replay.specs.Capture.{CaptureState, IsCapture, new_capture, capture_reading, capture_writing}
use Rattle.eb_replay.specs.Ports.{PortOutcome, told_ending}
use Rattle.eb_replay.specs.declared.lanes.LaneRoom.{LaneRoom}
use Rattle.eb_replay.specs.declared.lanes.Ended.{Ended}

-- What a lane takes of memory is there, and no stream was served in it.
pub record IsUnused (s : Slave) (room : LaneRoom) : Type 0 where
  pub session : room.session ≡ new_session s
  pub rooms : HasRoom room.rooms

-- Each item of a list, with its place.
abbrev pub EachAt : {X : Type 0} → (ℕ → X → Type 0) → List X → Type 0
EachAt {X = X} P xs = (i : ℕ) (d : X) → i < length xs → P i (slice_index_or xs i d)

-- The lane of file i: it is the master i, which has made nothing and has no cycle.
pub record IsSeated {F : Type 0} (turn : TableId) (s : Slave) (files : List F) (i : ℕ) (lane : Lane (CaptureState F)) : Type 0 where
  pub link : (f : F) → lane.link ≡ new_capture (slice_index_or files i f)
  pub session : lane.session ≡ new_session s
  pub rooms : HasRoom lane.rooms
  pub there : IsThere turn lane.pass
  pub number : number_told lane.pass ≡ i
  pub none : cycles_told lane.pass ≡ record { made = []; opened = [] }

-- The streams of lanes were served, each with its master's pass.
pub record LanesServed {F : Type 0} (reading : F → Reading) (lanes lanes' : List (Lane (CaptureState F))) : Type 0 where
  pub numbers : (i : ℕ) (l : Lane (CaptureState F)) → i < length lanes → number_told (slice_index_or lanes' i l).pass ≡ number_told (slice_index_or lanes i l).pass
  pub streams : (i : ℕ) (l : Lane (CaptureState F)) → i < length lanes → Served (number_told (slice_index_or lanes i l).pass) (slice_index_or lanes i l).session.slave
      (cycles_told (slice_index_or lanes i l).pass) (cycles_told (slice_index_or lanes' i l).pass)
      (capture_reading reading (slice_index_or lanes i l).link) (capture_reading reading (slice_index_or lanes' i l).link)
      (capture_writing (slice_index_or lanes i l).link) (capture_writing (slice_index_or lanes' i l).link) (slice_index_or lanes' i l).ending

-- Nothing is kept yet.
pub record HasNone {F : Type 0} (e : Ended F) : Type 0 where
  pub files : e.files.items ≡ []
  pub passes : e.passes.items ≡ []
  pub ports : e.ports.items ≡ []

-- There is space for so many lanes more.
pub record HasSpace {F : Type 0} (n : ℕ) (e : Ended F) : Type 0 where
  pub files : length e.files.items + n ≤ vec_capacity e.files
  pub passes : length e.passes.items + n ≤ vec_capacity e.passes
  pub ports : length e.ports.items + n ≤ vec_capacity e.ports

-- What is kept of a lane.
abbrev pub port_of : {F : Type 0} → Lane (CaptureState F) → PortOutcome
port_of lane = record { ending = told_ending lane.link.refused lane.ending; reply = lane.link.replies }

-- Lanes were taken apart, in their order.
pub record HaveEnded {F : Type 0} (reading : F → Reading) (lanes : List (Lane (CaptureState F))) (files : List F) (passes : List (PassView BusState)) (ports : List PortOutcome) : Type 0 where
  pub files_are : files ≡ map (λ lane. lane.link.file) lanes
  pub passes_are : map (λ pass. Some pass) passes ≡ map (λ lane. lane.pass) lanes
  pub ports_are : ports ≡ map port_of lanes
  pub kept : All (λ lane. IsCapture reading lane.link) lanes
