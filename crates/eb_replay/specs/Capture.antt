-- A file whose octets are read as a capture, with the replies to them kept in memory.
use Rattle.std.specs.Prelude.{◌≡◌, ℕ, ◌+◌, ◌<◌, Bool, true, false, List, [], length, Some, IfSome}
use Rattle.eb_io.specs.Reading.{Reading}
use Rattle.eb_io.specs.Writing.{Writing, Octets}

-- A capture's link: its file, the octets that it gave through the link, the octets of replies that were written, how many more
-- the link takes, whether it had no room for replies to what a read would give, and how many reads and writes failed.
pub record CaptureState (F : Type 0) : Type 0 where
  pub file : F
  pub octets : List ℕ
  pub replies : List ℕ
  pub unanswered : ℕ
  pub refused : Bool
  pub read_faults : ℕ
  pub write_faults : ℕ

-- A new one, of this file.
abbrev pub new_capture : {F : Type 0} → F → CaptureState F
new_capture file = record { file = file; octets = []; replies = []; unanswered = 0; refused = false; read_faults = 0; write_faults = 0 }

-- What it tells of its reads: the octets that it gave, and what its file has left, where that tells it.
abbrev pub capture_reading : {F : Type 0} → (F → Reading) → CaptureState F → Reading
capture_reading reading c = record { given = Some c.octets; left = (reading c.file).left; faults = c.read_faults }

-- what it tells of its writes
abbrev pub capture_writing : {F : Type 0} → CaptureState F → Writing
capture_writing c = record { written = Octets c.replies; faults = c.write_faults }

-- What holds of it after any calls. It takes as many octets of replies as it gave of the capture. Its first call that failed was a
-- read of the file that failed, one for whose replies there was no room, or a write where all that it gave is answered; after
-- that nothing is read of the file.
pub record IsCapture {F : Type 0} (reading : F → Reading) (c : CaptureState F) : Type 0 where
  pub count : length c.octets ≡ length c.replies + c.unanswered
  pub given : IfSome (reading c.file).given (λ all. all ≡ c.octets)
  pub answered : 0 < c.write_faults → c.unanswered ≡ 0
  pub quiet : c.read_faults ≡ 0 → (reading c.file).faults ≡ 0
  pub file_failed : 0 < c.read_faults → c.write_faults ≡ 0 → c.refused ≡ false → 0 < (reading c.file).faults
  pub room_refused : c.refused ≡ true → (0 < c.read_faults) × ((reading c.file).faults ≡ 0)
