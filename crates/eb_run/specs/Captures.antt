-- Captures that are opened, and replayed beside each other.
use Rattle.std.specs.Prelude.{◌≡◌, ◌⊎◌, ◌<◌, ◌≤◌, ℕ, List, ◌∷◌, ◌++◌, length, All, IfOk, OnErr, Result, Ok, Err, ⊤}
use Rattle.eb_base.specs.declared.memory.NoMemory.{NoMemory}
use Rattle.eb_io.specs.Writing.{Writing, WritesAll}
use Rattle.eb_io.specs.Reading.{Reading}
use Rattle.eb_io.specs.Outside.{Outside, IsFresh}
use Rattle.eb_io.specs.declared.sink.WriteFault.{WriteFault}
use Rattle.eb_server.specs.declared.ending.Ending.{Ending}
use Rattle.eb_server.specs.declared.ending.Ending.TheVariants as ending
use Rattle.soc_desc.specs.declared.description.Description.{Description}
use Rattle.eb_replay.specs.Replay.{ReplayState, Replays}
use Rattle.eb_replay.specs.Text.{replay_text, first_unclean}
use Rattle.eb_text.specs.declared.fault.Fault.{Fault}
use Rattle.eb_text.specs.declared.fault.Fault.TheVariants as fault
use Rattle.eb_run.specs.Run.{Run}
use Rattle.eb_run.specs.Files.{NoFileOpened}
use Rattle.eb_run.specs.Commands.{SendsText, Plainly}

-- The files of these names were opened, in order: these, which are the ones more that the world has, at the end.
pub record OpenedFiles {F : Type 0} (reading : F → Reading) (old new : Outside F) (names : List (List ℕ)) : Type 0 where
  pub opened : List F
  pub as_many : length opened ≡ length names
  pub fresh : All (λ file. IsFresh (reading file)) opened
  pub files : new.files ≡ old.files ++ opened
  pub asked : new.asked ≡ old.asked ++ names
  pub faults : new.faults ≡ old.faults

-- Those before one of these names were opened, and that one was not.
pub record OpenedFront {F : Type 0} (reading : F → Reading) (old new : Outside F) (names : List (List ℕ)) (f : Fault) : Type 0 where
  pub before : List (List ℕ)
  pub name : List ℕ
  pub behind : List (List ℕ)
  pub names_are : names ≡ before ++ name ∷ behind
  pub between : Outside F
  pub opened_before : OpenedFiles reading old between before
  pub stopped : NoFileOpened {T = ⊤} between new name (Err f)

abbrev pub OpensAll : {F : Type 0} → (F → Reading) → Outside F → Outside F → List (List ℕ) → Result ⊤ Fault → Type 0
OpensAll reading old new names (Ok done) = OpenedFiles reading old new names
OpensAll reading old new names (Err f) = OpenedFront reading old new names f

-- A text goes out that tells this ending, or a front of it where a write fails. That is the answer only where the ending is clean.
abbrev pub SendsEnd : Writing → Writing → List ℕ → Ending → Result Ending Fault → Type 0
SendsEnd out out' text ending.Clean result = Plainly (SendsText out out' text) result
SendsEnd out out' text e result = (result ≡ Ok e) × ((wrote : Result ⊤ WriteFault) × WritesAll out out' text wrote)

-- The captures were opened. There was no memory to replay them, and nothing was read or written; or they were replayed on the bus
-- of the description, each as one master, and the text of that went out.
pub record ReplayedFiles {F : Type 0} (run : Run F) (d : Description) (captures : List (List ℕ)) (result : Result Ending Fault) : Type 0 where
  pub between : Outside F
  pub opening : OpenedFiles run.reading run.world between captures
  pub files : List F
  pub world_is : run.world' ≡ record between { files = run.world.files ++ files }
  pub came : ((result ≡ Err fault.NoMemory) × (files ≡ opening.opened) × (run.out' ≡ run.out))
      ⊎ ((r : ReplayState) × Replays run.reading d opening.opened files r × SendsEnd run.out run.out' (replay_text r) (first_unclean r.ports) result)

-- What replaying the captures of these names on a described bus came to: they are more than its masters, and nothing was opened;
-- or one could not be opened, and nothing was written; or they were replayed.
abbrev pub ReplaysCaptures : {F : Type 0} → Run F → Description → List (List ℕ) → Result Ending Fault → Type 0
ReplaysCaptures run d captures result =
    ((result ≡ Err fault.Usage) × (d.masters < length captures) × (run.world' ≡ run.world) × (run.out' ≡ run.out))
    ⊎ ((length captures ≤ d.masters) × (f : Fault) × (result ≡ Err f) × OpenedFront run.reading run.world run.world' captures f × (run.out' ≡ run.out))
    ⊎ ((length captures ≤ d.masters) × ReplayedFiles run d captures result)

-- ---- steps

-- The last files of a world, so many of them, are fresh.
pub record HasFresh {F : Type 0} (reading : F → Reading) (count : ℕ) (world : Outside F) : Type 0 where
  pub others : List F
  pub last : List F
  pub files_are : world.files ≡ others ++ last
  pub as_many : length last ≡ count
  pub fresh : All (λ file. IsFresh (reading file)) last

-- The last files of a world, so many of them, were replayed; or there was no memory, and they are as they were.
pub record ReplaysLast {F : Type 0} (reading : F → Reading) (d : Description) (count : ℕ) (old new : Outside F) (result : Result ReplayState NoMemory) : Type 0 where
  pub others : List F
  pub files : List F
  pub files' : List F
  pub old_are : old.files ≡ others ++ files
  pub as_many : length files ≡ count
  pub new_is : new ≡ record old { files = others ++ files' }
  pub replayed : IfOk result (λ r. Replays reading d files files' r)
  pub refused : OnErr result (files' ≡ files)
