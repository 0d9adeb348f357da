-- What a client is asked for, and its words.
use Rattle.std.specs.Prelude.{◌≡◌, ◌≢◌, ℕ, ◌^◌, ◌<◌, List, [], ◌∷◌, codes}
use Rattle.eb_base.specs.declared.width.Width.{Width}
use Rattle.eb_base.specs.Width.{octets}
use Rattle.eb_client.specs.Place.{SaysNumber, IsPlace}
use Rattle.eb_client.specs.declared.command.ClientCommand.{ClientCommand}
use Rattle.eb_client.specs.declared.command.ClientCommand.TheVariants as seen

pub data ClientTask : Type 0 where
  -- the address that is dialled
  LsTask : List ℕ → ClientTask
  -- the address that is dialled, and the address and width that are read
  ReadTask : List ℕ → ℕ → Width → ClientTask
  -- the address that is dialled, the address and width that are written, and the word
  WriteTask : List ℕ → ℕ → Width → ℕ → ClientTask

-- The words are `ls ADDRESS`.
pub record IsLs (words : List (List ℕ)) (address : List ℕ) : Type 0 where
  pub words_are : words ≡ codes "ls" ∷ address ∷ []
  pub named : address ≢ []

-- The words are `read ADDRESS WHERE` or `read ADDRESS WHERE/WIDTH`.
pub record IsRead (words : List (List ℕ)) (address : List ℕ) (place : ℕ) (width : Width) : Type 0 where
  pub place_word : List ℕ
  pub words_are : words ≡ codes "read" ∷ address ∷ place_word ∷ []
  pub named : address ≢ []
  pub places : IsPlace place_word place width

-- The words are `write ADDRESS WHERE VALUE` or `write ADDRESS WHERE/WIDTH VALUE`, and the value fits in the width.
pub record IsWrite (words : List (List ℕ)) (address : List ℕ) (place : ℕ) (width : Width) (value : ℕ) : Type 0 where
  pub place_word : List ℕ
  pub value_word : List ℕ
  pub words_are : words ≡ codes "write" ∷ address ∷ place_word ∷ value_word ∷ []
  pub named : address ≢ []
  pub places : IsPlace place_word place width
  pub says_value : SaysNumber value_word value
  pub fits : value < 256 ^ octets width

-- The words are exactly those of this task.
abbrev pub IsTask : List (List ℕ) → ClientTask → Type 0
IsTask words (LsTask address) = IsLs words address
IsTask words (ReadTask address place width) = IsRead words address place width
IsTask words (WriteTask address place width value) = IsWrite words address place width value

-- No task of a client has these words.
abbrev pub IsNoTask : List (List ℕ) → Type 0
IsNoTask words = (task : ClientTask) → IsTask words task → ⊥

-- Words have one task of a client at most.
abbrev pub OneTask : Type 0
OneTask = (words : List (List ℕ)) (task other : ClientTask) → IsTask words task → IsTask words other → task ≡ other

-- the task that was read
abbrev pub task_seen : ClientCommand → ClientTask
task_seen (seen.Ls address) = LsTask address.now
task_seen (seen.Read address place width) = ReadTask address.now place width
task_seen (seen.Write address place width value) = WriteTask address.now place width value
