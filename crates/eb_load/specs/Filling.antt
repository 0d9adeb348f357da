-- A room that is filled further.
use Rattle.std.specs.Prelude.{◌≡◌, ◌≤◌, ℕ, List, ◌++◌, length, take}
use Rattle.eb_io.specs.Reading.{Reading, Gave}

-- So much of the room was filled, and now it is filled up to this place, with octets that the source gave since.
pub record Filled (old new : Reading) (count : ℕ) (room room' : List ℕ) (filled : ℕ) : Type 0 where
  pub octets : List ℕ
  pub gave : Gave old new octets
  pub filled_is : take filled room' ≡ take count room ++ octets
  pub more : count ≤ filled
  pub within : filled ≤ length room'
