-- How the connections of a port, or the datagrams of a post, ended.
use Rattle.std.specs.Prelude.{ℕ, List, [], ◌++◌, Bool, false}
use Rattle.eb_server.specs.declared.ending.Ending.{Ending}

-- The endings so far, in order, how many there is room for in all, and whether the door failed.
pub record EndsState : Type 0 where
  pub endings : List Ending
  pub most : ℕ
  pub door_failed : Bool

-- No ending yet, with room for so many.
abbrev pub no_ends : ℕ → EndsState
no_ends most = record { endings = []; most = most; door_failed = false }

-- These endings more, behind those that there were.
abbrev pub endings_added : EndsState → List Ending → EndsState
endings_added ends more = record ends { endings = ends.endings ++ more }
