-- What a command meets and leaves.
use Rattle.eb_io.specs.Reading.{Reading}
use Rattle.eb_io.specs.Writing.{Writing}
use Rattle.eb_io.specs.Outside.{Outside}

-- What its files tell, and the world and the output before and after it.
pub record Run (F : Type 0) : Type 0 where
  pub reading : F → Reading
  pub world : Outside F
  pub world' : Outside F
  pub out : Writing
  pub out' : Writing

abbrev pub run_of : {F : Type 0} → (F → Reading) → Outside F → Outside F → Writing → Writing → Run F
run_of reading world world' out out' = record { reading = reading; world = world; world' = world'; out = out; out' = out' }
