-- What a world tells, and what an open makes of it.
use Rattle.std.specs.Prelude.{◌≡◌, ℕ, List, [], ◌∷◌, ◌++◌, IfSome}
use Rattle.eb_io.specs.Counts.{Rose}
use Rattle.eb_io.specs.Reading.{Reading}
use Rattle.eb_io.specs.declared.world.Opened.{Opened}
use Rattle.eb_io.specs.declared.world.Opened.TheVariants as opened

-- What a world tells: the names that it was asked for, in order, the files that it has, and how often an open failed.
pub record Outside (F : Type 0) : Type 0 where
  pub asked : List (List ℕ)
  pub files : List F
  pub faults : ℕ

-- A source that was just made: it gave nothing, and no read failed.
pub record IsFresh (reading : Reading) : Type 0 where
  pub given : IfSome reading.given (λ octets. octets ≡ [])
  pub faults : reading.faults ≡ 0

-- The name was asked for, and the world has one more file, fresh, at the end.
pub record OpenedFile {F : Type 0} (reading : F → Reading) (old new : Outside F) (name : List ℕ) : Type 0 where
  pub file : F
  pub fresh : IsFresh (reading file)
  pub files : new.files ≡ old.files ++ file ∷ []
  pub asked : new.asked ≡ old.asked ++ name ∷ []
  pub faults : new.faults ≡ old.faults

-- The name was asked for and the open failed, as the count of faults says. The files are as before.
pub record OpenFailed {F : Type 0} (old new : Outside F) (name : List ℕ) : Type 0 where
  pub files : new.files ≡ old.files
  pub asked : new.asked ≡ old.asked ++ name ∷ []
  pub rose : Rose old.faults new.faults

-- What an open of this name did, by its answer.
abbrev pub Opens : {F : Type 0} → (F → Reading) → Outside F → Outside F → List ℕ → Opened → Type 0
Opens reading old new name opened.Done = OpenedFile reading old new name
Opens reading old new name opened.Failed = OpenFailed old new name
Opens reading old new name opened.NoMemory = new ≡ old
