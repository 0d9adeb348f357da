-- A world in memory.
use Rattle.std.specs.Prelude.{◌≡◌, List, [], ◌∷◌, ◌++◌}
use Rattle.eb_io.specs.Outside.{Outside}
use Rattle.eb_io.specs.Shelf.{outside_of}
use Rattle.eb_io.specs.declared.source.MemSource.{MemSource}
use Rattle.eb_io.specs.declared.world.MemWorld.{MemWorld}
use Rattle.eb_io.specs.declared.world.Opened.{Opened}
use Rattle.eb_io.specs.declared.world.Opened.TheVariants as opened

-- what it tells
abbrev pub world_of : MemWorld → Outside MemSource
world_of w = outside_of w.shelf

-- the files that it hasn't given yet, the next one first
abbrev pub supply_of : MemWorld → List MemSource
supply_of w = w.supply.items

-- the next file of the supply stands at the end of the world's files
pub record TakesNext (old new : MemWorld) : Type 0 where
  pub file : MemSource
  pub supply : supply_of old ≡ file ∷ supply_of new
  pub files : (world_of new).files ≡ (world_of old).files ++ file ∷ []

-- What an open does with the supply, by its answer: it fails exactly where none is left.
abbrev pub TakesFrom : MemWorld → MemWorld → Opened → Type 0
TakesFrom old new opened.Done = TakesNext old new
TakesFrom old new opened.Failed = (supply_of old ≡ []) × (supply_of new ≡ [])
TakesFrom old new opened.NoMemory = supply_of new ≡ supply_of old
