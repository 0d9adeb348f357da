-- What holds of every walk.
use Rattle.std.specs.Prelude.{◌≡◌, ◌⊎◌, ℕ, List, Result, Err, Some}
use Rattle.sdb_walk.specs.declared.found.Found.{Found}
use Rattle.sdb_walk.specs.declared.fault.WalkFault.{WalkFault}
use Rattle.sdb_walk.specs.declared.fault.WalkFault.TheVariants as fault
use Rattle.sdb_walk.specs.declared.reader.Exchange.{Exchange}
use Rattle.sdb_walk.specs.Discovery.{Discovers}

-- What a reader told before and after decides the result of discovery, but for want of memory.
abbrev pub OneResult : Type 0 → Type 0
OneResult C = (before after : List (Exchange C)) (root : ℕ) (r s : Result (List Found) (WalkFault C))
    → Discovers (Some before) (Some after) root r → Discovers (Some before) (Some after) root s
    → (r ≡ s) ⊎ ((r ≡ Err fault.NoMemory) ⊎ (s ≡ Err fault.NoMemory))
