-- What an event leaves to the masters whose event it isn't.
use Rattle.std.specs.Prelude.{◌≡◌, ◌≢◌, ℕ}
use Rattle.soc_journal.specs.Growth.{ExtendsBy}
use Rattle.soc_core.specs.Core.{Core, stake}

-- The journal gets entries of the master m alone, and the stakes of the others are as they were.
abbrev pub OnlyOf : ℕ → Core → Core → Type 0
OnlyOf m old new = ExtendsBy m old.journal new.journal × ((n : ℕ) → n ≢ m → stake new n ≡ stake old n)

-- The journal and all stakes are as they were.
abbrev pub KeepsStakes : Core → Core → Type 0
KeepsStakes old new = (new.journal ≡ old.journal) × ((n : ℕ) → stake new n ≡ stake old n)
