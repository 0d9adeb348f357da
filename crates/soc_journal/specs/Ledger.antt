-- What one of several masters may rely on while the others change a value, and what it may change itself.
use Rattle.std.specs.Prelude.{◌≡◌, ◌≢◌, ℕ, List}
use Rattle.wb_signals.specs.History.{Entry, own}
use Rattle.soc_journal.specs.Growth.{Extends, ExtendsBy}

-- The value has a history, for each master a stake, and a charter.
module _ {T S C : Type 0} (history : T → List Entry) (stake : T → ℕ → S) (charter : T → C) where
  -- The master m, who has last seen x, may find y: the history has gone on without it, its stake is as it was.
  abbrev pub Follows : ℕ → T → T → Type 0
  Follows m x y = Extends (history x) (history y) × (own m (history y) ≡ own m (history x)) × (stake y m ≡ stake x m) × (charter y ≡ charter x)

  -- The master m may make y of x: it adds entries of its own, and leaves the other stakes.
  abbrev pub Adds : ℕ → T → T → Type 0
  Adds m x y = ExtendsBy m (history x) (history y) × ((n : ℕ) → n ≢ m → stake y n ≡ stake x n) × (charter y ≡ charter x)
