-- What a seat is: the root, a master without a turn, or one that has the value.
use Rattle.std.specs.Prelude.{◌≡◌, ℕ, zero, [], ◌∷◌, Option, None, Bool, true, false}
use Rattle.std.proofs.lemmas.Bool.{false≢true}
use Rattle.atomic_table.specs.Table.{Me}
use Rattle.soc_turn.specs.declared.knows.Knows.{Knows}
use Rattle.soc_turn.specs.declared.knows.Knows.TheVariants.{Spent, Rooted, Idle, Waiting, Holding}

module _ {T : Type 0} where
  abbrev pub number_of : Knows T → ℕ
  number_of (Idle n x) = n
  number_of (Holding n x k y) = n
  number_of _ = 0

  abbrev pub made_of : Knows T → ℕ
  made_of (Rooted x made back) = made
  made_of _ = 0

  abbrev pub is_root : Me (Option T) (Knows T) → Bool
  is_root (Rooted x made [], []) = true
  is_root _ = false

  abbrev pub is_pass : Me (Option T) (Knows T) → Bool
  is_pass (Idle n x, []) = true
  is_pass _ = false

  -- it has left the slot empty
  abbrev pub is_held : Me (Option T) (Knows T) → Bool
  is_held (Holding n x k y, (zero, None) ∷ []) = true
  is_held _ = false

  abbrev pub origin_of : (m : Me (Option T) (Knows T)) → is_root m ≡ true → T
  origin_of (Rooted x made [], []) h = x
  origin_of (Rooted x made [], c ∷ cs) h = absurd (false≢true h)
  origin_of (Rooted x made (b ∷ bs), c) h = absurd (false≢true h)
  origin_of (Spent, c) h = absurd (false≢true h)
  origin_of (Idle n x, c) h = absurd (false≢true h)
  origin_of (Waiting n x k, c) h = absurd (false≢true h)
  origin_of (Holding n x k y, c) h = absurd (false≢true h)

  abbrev pub last_of : (m : Me (Option T) (Knows T)) → is_pass m ≡ true → T
  last_of (Idle n x, []) h = x
  last_of (Idle n x, c ∷ cs) h = absurd (false≢true h)
  last_of (Rooted x made back, c) h = absurd (false≢true h)
  last_of (Spent, c) h = absurd (false≢true h)
  last_of (Waiting n x k, c) h = absurd (false≢true h)
  last_of (Holding n x k y, c) h = absurd (false≢true h)

  abbrev pub taken_of : (m : Me (Option T) (Knows T)) → is_held m ≡ true → T
  taken_of (Holding n x k y, c) h = y
  taken_of (Idle n x, c) h = absurd (false≢true h)
  taken_of (Rooted x made back, c) h = absurd (false≢true h)
  taken_of (Spent, c) h = absurd (false≢true h)
  taken_of (Waiting n x k, c) h = absurd (false≢true h)
