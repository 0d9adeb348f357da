-- What a seat's role says of its view.
use Rattle.std.proofs.Common.{◌≡◌, ℕ, zero, suc, List, [], ◌∷◌, true, sym, refl, ap, ◌∙◌, Option, Some, None}
use Rattle.std.proofs.lemmas.Bool.{false≢true}
use Rattle.atomic_table.specs.Table.{Me, rest}
use Rattle.atomic_table.specs.Seated.{TableId}
use Rattle.soc_turn.specs.Views.{PassView, HeldView}
use Rattle.soc_turn.specs.declared.knows.Knows.{Knows}
use Rattle.soc_turn.specs.declared.knows.Knows.TheVariants.{Spent, Rooted, Idle, Waiting, Holding}
use Rattle.soc_turn.specs.Roles.{number_of, made_of, is_root, is_pass, is_held, origin_of, last_of, taken_of}

module _ {T : Type 0} where
  pub root_is : (m : Me (Option T) (Knows T)) (h : is_root m ≡ true) → m ≡ (Rooted (origin_of m h) (made_of m.0) [], [])
  root_is (Rooted x made [], []) h = refl
  root_is (Rooted x made [], c ∷ cs) h = absurd (false≢true h)
  root_is (Rooted x made (b ∷ bs), c) h = absurd (false≢true h)
  root_is (Spent, c) h = absurd (false≢true h)
  root_is (Idle n x, c) h = absurd (false≢true h)
  root_is (Waiting n x k, c) h = absurd (false≢true h)
  root_is (Holding n x k y, c) h = absurd (false≢true h)

  pub pass_is : (m : Me (Option T) (Knows T)) (h : is_pass m ≡ true) → m ≡ (Idle (number_of m.0) (last_of m h), [])
  pass_is (Idle n x, []) h = refl
  pass_is (Idle n x, c ∷ cs) h = absurd (false≢true h)
  pass_is (Rooted x made back, c) h = absurd (false≢true h)
  pass_is (Spent, c) h = absurd (false≢true h)
  pass_is (Waiting n x k, c) h = absurd (false≢true h)
  pass_is (Holding n x k y, c) h = absurd (false≢true h)

  pub held_is : (m : Me (Option T) (Knows T)) (h : is_held m ≡ true) → (x : T) × (k : ℕ) × (m ≡ (Holding (number_of m.0) x k (taken_of m h), (0, None) ∷ []))
  held_is (Holding n x k y, (zero, None) ∷ []) h = (x, k, refl)
  held_is (Holding n x k y, (zero, Some z) ∷ cs) h = absurd (false≢true h)
  held_is (Holding n x k y, (zero, None) ∷ c ∷ cs) h = absurd (false≢true h)
  held_is (Holding n x k y, (suc j, z) ∷ cs) h = absurd (false≢true h)
  held_is (Holding n x k y, []) h = absurd (false≢true h)
  held_is (Idle n x, c) h = absurd (false≢true h)
  held_is (Rooted x made back, c) h = absurd (false≢true h)
  held_is (Spent, c) h = absurd (false≢true h)
  held_is (Waiting n x k, c) h = absurd (false≢true h)

  abbrev origin_or : T → Knows T → T
  origin_or d (Rooted x made back) = x
  origin_or d _ = d

  abbrev last_or : T → Knows T → T
  last_or d (Idle n x) = x
  last_or d _ = d

  abbrev taken_or : T → Knows T → T
  taken_or d (Holding n x k y) = y
  taken_or d _ = d

  pub origin_when : (m : Me (Option T) (Knows T)) (x : T) (made : ℕ) → m ≡ (Rooted x made [], []) → (h : is_root m ≡ true) → origin_of m h ≡ x
  origin_when m x made e h = ap (λ (z : Me (Option T) (Knows T)). origin_or x z.0) (sym (root_is m h) ∙ e)

  pub last_when : (m : Me (Option T) (Knows T)) (n : ℕ) (x : T) → m ≡ (Idle n x, []) → (h : is_pass m ≡ true) → last_of m h ≡ x
  last_when m n x e h = ap (λ (z : Me (Option T) (Knows T)). last_or x z.0) (sym (pass_is m h) ∙ e)

  pub taken_when : (m : Me (Option T) (Knows T)) (n k : ℕ) (x y : T) → m ≡ (Holding n x k y, (0, None) ∷ []) → (h : is_held m ≡ true) → taken_of m h ≡ y
  taken_when m n k x y e h = ap (λ (z : Me (Option T) (Knows T)). taken_or y z.0) (sym (held_is m h).2 ∙ e)

  abbrev front_or : Option T → List (ℕ × Option T) → Option T
  front_or d [] = d
  front_or d (c ∷ cs) = c.1

  -- the slot in hand has the value that was taken
  pub in_hand : (m : Me (Option T) (Knows T)) (n : ℕ) (x : T) (k : ℕ) (y : T) → m ≡ (Holding n x k y, (0, Some y) ∷ []) → m.1 ≡ (0, Some y) ∷ rest m.1
  in_hand m n x k y e = ap (λ (z : Me (Option T) (Knows T)). z.1) e ∙ sym (ap (λ (z : Me (Option T) (Knows T)). let l : List (ℕ × Option T) = (0, Some y) ∷ rest z.1 in l) e)

  pub was_in_hand : (m : Me (Option T) (Knows T)) (n : ℕ) (x : T) (k : ℕ) (y : T) (r : Option T) → m ≡ (Holding n x k y, (0, Some y) ∷ []) → m.1 ≡ (0, r) ∷ rest m.1 → r ≡ Some y
  was_in_hand m n x k y r e h = ap (front_or r) (sym h) ∙ ap (λ (z : Me (Option T) (Knows T)). front_or r z.1) e

  pub emptied : (m m' : Me (Option T) (Knows T)) (n : ℕ) (x : T) (k : ℕ) (y : T) → m ≡ (Holding n x k y, (0, Some y) ∷ []) → m' ≡ (m.0, (0, None) ∷ rest m.1) → m' ≡ (Holding n x k y, (0, None) ∷ [])
  emptied m m' n x k y e h = h ∙ ap (λ (z : Me (Option T) (Knows T)). let q : Me (Option T) (Knows T) = (z.0, (0, None) ∷ rest z.1) in q) e

  pub filled : (m m' : Me (Option T) (Knows T)) (n : ℕ) (x : T) (k : ℕ) (y z : T) → m ≡ (Holding n x k y, (0, None) ∷ []) → m' ≡ (m.0, (0, Some z) ∷ rest m.1) → m' ≡ (Holding n x k y, (0, Some z) ∷ [])
  filled m m' n x k y w e h = h ∙ ap (λ (z : Me (Option T) (Knows T)). let q : Me (Option T) (Knows T) = (z.0, (0, Some w) ∷ rest z.1) in q) e

  pub pass_shows : (m : Me (Option T) (Knows T)) (h : is_pass m ≡ true) (t u : TableId) (n n' : ℕ) (x : T) → t ≡ u → n ≡ n' → m ≡ (Idle n x, []) → ◌≡◌ {A = PassView T} (record { turn = t; number = n; last = last_of m h }) (record { turn = u; number = n'; last = x })
  pass_shows m h t u n n' x a b e = let l : last_of m h ≡ x = last_when m n x e h in λ i. record { turn = a i; number = b i; last = l i }

  pub held_shows : (m : Me (Option T) (Knows T)) (h : is_held m ≡ true) (t u : TableId) (n n' k : ℕ) (x y z : T) → t ≡ u → n ≡ n' → m ≡ (Holding n x k y, (0, None) ∷ []) → y ≡ z → ◌≡◌ {A = HeldView T} (record { turn = t; number = n; taken = taken_of m h }) (record { turn = u; number = n'; taken = z })
  held_shows m h t u n n' k x y z a b e v = let l : taken_of m h ≡ z = taken_when m n k x y e h ∙ v in λ i. record { turn = a i; number = b i; taken = l i }
