-- Tickets in the views, and functions that change at one place.
use Rattle.std.proofs.Common.{◌≡◌, ◌≢◌, ℕ, zero, suc, ◌+◌, ◌≤◌, List, [], ◌∷◌, ◌++◌, set, sym, refl, ap, arith}
use mathlib.Core.Option.{some, some-injective, some-ne-none}
use native.Mathlib.Decide.{ℕ_discrete}
use lib.ListN.{get_elem?}
use Rattle.soc_turn.specs.declared.knows.Knows.{Knows}
use Rattle.soc_turn.specs.Turns.{free, total}

abbrev pick : {P : Type 0} → Dec P → ℕ → ℕ → ℕ
pick (yes _) a b = a
pick (no _) a b = b

pub put : (ℕ → ℕ) → ℕ → ℕ → ℕ → ℕ
put f i c j = pick (ℕ_discrete j i) c (f j)

pub put_here : (f : ℕ → ℕ) (i c : ℕ) → put f i c i ≡ c
unfolding put
put_here f i c = go (ℕ_discrete i i)
  where
    go : (d : Dec (i ≡ i)) → pick d c (f i) ≡ c
    go (yes _) = refl
    go (no n) = absurd (n refl)

pub put_else : (f : ℕ → ℕ) (i c j : ℕ) → j ≢ i → put f i c j ≡ f j
unfolding put
put_else f i c j other = go (ℕ_discrete j i)
  where
    go : (d : Dec (j ≡ i)) → pick d c (f j) ≡ f j
    go (yes e) = absurd (other e)
    go (no _) = refl

module _ {T : Type 0} where
  pub total-set : (vs : List (Knows T)) (i : ℕ) (v w : Knows T) → get_elem? vs i ≡ some v → total (set vs i w) + free v ≡ total vs + free w
  total-set [] i v w e = absurd (some-ne-none v (sym e))
  total-set (x ∷ xs) zero v w e = let same : free x ≡ free v = ap free (some-injective x v e) in omega arith
  total-set (x ∷ xs) (suc i) v w e = let t = total-set xs i v w e in omega arith

  pub total-snoc : (vs : List (Knows T)) (w : Knows T) → total (vs ++ w ∷ []) ≡ total vs + free w
  total-snoc [] w = omega arith
  total-snoc (x ∷ xs) w = let t = total-snoc xs w in omega arith

  pub total-at : (vs : List (Knows T)) (i : ℕ) (v : Knows T) → get_elem? vs i ≡ some v → free v ≤ total vs
  total-at [] i v e = absurd (some-ne-none v (sym e))
  total-at (x ∷ xs) zero v e = let same : free x ≡ free v = ap free (some-injective x v e) in omega arith
  total-at (x ∷ xs) (suc i) v e = let t = total-at xs i v e in omega arith
