-- The exchanges of a walk decide where it ends.
use Rattle.std.proofs.Common.{◌≡◌, ◌⊎◌, inl, inr, ℕ, List, [], ◌∷◌, ◌++◌, Result, Ok, Err, Option, Some, unwrap_or, sym, ap, ◌∙◌, subst}
use Rattle.sdb_walk.specs.declared.found.Found.{Found}
use Rattle.sdb_walk.specs.declared.fault.WalkFault.{WalkFault}
use Rattle.sdb_walk.specs.declared.fault.WalkFault.TheVariants as fault
use Rattle.sdb_walk.specs.declared.reader.Exchange.{Exchange}
use Rattle.sdb_walk.specs.Told.{Word}
use Rattle.sdb_walk.specs.Walk.{Walk, Reads, Ended, answered, after, exchanges, begins}
use Rattle.sdb_walk.specs.Discovery.{Reaches, Discovers}
use Rattle.sdb_walk.specs.Laws.{OneResult}
use Rattle.sdb_walk.proofs.Reached.{after_end}

-- what was added to a list is what was added
pub same_rest : {X : Type 0} (xs ys zs : List X) → xs ++ ys ≡ xs ++ zs → ys ≡ zs
same_rest [] ys zs e = e
same_rest (x ∷ xs) ys zs e = same_rest xs ys zs (ap (λ l. tail_of l) e) where
  tail_of : {X : Type 0} → List X → List X
  tail_of [] = []
  tail_of (x ∷ l) = l

pub some_same : {X : Type 0} (d x y : X) → Some x ≡ Some y → x ≡ y
some_same d x y e = ap (λ (o : Option _). unwrap_or o d) e

abbrev pub result_of : {C : Type 0} → Result (List Found) (WalkFault C) → Walk C → Result (List Found) (WalkFault C)
result_of r (Reads visit words visits begun tree) = r
result_of r (Ended e) = e

module _ {C : Type 0} where
  abbrev pub word_first : Word C → List (Exchange C) → Word C
  word_first d [] = d
  word_first d (x ∷ xs) = x.word

  abbrev pub others_of : List (Exchange C) → List (Exchange C)
  others_of [] = []
  others_of (x ∷ xs) = xs

  one_end : (u : Walk C) (xs ys : List (Word C)) (r s : Result (List Found) (WalkFault C)) → exchanges u xs ≡ exchanges u ys → after u xs ≡ Ended r → after u ys ≡ Ended s → r ≡ s
  one_end (Ended e) xs ys r s same a b =
      let first : e ≡ r = ap (result_of e) (sym (after_end e xs) ∙ a) in
      let second : e ≡ s = ap (result_of e) (sym (after_end e ys) ∙ b) in
      sym first ∙ second
  one_end (Reads visit read visits begun tree) [] ys r s same a b = absurd cc
  one_end (Reads visit read visits begun tree) (x ∷ xs) [] r s same a b = absurd cc
  one_end (Reads visit read visits begun tree) (x ∷ xs) (y ∷ ys) r s same a b =
      let own : Walk C = Reads visit read visits begun tree in
      let word : y ≡ x = sym (ap (word_first x) same) in
      let rest : exchanges (answered own x) xs ≡ exchanges (answered own y) ys = ap others_of same in
      one_end (answered own x) xs ys r s
      (subst (λ (z : Word C). exchanges (answered own x) xs ≡ exchanges (answered own z) ys) word rest) a
      (subst (λ (z : Word C). after (answered own z) ys ≡ Ended s) word b)

  -- the walk ended so, or there was no memory
  ended : (before after_ : Option (List (Exchange C))) (root : ℕ) (r : Result (List Found) (WalkFault C)) → Discovers before after_ root r → Reaches before after_ (begins root) (Ended r) ⊎ (r ≡ Err fault.NoMemory)
  ended before after_ root (Ok tree) h = inl h
  ended before after_ root (Err f) (inl h) = inr (ap (λ (g : WalkFault C). let x : Result (List Found) (WalkFault C) = Err g in x) h.2)
  ended before after_ root (Err f) (inr h) = inl h

pub one_result : (C : Type 0) → OneResult C
one_result C before after_ root r s h k = by (ended (Some before) (Some after_) root r h) (ended (Some before) (Some after_) root s k) where
  by : Reaches (Some before) (Some after_) (begins root) (Ended r) ⊎ (r ≡ Err fault.NoMemory) → Reaches (Some before) (Some after_) (begins root) (Ended s) ⊎ (s ≡ Err fault.NoMemory)
      → (r ≡ s) ⊎ ((r ≡ Err fault.NoMemory) ⊎ (s ≡ Err fault.NoMemory))
  by (inr e) k = inr (inl e)
  by (inl h) (inr e) = inr (inr e)
  by (inl h) (inl k) =
      let told : before ++ exchanges (begins root) h.0 ≡ before ++ exchanges (begins root) k.0 = sym (some_same [] _ _ h.1) ∙ some_same [] _ _ k.1 in
      inl (one_end (begins root) h.0 k.0 r s (same_rest before _ _ told) h.2 k.2)
