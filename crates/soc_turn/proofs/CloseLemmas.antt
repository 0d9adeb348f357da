-- Passes that came back, and the value at the end.
use Rattle.std.proofs.Common.{◌≡◌, ℕ, zero, suc, ◌<◌, List, [], ◌∷◌, ◌++◌, map, length, All, slice_index_or, sym, refl, ap, ◌∙◌, subst, arith}
use Rattle.wb_signals.specs.History.{Entry}
use Rattle.soc_journal.specs.Ledger.{Follows}
use Rattle.soc_turn.specs.Views.{PassView, seen_pair}
use Rattle.soc_turn.specs.Turns.{AllFollow}

module _ {T S C : Type 0} (history : T → List Entry) (stake : T → ℕ → S) (charter : T → C) where
  pub all_follow : (x : T) (ps : List (PassView T)) → AllFollow history stake charter x (map seen_pair ps) → All (λ (p : PassView T). Follows history stake charter p.number p.last x) ps
  all_follow x [] a k d h = absurd (omega arith)
  all_follow x (p ∷ ps) a zero d h = a.0
  all_follow x (p ∷ ps) a (suc k) d h = all_follow x ps a.1 k d (omega arith)

module _ {X : Type 0} (P : X → Type 0) where
  at_end : (xs : List X) (x d : X) → slice_index_or (xs ++ x ∷ []) (length xs) d ≡ x
  at_end [] x d = refl
  at_end (y ∷ ys) x d = at_end ys x d

  longer : (xs : List X) (x : X) → length xs < length (xs ++ x ∷ [])
  longer [] x = omega arith
  longer (y ∷ ys) x = let t = longer ys x in omega arith

  pub all_last : (xs : List X) (x : X) → All P (xs ++ x ∷ []) → P x
  all_last xs x a = subst P (at_end xs x x) (a (length xs) x (longer xs x))

  at_front : (xs ys : List X) (k : ℕ) (d : X) → k < length xs → slice_index_or (xs ++ ys) k d ≡ slice_index_or xs k d
  at_front [] ys k d h = absurd (omega arith)
  at_front (x ∷ xs) ys zero d h = refl
  at_front (x ∷ xs) ys (suc k) d h = at_front xs ys k d (omega arith)

  within : (xs ys : List X) (k : ℕ) → k < length xs → k < length (xs ++ ys)
  within [] ys k h = absurd (omega arith)
  within (x ∷ xs) ys zero h = omega arith
  within (x ∷ xs) ys (suc k) h = let t = within xs ys k (omega arith) in omega arith

  pub all_front : (xs ys : List X) → All P (xs ++ ys) → All P xs
  all_front xs ys a k d h = subst P (at_front xs ys k d h) (a k d (within xs ys k h))

module _ {X : Type 0} where
  behind : (a b c : List X) → (a ++ b) ++ c ≡ a ++ (b ++ c)
  behind [] b c = refl
  behind (x ∷ xs) b c = ap (λ (t : List X). x ∷ t) (behind xs b c)

  pub regroup : (whole l xs gone : List X) (x : X) → whole ≡ l ++ gone → l ≡ xs ++ x ∷ [] → whole ≡ xs ++ x ∷ gone
  regroup whole l xs gone x e f = e ∙ (ap (λ (t : List X). t ++ gone) f ∙ behind xs (x ∷ []) gone)

  pub all_gone : (whole l gone : List X) → whole ≡ l ++ gone → l ≡ [] → whole ≡ gone
  all_gone whole l gone e f = e ∙ ap (λ (t : List X). t ++ gone) f

length_map : {X Y : Type 0} (f : X → Y) (xs : List X) → length (map f xs) ≡ length xs
length_map f [] = refl
length_map f (x ∷ xs) = ap suc (length_map f xs)

pub counted : {T : Type 0} (whole gone : List (PassView T)) (made : ℕ) → whole ≡ gone → length whole ≡ made → length (map seen_pair gone) ≡ made
counted {T} whole gone made e h = length_map seen_pair gone ∙ (sym (ap (λ (l : List (PassView T)). length l) e) ∙ h)
