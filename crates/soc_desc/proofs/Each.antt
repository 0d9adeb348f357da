-- Checking one item after the other, as a loop does.
use Rattle.std.proofs.Common.{◌≡◌, ◌≢◌, ℕ, suc, ◌+◌, ◌≤◌, List, [], ◌∷◌, ◌++◌, length, drop, Result, Ok, Err, IfOk, IfErr, ◌⊎◌, inl, inr, refl, sym, ap, ◌∙◌, subst, append_assoc}
use Rattle.std.proofs.lemmas.List.{append-nil, drop_all}
use Rattle.serde_json.specs.Data.{Data}
use Rattle.serde_json.specs.View.{view, items_view}
use Rattle.serde_json.specs.declared.value.Value.{Value}
use Rattle.soc_desc.specs.declared.fault.DescFault.{DescFault}
use Rattle.soc_desc.specs.declared.fault.DescFault.TheVariants as fault
use Rattle.soc_desc.specs.Checks.{Path, Found, ◌>>=◌, Fails, Gives, each_from, at_nth, items_len}

pub items_len_is : (vs : List Value) → items_len (items_view vs) ≡ length vs
items_len_is [] = refl
items_len_is (v ∷ vs) = ap suc (items_len_is vs)

-- a fault that a function returned is want of memory, or what is found
pub fails_is : {Y : Type 0} (e : DescFault) (found : Found Y) → Fails e found → (e ≡ fault.NoMemory) ⊎ (found ≡ Err e)
fails_is fault.NoMemory found h = inl refl
fails_is fault.NotJson found h = inr h
fails_is (fault.Missing p) found h = inr h
fails_is (fault.Unknown p) found h = inr h
fails_is (fault.Kind p) found h = inr h
fails_is (fault.Range p) found h = inr h
fails_is (fault.Overlap p q) found h = inr h
fails_is (fault.Outside p) found h = inr h
fails_is (fault.TooMany p) found h = inr h
fails_is (fault.TooDeep p) found h = inr h
fails_is (fault.Name p) found h = inr h

pub is_fails : {Y : Type 0} (e : DescFault) (found : Found Y) → found ≡ Err e → Fails e found
is_fails fault.NoMemory found h = tt
is_fails fault.NotJson found h = h
is_fails (fault.Missing p) found h = h
is_fails (fault.Unknown p) found h = h
is_fails (fault.Kind p) found h = h
is_fails (fault.Range p) found h = h
is_fails (fault.Overlap p q) found h = h
is_fails (fault.Outside p) found h = h
is_fails (fault.TooMany p) found h = h
is_fails (fault.TooDeep p) found h = h
is_fails (fault.Name p) found h = h

-- a returned fault is the one found, if memory did not run out
pub fault_is : {Y : Type 0} (e : DescFault) (found : Found Y) → Fails e found → e ≢ fault.NoMemory → found ≡ Err e
fault_is e found h n = elim (fails_is e found h) [ inl m ↦ absurd (n m) | inr f ↦ f ]

-- what holds of a check that finds nothing wrong holds where the function returned Ok
pub if_found : {X Y : Type 0} {P : Type 0} (view : X → Y) (r : Result X DescFault) (found : Found Y) → Gives view r found → ((x : X) → found ≡ Ok (view x) → P) → IfOk r (λ x. P)
if_found view (Ok x) found h f = f x h
if_found view (Err e) found h f = tt

-- the two answers of a call, of a check that ends as another one
pub if_ok : {Y : Type 0} (r last whole : Found Y) → whole ≡ last → Gives (λ y. y) r last → IfOk r (λ y. whole ≡ Ok y)
if_ok (Ok y) last whole same h = same ∙ h
if_ok (Err e) last whole same h = tt

pub if_err : {Y : Type 0} (r last whole : Found Y) → whole ≡ last → Gives (λ y. y) r last → IfErr r (λ e. e ≢ fault.NoMemory → whole ≡ Err e)
if_err (Ok y) last whole same h = tt
if_err (Err e) last whole same h = λ n. same ∙ fault_is e last h n

-- what is found after a fault is that fault
pub fails_on : {X Y : Type 0} (e : DescFault) (found : Found X) (total : Found Y) → Fails e found → (found ≡ Err e → total ≡ Err e) → Fails e total
fails_on e found total h on =
    elim (fails_is e found h) [
      | inl m ↦ subst (λ e. Fails e total) (sym m) tt
      | inr f ↦ is_fails e total (on f)
    ]

-- what was checked before, and what is still checked
abbrev pub with_front : {A : Type 0} → List A → Found (List A) → Found (List A)
with_front front found = found >>= λ xs. Ok (front ++ xs)

regroup : {A : Type 0} (front : List A) (x : A) (found : Found (List A)) → with_front front (found >>= λ xs. Ok (x ∷ xs)) ≡ with_front (front ++ x ∷ []) found
regroup front x (Ok xs) = ap Ok (sym (append_assoc front (x ∷ []) xs))
regroup front x (Err e) = refl

module _ {A : Type 0} (check : Path → Data → Found A) (path : Path) where
  pub goes_on : (front : List A) (i : ℕ) (vs : List Value) (v : Value) (x : A) (total : Found (List A)) → drop i vs ≡ v ∷ drop (i + 1) vs → check (at_nth path i) (view v) ≡ Ok x
      → with_front front (each_from check path i (items_view (drop i vs))) ≡ total → with_front (front ++ x ∷ []) (each_from check path (i + 1) (items_view (drop (i + 1) vs))) ≡ total
  goes_on front i vs v x total here is so_far =
      let one : with_front front (each_from check path i (items_view (drop i vs))) ≡ with_front (front ++ x ∷ []) (each_from check path (i + 1) (items_view (drop (i + 1) vs))) =
      rw (here, is) (regroup front x (each_from check path (i + 1) (items_view (drop (i + 1) vs)))) in
      sym one ∙ so_far

  pub ends : (e : DescFault) (front : List A) (i : ℕ) (vs : List Value) (v : Value) (total : Found (List A)) → drop i vs ≡ v ∷ drop (i + 1) vs → Fails e (check (at_nth path i) (view v))
      → with_front front (each_from check path i (items_view (drop i vs))) ≡ total → Fails e total
  ends e front i vs v total here h so_far =
      fails_on e _ total h (λ f. let one : with_front front (each_from check path i (items_view (drop i vs))) ≡ Err e = rw (here, f) refl in sym so_far ∙ one)

  pub is_done : (front : List A) (i : ℕ) (vs : List Value) (total : Found (List A)) → length vs ≤ i → with_front front (each_from check path i (items_view (drop i vs))) ≡ total → total ≡ Ok front
  is_done front i vs total le so_far =
      let one : with_front front (each_from check path i (items_view (drop i vs))) ≡ Ok front = rw (drop_all i vs le) (ap Ok (append-nil front)) in
      sym so_far ∙ one
