-- Who holds a top slave.
use Rattle.std.proofs.Common.{◌≡◌, ℕ, zero, suc, ◌+◌, ◌<◌, ◌≤◌, ◌==◌, List, [], ◌∷◌, length, get_or, drop, slice_get, true, false, cond, Option, Some, None, refl, ap, ◌∙◌, arith}
use Rattle.std.specs.Int.{bit_at}
use Rattle.std.proofs.lemmas.Bool.{cond-true, cond-false}
use Rattle.soc_core.specs.Core.{CorePort, resting_port, held_by}
use Rattle.soc_bus.specs.View.{CycleView, states}
use Rattle.soc_wave.specs.Shown.{holder_from, holders_from}

-- ---- as they are computed

-- who holds each slave of the ports from m on
pub record AreHeldFrom (cycles : List CycleView) (holders : List (Option ℕ)) (n m : ℕ) : Type 0 where
  pub long : length holders ≡ n
  pub each : (k : ℕ) → k < n → get_or holders k None ≡ holder_from m (states (drop m cycles)) k

held_are : (ports : List CorePort) (s : ℕ) (holders : List (Option ℕ)) → ((k : ℕ) → k < length holders → get_or holders k None ≡ holder_from 0 ports (s + k)) → holders ≡ holders_from ports s (length holders)
held_are ports s [] each = refl
held_are ports s (h ∷ holders) each =
    let one : h ≡ holder_from 0 ports s = each 0 (omega arith) ∙ ap (holder_from 0 ports) (let e : s + 0 ≡ s = omega arith in e) in
    let more = held_are ports (suc s) holders (λ k l. each (suc k) (omega (arith, l)) ∙ ap (holder_from 0 ports) (let e : s + suc k ≡ suc s + k = omega arith in e)) in
    λ i. one i ∷ more i

pub held_all : (cycles : List CycleView) (holders : List (Option ℕ)) (n m : ℕ) → m ≡ 0 → AreHeldFrom cycles holders n m → holders ≡ holders_from (states cycles) 0 n
held_all cycles holders n m zero_ held =
    held_are (states cycles) 0 holders
    (λ k l. held.each k (let b = held.long in omega (arith, b, l)) ∙ ap (λ j. holder_from j (states (drop j cycles)) k) zero_ ∙ ap (holder_from 0 (states cycles)) (let e : k ≡ 0 + k = omega arith in e))
    ∙ ap (holders_from (states cycles) 0) held.long

-- the slaves of one port, those before this one
pub record HasHeld (set_ m : ℕ) (old now : List (Option ℕ)) (i : ℕ) : Type 0 where
  pub long : length now ≡ length old
  pub done : (k : ℕ) → k < i → get_or now k None ≡ cond (bit_at set_ k == 1) (Some m) (get_or old k None)
  pub later : (k : ℕ) → i ≤ k → get_or now k None ≡ get_or old k None

-- ---- what they are

length-holders : (ports : List CorePort) (s n : ℕ) → length (holders_from ports s n) ≡ n
length-holders ports s zero = refl
length-holders ports s (suc n) = ap (λ (k : ℕ). suc k) (length-holders ports (suc s) n)

pub count-holders : (ports : List CorePort) (n : ℕ) → length (holders_from ports 0 n) ≡ n
count-holders ports n = length-holders ports 0 n

holders-get : (ports : List CorePort) (s n k : ℕ) → k < n → slice_get (holders_from ports s n) k ≡ Some (holder_from 0 ports (s + k))
holders-get ports s zero k l = absurd (let no : ⊥ = omega (arith, l) in no)
holders-get ports s (suc n) zero l = ap (λ j. Some (holder_from 0 ports j)) (let e : s ≡ s + 0 = omega arith in e)
holders-get ports s (suc n) (suc k) l =
    holders-get ports (suc s) n k (omega (arith, l)) ∙ ap (λ j. Some (holder_from 0 ports j)) (let e : suc s + k ≡ s + suc k = omega arith in e)

-- the one port that holds a slave
holder_is : (ports : List CorePort) (n m slave : ℕ) → m < length ports → bit_at (held_by (get_or ports m resting_port).phase) slave ≡ 1
    → ((j : ℕ) → j < m → bit_at (held_by (get_or ports j resting_port).phase) slave ≡ 0) → holder_from n ports slave ≡ Some (n + m)
holder_is [] n m slave within one zeros = absurd (let no : ⊥ = omega (arith, within) in no)
holder_is (p ∷ ports) n zero slave within one zeros = cond-true _ _ _ (let b : (bit_at (held_by p.phase) slave == 1) ≡ true = grind (arith, one) in b) ∙ ap (λ k. Some k) (let e : n ≡ n + 0 = omega arith in e)
holder_is (p ∷ ports) n (suc m) slave within one zeros =
    let first : bit_at (held_by p.phase) slave ≡ 0 = zeros 0 (omega arith) in
    cond-false _ _ _ (let b : (bit_at (held_by p.phase) slave == 1) ≡ false = grind (arith, first) in b)
    ∙ holder_is ports (suc n) m slave (omega (arith, within)) one (λ j l. zeros (suc j) (omega (arith, l)))
    ∙ ap (λ k. Some k) (let e : suc n + m ≡ n + suc m = omega arith in e)

pub held_at : (ports : List CorePort) (slaves m k : ℕ) → k < slaves → m < length ports → bit_at (held_by (get_or ports m resting_port).phase) k ≡ 1
    → ((j : ℕ) → j < m → bit_at (held_by (get_or ports j resting_port).phase) k ≡ 0) → slice_get (holders_from ports 0 slaves) k ≡ Some (Some m)
held_at ports slaves m k below within one zeros =
    holders-get ports 0 slaves k below ∙ ap (λ i. Some (holder_from 0 ports i)) (let z : 0 + k ≡ k = omega arith in z)
    ∙ ap (λ h. Some h) (holder_is ports 0 m k within one zeros ∙ ap (λ i. Some i) (let z : 0 + m ≡ m = omega arith in z))
