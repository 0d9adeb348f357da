-- The numbers of the children of a bus, by address and by place, from the first child on.
use Rattle.std.proofs.Common.{◌≡◌, ℕ, suc, ◌+◌, ◌-◌, ◌<◌, nat_lt, List, [], ◌∷◌, length, Bool, true, false, cond, if◌then◌else◌, Option, Some, None, refl, ap, ◌∙◌, arith}
use Rattle.wb_signals.specs.Bus.{Child, covers}
use Rattle.wb_signals.specs.Parts.{child_at, child_with}
use Rattle.wb_crossbar.specs.Crossbar.{target_of}
use Rattle.soc_core.specs.Built.{slave_with}

abbrev pub next : Option ℕ → Option ℕ
next None = None
next (Some k) = Some (suc k)

abbrev pub target_at : List Child → ℕ → Option ℕ
target_at [] adr = None
target_at (child ∷ children) adr = if covers child adr then Some 0 else next (target_at children adr)

abbrev pub slave_number : List Child → ℕ → Option ℕ
slave_number [] place = None
slave_number (child ∷ children) place = if nat_lt place child.wiring.places then Some 0 else next (slave_number children (place - child.wiring.places))

number_next : (n m : ℕ) → cond (nat_lt (n + 1) (suc m)) (Some (n + 1)) None ≡ next (cond (nat_lt n m) (Some n) None)
number_next n m = by (nat_lt n m) (let e : nat_lt (n + 1) (suc m) ≡ nat_lt n m = grind arith in e)
  where
    by : (b : Bool) → nat_lt (n + 1) (suc m) ≡ b → cond (nat_lt (n + 1) (suc m)) (Some (n + 1)) None ≡ next (cond b (Some n) None)
    by true e = ap (λ c. cond c (Some (n + 1)) None) e ∙ ap (λ k. Some k) (let s : n + 1 ≡ suc n = omega arith in s)
    by false e = ap (λ c. cond c (Some (n + 1)) None) e

-- a number of the children, where the first of them is chosen or not
abbrev numbered : ℕ → ℕ → Option ℕ
numbered n m = cond (nat_lt n m) (Some n) None

number_by : (b : Bool) (n m : ℕ) (rest : Option ℕ) → numbered n m ≡ rest → numbered (cond b 0 (n + 1)) (suc m) ≡ cond b (Some 0) (next rest)
number_by true n m rest same = ap (λ b. cond b (Some 0) None) (let z : nat_lt 0 (suc m) ≡ true = grind arith in z)
number_by false n m rest same = number_next n m ∙ ap next same

pub target_is : (children : List Child) (adr : ℕ) → target_of children adr ≡ target_at children adr
target_is [] adr = refl
target_is (c ∷ children) adr = number_by (covers c adr) (child_at children adr) (length children) (target_at children adr) (target_is children adr)

pub slave_is : (children : List Child) (place : ℕ) → slave_with children place ≡ slave_number children place
slave_is [] place = refl
slave_is (c ∷ children) place =
    number_by (nat_lt place c.wiring.places) (child_with children (place - c.wiring.places)) (length children) (slave_number children (place - c.wiring.places))
    (slave_is children (place - c.wiring.places))

number_below : (n m k : ℕ) → numbered n m ≡ Some k → k < m
number_below n m k e = by (nat_lt n m) refl e
  where
    by : (b : Bool) → nat_lt n m ≡ b → cond b (Some n) None ≡ Some k → k < m
    by true t s = let same : n ≡ k = cc in let l : n < m = grind (arith, t) in omega (arith, same, l)
    by false t s = absurd (cc)

pub target_below : (children : List Child) (adr k : ℕ) → target_of children adr ≡ Some k → k < length children
target_below children adr k e = number_below (child_at children adr) (length children) k e

pub slave_below : (children : List Child) (place k : ℕ) → slave_with children place ≡ Some k → k < length children
slave_below children place k e = number_below (child_with children place) (length children) k e
