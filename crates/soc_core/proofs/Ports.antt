-- The ports of a core, one by one.
use Rattle.std.proofs.Common.{◌≡◌, ◌≢◌, inl, inr, ℕ, zero, suc, ◌<◌, List, [], ◌∷◌, length, get_or, set, refl, ap, sym, ◌∙◌, subst, arith, get_or-set_same, get_or-set_other, bit_and, bit_or, min, max}
use Rattle.std.specs.Int.{bit_at}
use Rattle.std.proofs.lemmas.Bool.{cases_eq}
use Rattle.std.proofs.lemmas.Nat.Bits.{bit_at_and, bit_at_or, bit_at-zero, same_from_bits}
use Rattle.soc_core.specs.Fabric.{IsIn}
use Rattle.soc_core.specs.Core.{Phase, Idle, Wants, Holds, Leaves, CorePort, resting_port, held, held_by}

-- ---- sets of slaves

pub no_common : (s t k : ℕ) → bit_and s t ≡ 0 → IsIn s k → IsIn t k → ⊥
no_common s t k apart a b =
    let none : min (bit_at s k) (bit_at t k) ≡ 0 = sym (bit_at_and s t k) ∙ ap (λ x. bit_at x k) apart ∙ bit_at-zero k in
    omega (arith, a, b, none)

-- a set that meets neither of two meets both of them together nowhere, and the other way round
pub apart_left : (a b s : ℕ) → bit_and (bit_or a b) s ≡ 0 → bit_and a s ≡ 0
apart_left a b s apart = same_from_bits (bit_and a s) 0 (λ i.
    let whole : min (max (bit_at a i) (bit_at b i)) (bit_at s i) ≡ 0 =
    ap (λ x. min x (bit_at s i)) (sym (bit_at_or a b i)) ∙ sym (bit_at_and (bit_or a b) s i) ∙ ap (λ x. bit_at x i) apart ∙ bit_at-zero i in
    let part : min (bit_at a i) (bit_at s i) ≡ 0 = omega (arith, whole) in
    bit_at_and a s i ∙ part ∙ sym (bit_at-zero i))

pub apart_right : (a b s : ℕ) → bit_and (bit_or a b) s ≡ 0 → bit_and b s ≡ 0
apart_right a b s apart = same_from_bits (bit_and b s) 0 (λ i.
    let whole : min (max (bit_at a i) (bit_at b i)) (bit_at s i) ≡ 0 =
    ap (λ x. min x (bit_at s i)) (sym (bit_at_or a b i)) ∙ sym (bit_at_and (bit_or a b) s i) ∙ ap (λ x. bit_at x i) apart ∙ bit_at-zero i in
    let part : min (bit_at b i) (bit_at s i) ≡ 0 = omega (arith, whole) in
    bit_at_and b s i ∙ part ∙ sym (bit_at-zero i))

-- ---- phases

pub holds_same : (s t : ℕ) → Holds s ≡ Holds t → s ≡ t
holds_same s t same = cc

-- The held sets together have each held set.
pub held_apart : (ports : List CorePort) (m s set : ℕ) → (get_or ports m resting_port).phase ≡ Holds s → bit_and (held ports) set ≡ 0 → bit_and s set ≡ 0
held_apart [] m s set holds apart = absurd (let no : Idle ≡ Holds s = holds in cc)
held_apart (p ∷ ports) zero s set holds apart =
    let one : bit_and (held_by p.phase) set ≡ 0 = apart_left (held_by p.phase) (held ports) set apart in
    subst (λ (ph : Phase). bit_and (held_by ph) set ≡ 0) holds one
held_apart (p ∷ ports) (suc m) s set holds apart = held_apart ports m s set holds (apart_right (held_by p.phase) (held ports) set apart)

-- where nothing is held
pub none_held : (ports : List CorePort) → ((m s : ℕ) → (get_or ports m resting_port).phase ≡ Holds s → ⊥) → held ports ≡ 0
none_held [] none = refl
none_held (p ∷ ports) none =
    let rest : held ports ≡ 0 = none_held ports (λ m. none (suc m)) in
    ap (λ x. bit_or (held_by p.phase) x) rest ∙ none_by p.phase (none 0)
  where
    none_by : (ph : Phase) → ((s : ℕ) → ph ≡ Holds s → ⊥) → bit_or (held_by ph) 0 ≡ 0
    none_by Idle never = refl
    none_by (Wants s) never = refl
    none_by (Holds s) never = absurd (never s refl)
    none_by Leaves never = refl

-- ---- one port replaced

pub port_same : (ports : List CorePort) (m : ℕ) (p : CorePort) → m < length ports → get_or (set ports m p) m resting_port ≡ p
port_same ports m p within = get_or-set_same ports m p resting_port within

pub port_other : (ports : List CorePort) (m : ℕ) (p : CorePort) (n : ℕ) → n ≢ m → get_or (set ports m p) n resting_port ≡ get_or ports n resting_port
port_other ports m p n other = get_or-set_other ports m n p resting_port other

-- What holds of the new port, and of each other port as it was, holds of each port.
pub each_port : (P : ℕ → CorePort → Type 0) (ports : List CorePort) (m : ℕ) (p : CorePort) → m < length ports
    → P m p → ((n : ℕ) → n ≢ m → P n (get_or ports n resting_port)) → (n : ℕ) → P n (get_or (set ports m p) n resting_port)
each_port P ports m p within new old n = elim (cases_eq n m) [
  | inl here ↦ subst (λ k. P k (get_or (set ports m p) k resting_port)) (sym here) (subst (P m) (sym (port_same ports m p within)) new)
  | inr other ↦ subst (P n) (sym (port_other ports m p n other)) (old n other)
]
