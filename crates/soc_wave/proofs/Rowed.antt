-- The row of a tick, port by port and slave by slave.
use Rattle.std.proofs.Common.{◌≡◌, ℕ, zero, suc, ◌+◌, ◌<◌, ◌≤◌, ◌==◌, Bool, true, false, if◌then◌else◌, List, [], ◌∷◌, length, map, refl, sym, ap, ◌∙◌, subst, arith}
use Rattle.std.specs.Prelude.{slice_index_or, bit_and, Option, Some, None}
use Rattle.std.specs.Int.{bit_at}
use Rattle.std.proofs.lemmas.Bool.{eqb-true}
use Rattle.std.proofs.lemmas.Nat.Bits.{bit_at_and, bit_at-zero}
use Rattle.wb_signals.specs.Content.{Content}
use Rattle.soc_core.specs.Fabric.{Fabric}
use Rattle.soc_core.specs.Core.{Phase, Idle, Wants, Holds, Leaves, CorePort, resting_port, phase_after, with_phase, granted_from, clocked, held_by}
use Rattle.soc_wave.specs.Rows.{no_port, port_in, holder_in}
use Rattle.soc_wave.specs.Legal.{IsWholeRow}
use Rattle.soc_wave.specs.Shown.{port_row, row_of, holder_from, holders_from}

abbrev pub at : List CorePort → ℕ → CorePort
at ports m = slice_index_or ports m resting_port

-- ---- the ports after the grants, and after the tick

granted_at : (grant k m j : ℕ) (ports : List CorePort) → m < length ports → j ≡ k + m
    → at (granted_from grant k ports) m ≡ with_phase (phase_after (bit_at grant j == 1) (at ports m).phase) (at ports m)
granted_at grant k m j [] lt is = absurd (omega (arith, lt))
granted_at grant k zero j (p ∷ ports) lt is =
    let e : k ≡ j = omega (arith, is) in
    ap (λ (n : ℕ). with_phase (phase_after (bit_at grant n == 1) p.phase) p) e
granted_at grant k (suc m) j (p ∷ ports) lt is = granted_at grant (suc k) m j ports (omega (arith, lt)) (omega (arith, is))

pub port_granted : (grant m : ℕ) (ports : List CorePort) → m < length ports
    → at (granted_from grant 0 ports) m ≡ with_phase (phase_after (bit_at grant m == 1) (at ports m).phase) (at ports m)
port_granted grant m ports lt = granted_at grant 0 m m ports lt (omega arith)

pub length-granted : (grant k : ℕ) (ports : List CorePort) → length (granted_from grant k ports) ≡ length ports
length-granted grant k [] = refl
length-granted grant k (p ∷ ports) = ap (λ (n : ℕ). suc n) (length-granted grant (suc k) ports)

pub port_clocked : (f : Fabric) (contents : List Content) (m : ℕ) (ports : List CorePort) → m < length ports
    → at (map (clocked f contents) ports) m ≡ clocked f contents (at ports m)
port_clocked f contents m [] lt = absurd (omega (arith, lt))
port_clocked f contents zero (p ∷ ports) lt = refl
port_clocked f contents (suc m) (p ∷ ports) lt = port_clocked f contents m ports (omega (arith, lt))

-- ---- its row

rows_at : (f : Fabric) (m : ℕ) (ports : List CorePort) → m < length ports → slice_index_or (map (port_row f) ports) m no_port ≡ port_row f (at ports m)
rows_at f m [] lt = absurd (omega (arith, lt))
rows_at f zero (p ∷ ports) lt = refl
rows_at f (suc m) (p ∷ ports) lt = rows_at f m ports (omega (arith, lt))

pub port_shown : (f : Fabric) (m : ℕ) (ports : List CorePort) → m < length ports → port_in m (row_of f ports) ≡ port_row f (at ports m)
port_shown f m ports lt = rows_at f m ports lt

holders_at : (ports : List CorePort) (k n i j : ℕ) → i < n → j ≡ k + i → slice_index_or (holders_from ports k n) i None ≡ holder_from 0 ports j
holders_at ports k zero i j lt is = absurd (omega (arith, lt))
holders_at ports k (suc n) zero j lt is =
    let e : k ≡ j = omega (arith, is) in
    ap (λ (s : ℕ). holder_from 0 ports s) e
holders_at ports k (suc n) (suc i) j lt is = holders_at ports (suc k) n i j (omega (arith, lt)) (omega (arith, is))

pub holder_shown : (f : Fabric) (ports : List CorePort) (slave : ℕ) → slave < f.slaves → holder_in slave (row_of f ports) ≡ holder_from 0 ports slave
holder_shown f ports slave lt = holders_at ports 0 f.slaves slave slave lt (omega arith)

length-rows : (f : Fabric) (ports : List CorePort) → length (map (port_row f) ports) ≡ length ports
length-rows f [] = refl
length-rows f (p ∷ ports) = ap (λ (n : ℕ). suc n) (length-rows f ports)

length-holders : (ports : List CorePort) (k n : ℕ) → length (holders_from ports k n) ≡ n
length-holders ports k zero = refl
length-holders ports k (suc n) = ap (λ (j : ℕ). suc j) (length-holders ports (suc k) n)

pub row_whole : (f : Fabric) (ports : List CorePort) → length ports ≡ f.ports → IsWholeRow f (row_of f ports)
row_whole f ports all = record { ports = length-rows f ports ∙ all; holders = length-holders ports 0 f.slaves }

-- ---- who holds a slave

abbrev pub HasBit : ℕ → CorePort → Type 0
HasBit slave p = bit_at (held_by p.phase) slave ≡ 1

abbrev pub number_or : ℕ → Option ℕ → ℕ
number_or d None = d
number_or d (Some x) = x

abbrev is_there : Option ℕ → Bool
is_there None = false
is_there (Some x) = true

abbrev is_true : Bool → Type 0
is_true true = Unit {0}
is_true false = ⊥

pub no_number : (m : ℕ) → ◌≡◌ {A = Option ℕ} None (Some m) → ⊥
no_number m e = subst is_true (sym (ap is_there e)) tt

abbrev holder_by : Bool → ℕ → List CorePort → ℕ → Option ℕ
holder_by b k ports slave = if b then Some k else holder_from (suc k) ports slave

-- the holder that is found has the slave
abbrev HolderHas : ℕ → ℕ → List CorePort → ℕ → Type 0
HolderHas k m ports slave = (k ≤ m) × (m < k + length ports) × ((j : ℕ) → m ≡ k + j → HasBit slave (at ports j))

first_has : (p : CorePort) (ports : List CorePort) (slave j : ℕ) → j ≡ 0 → HasBit slave p → HasBit slave (at (p ∷ ports) j)
first_has p ports slave zero is has = has
first_has p ports slave (suc j) is has = absurd (omega (arith, is))

later_has : (k m : ℕ) (p : CorePort) (ports : List CorePort) (slave j : ℕ) → m ≡ k + j → suc k ≤ m → ((i : ℕ) → m ≡ suc k + i → HasBit slave (at ports i)) → HasBit slave (at (p ∷ ports) j)
later_has k m p ports slave zero at_j le rest = absurd (omega (arith, at_j, le))
later_has k m p ports slave (suc j) at_j le rest = rest j (omega (arith, at_j))

holder_has_by : (k m : ℕ) (p : CorePort) (ports : List CorePort) (slave : ℕ) (b : Bool) → (bit_at (held_by p.phase) slave == 1) ≡ b → holder_by b k ports slave ≡ Some m
    → (holder_from (suc k) ports slave ≡ Some m → HolderHas (suc k) m ports slave) → HolderHas k m (p ∷ ports) slave
holder_has_by k m p ports slave true test is rest =
    let e : k ≡ m = ap (number_or 0) is in
    (omega (arith, e), omega (arith, e), λ j at_j. first_has p ports slave j (omega (arith, e, at_j)) (eqb-true _ _ test))
holder_has_by k m p ports slave false test is rest =
    let r = rest is in
    (omega (arith, r.0), omega (arith, r.1), λ j at_j. later_has k m p ports slave j at_j r.0 r.2)

holder_has : (k m : ℕ) (ports : List CorePort) (slave : ℕ) → holder_from k ports slave ≡ Some m → HolderHas k m ports slave
holder_has k m [] slave is = absurd (no_number m is)
holder_has k m (p ∷ ports) slave is = holder_has_by k m p ports slave (bit_at (held_by p.phase) slave == 1) refl is (λ later. holder_has (suc k) m ports slave later)

pub holder_is : (m : ℕ) (ports : List CorePort) (slave : ℕ) → holder_from 0 ports slave ≡ Some m → HasBit slave (at ports m)
holder_is m ports slave is = (holder_has 0 m ports slave is).2 m (omega arith)

not_one : (n : ℕ) → (n ≡ 1 → ⊥) → (n == 1) ≡ false
not_one n other = grind arith

-- and where only one port has it, it is found
holder_found : (k m i : ℕ) (ports : List CorePort) (slave : ℕ) → m ≡ k + i → i < length ports → HasBit slave (at ports i)
    → ((j : ℕ) → j < i → HasBit slave (at ports j) → ⊥) → holder_from k ports slave ≡ Some m
holder_found k m i [] slave is lt has only = absurd (omega (arith, lt))
holder_found k m zero (p ∷ ports) slave is lt has only =
    let e : k ≡ m = omega (arith, is) in
    let yes_it : (bit_at (held_by p.phase) slave == 1) ≡ true = grind (arith, has) in
    ap (λ b. holder_by b k ports slave) yes_it ∙ ap (λ (n : ℕ). Some n) e
holder_found k m (suc i) (p ∷ ports) slave is lt has only =
    let none : HasBit slave p → ⊥ = λ h. only 0 (omega arith) h in
    let not_it : (bit_at (held_by p.phase) slave == 1) ≡ false = not_one (bit_at (held_by p.phase) slave) none in
    ap (λ b. holder_by b k ports slave) not_it
    ∙ holder_found (suc k) m i ports slave (omega (arith, is)) (omega (arith, lt)) has (λ j l h. only (suc j) (omega (arith, l)) h)

pub the_holder : (m : ℕ) (ports : List CorePort) (slave : ℕ) → m < length ports → HasBit slave (at ports m)
    → ((j : ℕ) → j < m → HasBit slave (at ports j) → ⊥) → holder_from 0 ports slave ≡ Some m
the_holder m ports slave lt has only = holder_found 0 m m ports slave (omega arith) lt has only

-- ---- two disjoint sets have no common slave

pub no_common : (s t slave : ℕ) → bit_and s t ≡ 0 → bit_at s slave ≡ 1 → bit_at t slave ≡ 1 → ⊥
no_common s t slave apart in_s in_t =
    let e : bit_at (bit_and s t) slave ≡ 0 = ap (λ (n : ℕ). bit_at n slave) apart ∙ bit_at-zero slave in
    let both = bit_at_and s t slave in
    omega (arith, e, both, in_s, in_t)

none_held : (slave : ℕ) → bit_at 0 slave ≡ 1 → ⊥
none_held slave has = let e = bit_at-zero slave in omega (arith, e, has)

-- a slave that a phase holds
pub holds_it : (slave : ℕ) (phase : Phase) → bit_at (held_by phase) slave ≡ 1 → (set : ℕ) × (phase ≡ Holds set) × (bit_at set slave ≡ 1)
holds_it slave Idle has = absurd (none_held slave has)
holds_it slave (Wants set) has = absurd (none_held slave has)
holds_it slave (Holds set) has = (set, refl, has)
holds_it slave Leaves has = absurd (none_held slave has)
