-- What is left to draw and to append in a loop leads to the same as all of it.
use Rattle.std.proofs.Common.{◌≡◌, ℕ, suc, ◌+◌, ◌-◌, ◌*◌, ◌%◌, ◌<◌, List, ◌++◌, sym, ap, ◌∙◌, arith, append_assoc}
use Rattle.std.specs.List.{flat_map}
use Rattle.std.proofs.lemmas.List.{append-nil}
use Rattle.eb_base.specs.declared.width.Width.TheVariants.{W32}
use Rattle.eb_base.specs.Field.{octets_of}
use Rattle.eb_load.specs.Draws.{next, drawn, state_after}
use Rattle.eb_load.specs.Stream.{values_from, addresses_from}

-- the octets of numbers
abbrev pub octets_of_all : List ℕ → List ℕ
octets_of_all ns = flat_map (octets_of W32) ns

-- one more value, number i of n
pub one_value : (out more : List ℕ) (x n i : ℕ) → i < n → more ≡ out ++ octets_of W32 (drawn x * 65536 + drawn (next x))
    → more ++ octets_of_all (values_from (n - (i + 1)) (next (next x))) ≡ out ++ octets_of_all (values_from (n - i) x)
one_value out more x n i lt is =
    let m : ℕ = n - (i + 1) in
    let e : n - i ≡ suc m = omega arith in
    let one : List ℕ = octets_of W32 (drawn x * 65536 + drawn (next x)) in
    let rest : List ℕ = octets_of_all (values_from m (next (next x))) in
    ap (λ (l : List ℕ). l ++ rest) is ∙ append_assoc out one rest ∙ sym (ap (λ (k : ℕ). out ++ octets_of_all (values_from k x)) e)

pub after_value : (x n i : ℕ) → i < n → state_after (2 * (n - (i + 1))) (next (next x)) ≡ state_after (2 * (n - i)) x
after_value x n i lt =
    let m : ℕ = n - (i + 1) in
    let e : 2 * (n - i) ≡ suc (suc (2 * m)) = omega arith in
    sym (ap (λ (k : ℕ). state_after k x) e)

-- one more address
pub one_address : (out more : List ℕ) (x n i : ℕ) → i < n → more ≡ out ++ octets_of W32 (4 * (drawn x % 16384))
    → more ++ octets_of_all (addresses_from (n - (i + 1)) (next x)) ≡ out ++ octets_of_all (addresses_from (n - i) x)
one_address out more x n i lt is =
    let m : ℕ = n - (i + 1) in
    let e : n - i ≡ suc m = omega arith in
    let one : List ℕ = octets_of W32 (4 * (drawn x % 16384)) in
    let rest : List ℕ = octets_of_all (addresses_from m (next x)) in
    ap (λ (l : List ℕ). l ++ rest) is ∙ append_assoc out one rest ∙ sym (ap (λ (k : ℕ). out ++ octets_of_all (addresses_from k x)) e)

pub after_address : (x n i : ℕ) → i < n → state_after (n - (i + 1)) (next x) ≡ state_after (n - i) x
after_address x n i lt =
    let m : ℕ = n - (i + 1) in
    let e : n - i ≡ suc m = omega arith in
    sym (ap (λ (k : ℕ). state_after k x) e)

-- none is left
pub no_value : (out all : List ℕ) (x k : ℕ) → k ≡ 0 → out ++ octets_of_all (values_from k x) ≡ all → out ≡ all
no_value out all x k none is = sym (append-nil out) ∙ sym (ap (λ (j : ℕ). out ++ octets_of_all (values_from j x)) none) ∙ is

pub no_address : (out all : List ℕ) (x k : ℕ) → k ≡ 0 → out ++ octets_of_all (addresses_from k x) ≡ all → out ≡ all
no_address out all x k none is = sym (append-nil out) ∙ sym (ap (λ (j : ℕ). out ++ octets_of_all (addresses_from j x)) none) ∙ is

pub no_draw : (x y k : ℕ) → k ≡ 0 → state_after k x ≡ y → x ≡ y
no_draw x y k none is = sym (ap (λ (j : ℕ). state_after j x) none) ∙ is
