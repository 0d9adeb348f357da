-- What is known of octets that have no fault.
use Rattle.std.proofs.Common.{◌≡◌, ℕ, ◌≤◌, Bool, true, false, not, ◌&&◌, ◌||◌, cond, List, [], ◌∷◌, Option, Some, None, refl, ap, arith, inl, inr}
use Rattle.std.specs.Prelude.{◌==◌, find, option_map, is_some, nat_lt}
use Rattle.std.proofs.lemmas.Bool.{and_cases, both_ways, or_cases, not-false, eqb-true, ltb-false}
use Rattle.std.proofs.lemmas.Bool.Decides.{nat_tests}
use Rattle.eb_base.specs.declared.width.Width.TheVariants.{W8, W16, W32, W64}
use Rattle.eb_base.specs.Field.{number_at}
use Rattle.sdb_record.specs.Faults.{type_in, is_type, is_interconnect, has_component, has_product, bad_in_name, Row, faults, first_fault}

-- each row's test fails
pub record IsClean (bus : ℕ) (o : List ℕ) : Type 0 where
  pub a_type : not (is_type (type_in o)) ≡ false
  pub magic : (is_interconnect (type_in o) && not (number_at W32 o 0x00 == 0x5344422D)) ≡ false
  pub count : (is_interconnect (type_in o) && number_at W16 o 0x04 == 0) ≡ false
  pub version : (is_interconnect (type_in o) && not (number_at W8 o 0x06 == 1)) ≡ false
  pub bus_type : (is_interconnect (type_in o) && not (number_at W8 o 0x07 == bus)) ≡ false
  pub range : (has_component (type_in o) && nat_lt (number_at W64 o 0x10) (number_at W64 o 0x08)) ≡ false
  pub name : (has_product (type_in o) && is_some (bad_in_name o)) ≡ false

none_mapped : (r : Option Row) → option_map (λ (x : Row). x.0) r ≡ None → r ≡ None
none_mapped None e = refl
none_mapped (Some x) e = absurd cc

cond_none : (b : Bool) (x : Row) (r : Option Row) → cond b (Some x) r ≡ None → (b ≡ false) × (r ≡ None)
cond_none true x r e = absurd cc
cond_none false x r e = (refl, e)

-- nothing is found where no test holds
abbrev none_here : List Row → Type 0
none_here [] = Unit {0}
none_here (x ∷ xs) = (x.1 ≡ false) × none_here xs

find_none : (xs : List Row) → find (λ r. r.1) xs ≡ None → none_here xs
find_none [] e = tt
find_none (x ∷ xs) e = let p = cond_none x.1 x (find (λ r. r.1) xs) e in (p.0, find_none xs p.1)

none_found : (xs : List Row) → none_here xs → find (λ r. r.1) xs ≡ None
none_found [] h = refl
none_found (x ∷ xs) h = let e = h.0 in rw e (none_found xs h.1)

pub clean : (bus : ℕ) (o : List ℕ) → first_fault bus o ≡ None → IsClean bus o
unfolding first_fault
clean bus o e =
    let h = find_none (faults bus o) (none_mapped (find (λ r. r.1) (faults bus o)) e) in
    record { a_type = h.0; magic = h.1.0; count = h.1.1.0; version = h.1.1.1.0; bus_type = h.1.1.1.1.0; range = h.1.1.1.1.1.0; name = h.1.1.1.1.1.1.0 }

pub from_clean : (bus : ℕ) (o : List ℕ) → IsClean bus o → first_fault bus o ≡ None
unfolding first_fault
from_clean bus o h =
    ap (option_map (λ (x : Row). x.0)) (none_found (faults bus o) (h.a_type, (h.magic, (h.count, (h.version, (h.bus_type, (h.range, (h.name, tt))))))))

-- ---- what that says

after : (x y : Bool) → (x && y) ≡ false → x ≡ true → y ≡ false
after x y e t = elim (and_cases x y e) [ inl f ↦ absurd (both_ways x f t) | inr f ↦ f ]

not_some : {X : Type 0} (r : Option X) → is_some r ≡ false → r ≡ None
not_some None e = refl
not_some (Some x) e = absurd cc

pub name_printed : (bus : ℕ) (o : List ℕ) → IsClean bus o → has_product (type_in o) ≡ true → bad_in_name o ≡ None
name_printed bus o h p = not_some (bad_in_name o) (after _ _ h.name p)

pub in_range : (bus : ℕ) (o : List ℕ) → IsClean bus o → has_component (type_in o) ≡ true → number_at W64 o 0x08 ≤ number_at W64 o 0x10
in_range bus o h p = ltb-false _ _ (after _ _ h.range p)

pub magic_is : (bus : ℕ) (o : List ℕ) → IsClean bus o → is_interconnect (type_in o) ≡ true → number_at W32 o 0x00 ≡ 0x5344422D
magic_is bus o h p = eqb-true _ _ (not-false _ (after _ _ h.magic p))

pub counted : (bus : ℕ) (o : List ℕ) → IsClean bus o → is_interconnect (type_in o) ≡ true → 1 ≤ number_at W16 o 0x04
counted bus o h p = let e = after _ _ h.count p in grind (arith, nat_tests)

pub version_is : (bus : ℕ) (o : List ℕ) → IsClean bus o → is_interconnect (type_in o) ≡ true → number_at W8 o 0x06 ≡ 1
version_is bus o h p = eqb-true _ _ (not-false _ (after _ _ h.version p))

pub bus_is : (bus : ℕ) (o : List ℕ) → IsClean bus o → is_interconnect (type_in o) ≡ true → number_at W8 o 0x07 ≡ bus
bus_is bus o h p = eqb-true _ _ (not-false _ (after _ _ h.bus_type p))

pub data IsOne (n : ℕ) : Type 0 where
  an_interconnect : n ≡ 0x00 → IsOne n
  a_device : n ≡ 0x01 → IsOne n
  a_bridge : n ≡ 0x02 → IsOne n
  an_integration : n ≡ 0x80 → IsOne n
  an_empty : n ≡ 0xFF → IsOne n

pub one_type : (bus : ℕ) (o : List ℕ) → IsClean bus o → IsOne (type_in o)
one_type bus o h =
    let n : ℕ = type_in o in
    let t = not-false _ h.a_type in
    elim (or_cases (n == 0x00 || n == 0x01 || n == 0x02 || n == 0x80) (n == 0xFF) t) [
      | inr e ↦ an_empty (eqb-true _ _ e)
      | inl t3 ↦ elim (or_cases (n == 0x00 || n == 0x01 || n == 0x02) (n == 0x80) t3) [
        | inr e ↦ an_integration (eqb-true _ _ e)
        | inl t2 ↦ elim (or_cases (n == 0x00 || n == 0x01) (n == 0x02) t2) [
          | inr e ↦ a_bridge (eqb-true _ _ e)
          | inl t1 ↦ elim (or_cases (n == 0x00) (n == 0x01) t1) [
            | inr e ↦ a_device (eqb-true _ _ e)
            | inl e ↦ an_interconnect (eqb-true _ _ e)
          ]
        ]
      ]
    ]
