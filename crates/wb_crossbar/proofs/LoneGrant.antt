-- The grant where one port alone waits.
use Rattle.std.proofs.Common.{◌≡◌, ◌≢◌, inl, inr, ℕ, ◌+◌, ◌-◌, ◌<◌, ◌≤◌, ◌^◌, nat_le, Bool, true, false, Option, Some, None, refl, ap, sym, ◌∙◌, subst, arith, bit_and}
use Rattle.std.specs.Int.{bit_at}
use Rattle.std.proofs.lemmas.Nat.Bits.{bit_at-zero, bit_at-pow_same, bit_at-pow_other}
use Rattle.wb_crossbar.specs.Grant.{Turn, port_at, IsGranted, IsGrant, port_after, IsNext}
use Rattle.wb_crossbar.specs.Alone.{IsLone}
use Rattle.wb_crossbar.proofs.Seen.{number_cases, port_cases, other_ports, after_within}

module _ (turn : Turn) (wants : ℕ → Option ℕ) (held port set : ℕ) (lone : IsLone wants port set) where
  own_set : (q x : ℕ) → wants q ≡ Some x → (q ≡ port) × (x ≡ set)
  own_set q x w = elim (number_cases q port) [
    | inl e ↦ (e, let own = lone.waits in let same : wants port ≡ Some x = subst (λ q. wants q ≡ Some x) e w in cc)
    | inr n ↦ absurd (let none = lone.others q n in cc)
  ]

  pub none_granted : bit_and held set ≢ 0 → IsGrant turn wants held 0
  none_granted meets = record {
    decided = λ i l. record {
      waiting = λ x w. (
        λ g. absurd (let z : 0 ≡ 1 = sym (bit_at-zero (port_at turn i)) ∙ g in cc),
        λ free. absurd (meets (subst (λ x. bit_and held x ≡ 0) (own_set (port_at turn i) x w).1 free.unheld)),
      );
      idle = λ e. bit_at-zero (port_at turn i);
    };
    above = λ q l. bit_at-zero q;
  }

  granted_port : (q : ℕ) → IsGranted (2 ^ port) q → q ≡ port
  granted_port q g = elim (number_cases q port) [ inl e ↦ e | inr n ↦ absurd (let z : 0 ≡ 1 = sym (bit_at-pow_other port q n) ∙ g in cc) ]

  pub lone_granted : turn.first < turn.ports → port < turn.ports → bit_and held set ≡ 0 → IsGrant turn wants held (2 ^ port)
  lone_granted f l free = record {
    decided = λ i below. record {
      waiting = λ x w.
          let own = own_set (port_at turn i) x w in (
            λ g. record {
              unheld = subst (λ x. bit_and held x ≡ 0) (sym own.1) free;
              apart = λ j other h g w. absurd (other_ports turn i j f h below (granted_port (port_at turn j) g ∙ sym own.0));
            },
            λ free. subst (λ q. bit_at (2 ^ port) q ≡ 1) (sym own.0) (bit_at-pow_same port),
          );
      idle = λ e. bit_at-pow_other port (port_at turn i) (λ same. absurd (let own = lone.waits in let none : wants port ≡ None = subst (λ q. wants q ≡ None) same e in cc));
    };
    above = λ q past. bit_at-pow_other port q (λ e. omega (arith, e, past, l));
  }

module _ (turn : Turn) (f : turn.first < turn.ports) where
  pub none_next : IsNext turn 0 turn.first
  none_next = record {
    last = λ i l g after. absurd (let z : 0 ≡ 1 = sym (bit_at-zero (port_at turn i)) ∙ g in cc);
    none = λ h. refl;
    within = f;
  }

  module _ (port : ℕ) (l : port < turn.ports) where
    -- when the port is looked at
    place : (b : Bool) → nat_le turn.first port ≡ b → (i : ℕ) × (i < turn.ports) × (port_at turn i ≡ port)
    place true e =
        let le : turn.first ≤ port = grind (arith, e) in
        let i = port - turn.first in (
          i,
          omega arith,
          elim (port_cases turn i) [ inl a ↦ omega (arith, a.0, a.1) | inr a ↦ omega (arith, a.0, a.1) ],
        )
    place false e =
        let lt : port < turn.first = grind (arith, e) in
        let i = port + turn.ports - turn.first in (
          i,
          omega arith,
          elim (port_cases turn i) [ inl a ↦ omega (arith, a.0, a.1) | inr a ↦ omega (arith, a.0, a.1) ],
        )

    pub lone_next : IsNext turn (2 ^ port) (port_after turn.ports port)
    lone_next = record {
      last = λ i below g after. elim (number_cases (port_at turn i) port) [
        | inl e ↦ ap (port_after turn.ports) (sym e)
        | inr n ↦ absurd (let z : 0 ≡ 1 = sym (bit_at-pow_other port (port_at turn i) n) ∙ g in cc)
      ];
      none = λ h.
          let at = place (nat_le turn.first port) refl in
          absurd (let z : 1 ≡ 0 = sym (bit_at-pow_same port) ∙ subst (λ q. bit_at (2 ^ port) q ≡ 0) at.2 (h at.0 at.1) in cc);
      within = after_within turn.ports port (omega arith);
    }
