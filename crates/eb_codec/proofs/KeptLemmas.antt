-- What an item keeps that breaks no rule.
use Rattle.std.proofs.Common.{◌≡◌, ℕ, ◌+◌, ◌*◌, ◌%◌, ◌/◌, ◌<◌, ◌^◌, ◌&&◌, ◌||◌, not, Bool, bit_and, List, [], ◌∷◌, Option, Some, None, true, false, refl, sym, ap, ◌∙◌, subst, arith}
use Rattle.std.specs.Prelude.{◌==◌, nat_le}
use Rattle.std.proofs.lemmas.Bool.{not-false, eqb-true}
use Rattle.eb_base.specs.declared.width.Width.{Width}
use Rattle.eb_base.specs.declared.width.Width.TheVariants.{W8, W16, W32, W64}
use Rattle.eb_base.specs.declared.width.Widths.{Widths}
use Rattle.eb_base.specs.Width.{octets, bit}
use Rattle.eb_codec.specs.declared.item.Header.{Header}
use Rattle.eb_codec.specs.declared.item.Record.{Record}
use Rattle.eb_codec.specs.Rules.{has, breaks, broken}
use Rattle.eb_codec.specs.Form.{Fills, KeepsRules, FitsRecord, record_form, header_form}
use Rattle.eb_codec.specs.Stream.{BreaksNone, Spells, Headed, Recorded}
use Rattle.eb_codec.proofs.RuleLemmas.{none_of, head_legal}

no_flag : (a : ℕ) → has a 0x11 ≡ false → bit_and a 0x11 ≡ 0
no_flag a e = eqb-true _ _ (not-false _ e)

below : (x b : ℕ) → nat_le x b ≡ false → b < x
below x b e = grind (arith, e)

or_false : (b : Bool) → b || false ≡ false → b ≡ false
or_false true e = e
or_false false e = e

none_there : (b c : ℕ) → b == 0 && not (c == 0) ≡ false → b ≡ 0 → c ≡ 0
none_there b c e z = let f : not (c == 0) ≡ false = subst (λ (n : ℕ). n == 0 && not (c == 0) ≡ false) z e in eqb-true _ _ (not-false _ f)

none_read : (n : Bool) (d : ℕ) → n && not (d == 0) ≡ false → n ≡ true → d ≡ 0
none_read true d e z = eqb-true _ _ (not-false _ e)
none_read false d e z = cc z

keeps_from : (sets : Widths) (h : Header) (r : Record) (a b c d : ℕ) (rest : List ℕ) → a ≡ r.head.flags → b ≡ r.head.enable → c ≡ r.head.writes → d ≡ r.head.reads → BreaksNone sets (Some h) (a ∷ b ∷ c ∷ d ∷ rest) → KeepsRules h r.head
unfolding broken
keeps_from sets h r a b c d rest ea eb ec ed legal =
    let o : List ℕ = a ∷ b ∷ c ∷ d ∷ rest in
    let b0 = none_of (breaks sets (Some h) o 0) (legal 0 (omega arith)) in
    let b1 = none_of (breaks sets (Some h) o 1) (legal 1 (omega arith)) in
    let b2 = none_of (breaks sets (Some h) o 2) (legal 2 (omega arith)) in
    let b3 = none_of (breaks sets (Some h) o 3) (legal 3 (omega arith)) in
    let f0 = b0.flag in
    let f1 = b1.beyond in
    let f2 = b2.no_enable in
    let f3 = b3.no_enable in
    let f4 = b3.no_reply in
    record {
      flags = ap (λ (n : ℕ). bit_and n 0x11) (sym ea) ∙ no_flag a f0;
      enable = subst (λ (n : ℕ). n < 2 ^ octets h.port) eb (below (2 ^ octets h.port) b f1);
      enabled = λ z. (sym ec ∙ none_there b c (or_false _ f2) (eb ∙ z), sym ed ∙ none_there b d f3 (eb ∙ z));
      replied = λ z. sym ed ∙ none_read h.no_reply d f4 z;
    }

-- the first octets of a record that was spelled
pub keeps : (sets : Widths) (h : Header) (r : Record) (o : List ℕ) → Fills o (record_form h r) → BreaksNone sets (Some h) o → KeepsRules h r.head
keeps sets h r [] fills legal = elim fills [ ]
keeps sets h r (a ∷ []) fills legal = elim fills.1 [ ]
keeps sets h r (a ∷ b ∷ []) fills legal = elim fills.1.1 [ ]
keeps sets h r (a ∷ b ∷ c ∷ []) fills legal = elim fills.1.1.1 [ ]
keeps sets h r (a ∷ b ∷ c ∷ d ∷ rest) fills legal = keeps_from sets h r a b c d rest fills.0 fills.1.0 fills.1.1.0 fills.1.1.1.0 legal

port_half : (a p : Width) → (16 * bit a + bit p) % 16 ≡ bit p
port_half W8 W8 = refl
port_half W8 W16 = refl
port_half W8 W32 = refl
port_half W8 W64 = refl
port_half W16 W8 = refl
port_half W16 W16 = refl
port_half W16 W32 = refl
port_half W16 W64 = refl
port_half W32 W8 = refl
port_half W32 W16 = refl
port_half W32 W32 = refl
port_half W32 W64 = refl
port_half W64 W8 = refl
port_half W64 W16 = refl
port_half W64 W32 = refl
port_half W64 W64 = refl

address_half : (a p : Width) → (16 * bit a + bit p) / 16 ≡ bit a
address_half W8 W8 = refl
address_half W8 W16 = refl
address_half W8 W32 = refl
address_half W8 W64 = refl
address_half W16 W8 = refl
address_half W16 W16 = refl
address_half W16 W32 = refl
address_half W16 W64 = refl
address_half W32 W8 = refl
address_half W32 W16 = refl
address_half W32 W32 = refl
address_half W32 W64 = refl
address_half W64 W8 = refl
address_half W64 W16 = refl
address_half W64 W32 = refl
address_half W64 W64 = refl

and_right : (a b : Bool) → a && b ≡ true → b ≡ true
and_right true b e = e
and_right false b e = cc e

and_left : (a b : Bool) → a && b ≡ true → a ≡ true
and_left true b e = refl
and_left false b e = cc e

has_both : (sets : Widths) (h : Header) (o : List ℕ) → Fills o (header_form h) → BreaksNone sets None o → (has (bit h.address) sets.addresses ≡ true) × (has (bit h.port) sets.ports ≡ true)
has_both sets h [] fills legal = elim fills [ ]
has_both sets h (a ∷ []) fills legal = elim fills.1 [ ]
has_both sets h (a ∷ b ∷ []) fills legal = elim fills.1.1 [ ]
has_both sets h (a ∷ b ∷ c ∷ []) fills legal = elim fills.1.1.1 [ ]
has_both sets h (a ∷ b ∷ c ∷ d ∷ rest) fills legal =
    let w = (head_legal sets (a ∷ b ∷ c ∷ d ∷ rest) (omega arith) legal).widths in
    let l : has (d / 16) sets.addresses ≡ true = and_right _ _ (and_left _ _ w) in
    let r : has (d % 16) sets.ports ≡ true = and_right _ _ (and_right _ _ w) in
    let high : d / 16 ≡ bit h.address = ap (λ (n : ℕ). n / 16) fills.1.1.1.0 ∙ address_half h.address h.port in
    let low : d % 16 ≡ bit h.port = ap (λ (n : ℕ). n % 16) fills.1.1.1.0 ∙ port_half h.address h.port in
    (ap (λ (n : ℕ). has n sets.addresses) (sym high) ∙ l, ap (λ (n : ℕ). has n sets.ports) (sym low) ∙ r)

-- the slave has both widths of a header that was spelled
pub has_widths_of : (sets : Widths) (header : Option Header) (h : Header) (o : List ℕ) → Spells sets header (Headed h) o → (has (bit h.address) sets.addresses ≡ true) × (has (bit h.port) sets.ports ≡ true)
has_widths_of sets (Some g) h o s = elim s.form [ ]
has_widths_of sets None h o s = has_both sets h o s.form s.legal

-- a record that was spelled fits its form and breaks no rule, as the encoder asks
pub kept_record : (sets : Widths) (header : Option Header) (h : Header) (r : Record) (o : List ℕ) → header ≡ Some h → Spells sets header (Recorded r) o → FitsRecord h r × KeepsRules h r.head
kept_record sets header h r o e s =
    let t : Spells sets (Some h) (Recorded r) o = subst (λ (g : Option Header). Spells sets g (Recorded r) o) e s in
    (t.form.0, keeps sets h r o t.form.1 t.legal)
