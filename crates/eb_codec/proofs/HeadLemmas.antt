-- A header or probe: what its octets read as has its form, and what has its form reads so.
use Rattle.std.proofs.Common.{◌≡◌, ℕ, ◌+◌, ◌-◌, ◌*◌, ◌/◌, ◌%◌, ◌≤◌, Bool, true, false, ◌||◌, List, [], ◌∷◌, ◌++◌, length, take, drop, get_or, refl, sym, ap, subst, ◌∙◌, arith, inl, inr}
use Rattle.std.proofs.lemmas.Bool.{or_cases, and_parts, both_ways, eqb-true}
use Rattle.std.proofs.lemmas.List.{take-append-drop, take_all, length-drop, length-append, get_or-take}
use Rattle.eb_base.specs.declared.width.Width.{Width}
use Rattle.eb_base.specs.declared.width.Width.TheVariants.{W8, W16, W32, W64}
use Rattle.eb_base.specs.declared.width.Widths.{Widths}
use Rattle.eb_base.specs.Width.{bit}
use Rattle.eb_base.specs.Field.{octets_of, number, number_at}
use Rattle.eb_base.proofs.FieldLemmas.{IsBytes, length-octets_of, octets_of-number, number-octets_of, number-lt}
use Rattle.eb_codec.specs.declared.item.Header.{Header}
use Rattle.eb_codec.specs.declared.item.Probe.{Probe}
use Rattle.eb_codec.specs.Rules.{has, is_one_width, has_common}
use Rattle.eb_codec.specs.Sizes.{unit_octets}
use Rattle.eb_codec.specs.Form.{Form, fixed, padding, Fills, probe_form, header_form, version_octet, FitsProbe}
use Rattle.eb_codec.specs.Reading.{width_of, header_of, probe_of}
use Rattle.eb_codec.proofs.FormLemmas.{length-Fills, Fills-fixed, fixed-is, Fills-padding, Fills-parts, Fills-front, length-padding}
use Rattle.eb_codec.proofs.FieldLemmas.{IsBytes-drop, IsBytes-take}
use Rattle.eb_codec.proofs.RecordLemmas.{four, four-unit}
use Rattle.eb_codec.proofs.RuleLemmas.{HeadLegal, version_is}

-- the width that has a bit
bit-width_of : (b : ℕ) → is_one_width b ≡ true → bit (width_of b) ≡ b
bit-width_of b one =
    elim (or_cases _ _ one) [
      | inr e8 ↦ rw (eqb-true b 8 e8) refl
      | inl r ↦ elim (or_cases _ _ r) [
        | inr e4 ↦ rw (eqb-true b 4 e4) refl
        | inl r' ↦ elim (or_cases _ _ r') [ inr e2 ↦ rw (eqb-true b 2 e2) refl | inl e1 ↦ rw (eqb-true b 1 e1) refl ]
      ]
    ]

-- the octets from the fifth on
whole_probe : (o : List ℕ) → 4 ≤ length o → o ≡ get_or o 0 0 ∷ get_or o 1 0 ∷ get_or o 2 0 ∷ get_or o 3 0 ∷ drop 4 o
whole_probe o long = sym (take-append-drop 4 o) ∙ ap (λ (x : List ℕ). x ++ drop 4 o) (four o long)

join : {a a' b b' c c' d d' : ℕ} {x x' : List ℕ} → a ≡ a' → b ≡ b' → c ≡ c' → d ≡ d' → x ≡ x' → (a ∷ b ∷ c ∷ d ∷ x) ≡ (a' ∷ b' ∷ c' ∷ d' ∷ x')
join p q r s t = cc

pub probe_form_fills : (sets : Widths) (o : List ℕ) → HeadLegal sets o → has (get_or o 2 0) 1 ≡ true → length o ≡ 8 → IsBytes o → FitsProbe (probe_of o) × Fills o (probe_form (probe_of o))
probe_form_fills sets o legal is_probe len bytes =
    let c3 : ℕ = get_or o 3 0 in
    let b3 = bytes 3 in
    let d : List ℕ = drop 4 o in
    let d-len : length d ≡ 4 = omega (arith, length-drop 4 o) in
    let id : octets_of W32 (number_at W32 o 4) ≡ d = ap (λ (x : List ℕ). octets_of W32 (number W32 x)) (take_all 4 d (omega arith)) ∙ octets_of-number W32 d d-len (IsBytes-drop 4 o bytes) in
    let v : get_or o 2 0 ≡ version_octet (has (get_or o 2 0) 4) true = version_is (get_or o 2 0) (bytes 2) legal.version legal.response legal.reserved ∙ ap (version_octet (has (get_or o 2 0) 4)) is_probe in
    let w : c3 ≡ 16 * (c3 / 16) + c3 % 16 = omega arith in
    let e0 = legal.first in
    let e1 = legal.second in
    let all : List ℕ = 0x4E ∷ 0x6F ∷ version_octet (has (get_or o 2 0) 4) true ∷ (16 * (c3 / 16) + c3 % 16) ∷ octets_of W32 (number_at W32 o 4) in
    let same : o ≡ all = whole_probe o (omega arith) ∙ join e0 e1 v w (sym id) in (
      record { widths = (omega arith, omega arith); id = number-lt W32 (take 4 d) (IsBytes-take 4 d (IsBytes-drop 4 o bytes)) },
      subst (λ (x : List ℕ). Fills x (probe_form (probe_of o))) (sym same) (Fills-fixed all),
    )

is_one : (asked set : ℕ) (is_probe : Bool) → has_common asked set is_probe ≡ true → is_probe ≡ false → is_one_width asked ≡ true
is_one asked set is_probe h header = elim (or_cases is_probe (is_one_width asked) (and_parts (is_probe || is_one_width asked) (has asked set) h).0) [ inl y ↦ absurd (both_ways is_probe header y) | inr y ↦ y ]

pub header_form_fills : (sets : Widths) (o : List ℕ) → HeadLegal sets o → has (get_or o 2 0) 1 ≡ false → length o ≡ unit_octets (header_of o) → IsBytes o → Fills o (header_form (header_of o))
header_form_fills sets o legal is_header len bytes =
    let c2 : ℕ = get_or o 2 0 in
    let c3 : ℕ = get_or o 3 0 in
    let h = header_of o in
    let both = and_parts (has_common (c3 / 16) sets.addresses (has c2 1)) (has_common (c3 % 16) sets.ports (has c2 1)) legal.widths in
    let a : bit (width_of (c3 / 16)) ≡ c3 / 16 = bit-width_of (c3 / 16) (is_one (c3 / 16) sets.addresses (has c2 1) both.0 is_header) in
    let p : bit (width_of (c3 % 16)) ≡ c3 % 16 = bit-width_of (c3 % 16) (is_one (c3 % 16) sets.ports (has c2 1) both.1 is_header) in
    let v : c2 ≡ version_octet (has c2 4) false = version_is c2 (bytes 2) legal.version legal.response legal.reserved ∙ ap (version_octet (has c2 4)) is_header in
    let w : c3 ≡ 16 * bit h.address + bit h.port = omega arith in
    let e0 = legal.first in
    let e1 = legal.second in
    let all : List ℕ = 0x4E ∷ 0x6F ∷ version_octet (has c2 4) false ∷ (16 * bit h.address + bit h.port) ∷ [] in
    let front : take 4 o ≡ all = four o (omega (arith, four-unit h)) ∙ join e0 e1 v w refl in
    Fills-parts 4 o (fixed all) (padding (unit_octets h - 4)) (subst (λ (x : List ℕ). Fills x (fixed all)) (sym front) (Fills-fixed all)) (Fills-padding (drop 4 o) (unit_octets h - 4) (omega (arith, length-drop 4 o)))

-- ---- the other way

same_probe : (x y : Probe) → x.no_reply ≡ y.no_reply → x.widths.addresses ≡ y.widths.addresses → x.widths.ports ≡ y.widths.ports → x.id ≡ y.id → x ≡ y
same_probe x y a b c d = λ i. record { no_reply = a i; widths = record { addresses = b i; ports = c i }; id = d i }

same_header : (x y : Header) → x.no_reply ≡ y.no_reply → x.address ≡ y.address → x.port ≡ y.port → x ≡ y
same_header x y a b c = λ i. record { no_reply = a i; address = b i; port = c i }

no_reply-version : (n p : Bool) → has (version_octet n p) 4 ≡ n
no_reply-version true true = refl
no_reply-version true false = refl
no_reply-version false true = refl
no_reply-version false false = refl

pub is_probe-version : (n p : Bool) → has (version_octet n p) 1 ≡ p
is_probe-version true true = refl
is_probe-version true false = refl
is_probe-version false true = refl
is_probe-version false false = refl

-- a list of at least four, from its fifth on
pub probe_read : (p : Probe) (o : List ℕ) → FitsProbe p → Fills o (probe_form p) → (probe_of o ≡ p) × (has (get_or o 2 0) 1 ≡ true) × (length o ≡ 8)
probe_read p o fits fills =
    let v : ℕ = version_octet p.no_reply true in
    let w : ℕ = 16 * p.widths.addresses + p.widths.ports in
    let all : List ℕ = 0x4E ∷ 0x6F ∷ v ∷ w ∷ octets_of W32 p.id in
    let same : o ≡ all = fixed-is o all fills in
    let ports = fits.widths.1 in
    let a : w / 16 ≡ p.widths.addresses = omega arith in
    let b : w % 16 ≡ p.widths.ports = omega arith in
    let len = length-octets_of W32 p.id in
    let id : number_at W32 all 4 ≡ p.id = ap (number W32) (take_all 4 (octets_of W32 p.id) (omega arith)) ∙ number-octets_of W32 p.id fits.id in
    let read : probe_of all ≡ p = same_probe (probe_of all) p (no_reply-version p.no_reply true) a b id in
    (ap probe_of same ∙ read, ap (λ (x : List ℕ). has (get_or x 2 0) 1) same ∙ is_probe-version p.no_reply true, ap length same ∙ omega arith)

octet3_address : (a p : Width) → width_of ((16 * bit a + bit p) / 16) ≡ a
octet3_address W8 W8 = refl
octet3_address W8 W16 = refl
octet3_address W8 W32 = refl
octet3_address W8 W64 = refl
octet3_address W16 W8 = refl
octet3_address W16 W16 = refl
octet3_address W16 W32 = refl
octet3_address W16 W64 = refl
octet3_address W32 W8 = refl
octet3_address W32 W16 = refl
octet3_address W32 W32 = refl
octet3_address W32 W64 = refl
octet3_address W64 W8 = refl
octet3_address W64 W16 = refl
octet3_address W64 W32 = refl
octet3_address W64 W64 = refl

octet3_port : (a p : Width) → width_of ((16 * bit a + bit p) % 16) ≡ p
octet3_port W8 W8 = refl
octet3_port W8 W16 = refl
octet3_port W8 W32 = refl
octet3_port W8 W64 = refl
octet3_port W16 W8 = refl
octet3_port W16 W16 = refl
octet3_port W16 W32 = refl
octet3_port W16 W64 = refl
octet3_port W32 W8 = refl
octet3_port W32 W16 = refl
octet3_port W32 W32 = refl
octet3_port W32 W64 = refl
octet3_port W64 W8 = refl
octet3_port W64 W16 = refl
octet3_port W64 W32 = refl
octet3_port W64 W64 = refl

pub header_read : (h : Header) (o : List ℕ) → Fills o (header_form h) → (header_of o ≡ h) × (has (get_or o 2 0) 1 ≡ false) × (length o ≡ unit_octets h)
header_read h o fills =
    let v : ℕ = version_octet h.no_reply false in
    let w : ℕ = 16 * bit h.address + bit h.port in
    let all : List ℕ = 0x4E ∷ 0x6F ∷ v ∷ w ∷ [] in
    let pad : Form = padding (unit_octets h - 4) in
    let len : length o ≡ unit_octets h = length-Fills o (header_form h) fills ∙ omega (arith, length-append (fixed all) pad, length-padding (unit_octets h - 4), four-unit h) in
    let front : take 4 o ≡ all = fixed-is (take 4 o) all (Fills-front o (fixed all) pad fills) in
    let c2 : get_or o 2 0 ≡ v = sym (get_or-take 4 o 2 0 (omega arith)) ∙ ap (λ (x : List ℕ). get_or x 2 0) front in
    let c3 : get_or o 3 0 ≡ w = sym (get_or-take 4 o 3 0 (omega arith)) ∙ ap (λ (x : List ℕ). get_or x 3 0) front in
    let read : header_of o ≡ h = same_header (header_of o) h (ap (λ (x : ℕ). has x 4) c2 ∙ no_reply-version h.no_reply false) (ap (λ (x : ℕ). width_of (x / 16)) c3 ∙ octet3_address h.address h.port) (ap (λ (x : ℕ). width_of (x % 16)) c3 ∙ octet3_port h.address h.port) in
    (read, ap (λ (x : ℕ). has x 1) c2 ∙ is_probe-version h.no_reply false, len)
