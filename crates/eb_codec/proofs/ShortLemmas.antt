-- Short records: which octets are one, and what they read as.
use Rattle.std.proofs.Common.{◌≡◌, ℕ, zero, suc, ◌+◌, ◌≤◌, Bool, true, false, not, ◌||◌, eqb, bit_and, List, [], ◌∷◌, take, drop, get_or, Some, refl, sym, ap, subst, ◌∙◌, arith, ◌⊎◌, inl, inr}
use Rattle.std.proofs.lemmas.Bool.{or_cases, eq-eqb, both_ways, not-true, eqb-true, agree_below, agree_below_at}
use Rattle.std.proofs.lemmas.List.{length-take, drop-drop, get_or-take}
use Rattle.eb_base.specs.declared.width.Width.TheVariants.{W32}
use Rattle.eb_base.specs.declared.width.Widths.{Widths}
use Rattle.eb_base.specs.Field.{number_at}
use Rattle.eb_codec.specs.declared.short.ShortRecord.{ShortRecord}
use Rattle.eb_codec.specs.Rules.{has, breaks, broken}
use Rattle.eb_codec.specs.Stream.{BreaksNone}
use Rattle.eb_codec.specs.Reading.{size, record_octets, record_of, record_head_of, base_in, list_in, part_octets}
use Rattle.eb_codec.specs.Short.{BeginsShort, IsShortFlags, short_header, short_record}
use Rattle.eb_codec.proofs.RuleLemmas.{from_none}
use Rattle.eb_codec.proofs.ViewLemmas.{head_of}
use Rattle.eb_codec.proofs.ItemLemmas.{broken_later}
use Rattle.eb_codec.proofs.FieldLemmas.{number_at-take}
use Rattle.eb_codec.proofs.ReadingLemmas.{number_at-drop, record_parts-are}

abbrev flag_octet : ℕ → Bool
flag_octet f = not (eqb (bit_and f 0x77) 0) || (eqb f 0 || (eqb f 8 || (eqb f 128 || eqb f 136)))

flag_octet_all : agree_below flag_octet (λ _. true) 256 ≡ true
flag_octet_all = refl

-- the flags of a short record, one by one
pub short_flags : (f : ℕ) → IsShortFlags f → (f ≡ 0) ⊎ ((f ≡ 8) ⊎ ((f ≡ 128) ⊎ (f ≡ 136)))
short_flags f s =
    let e = agree_below_at flag_octet (λ _. true) 256 f flag_octet_all s.octet in
    let is : eqb (bit_and f 0x77) 0 ≡ true = eq-eqb _ _ s.none in
    elim (or_cases (not (eqb (bit_and f 0x77) 0)) (eqb f 0 || (eqb f 8 || (eqb f 128 || eqb f 136))) e) [
      | inl n ↦ absurd (both_ways _ (not-true _ n) is)
      | inr y ↦ elim (or_cases (eqb f 0) (eqb f 8 || (eqb f 128 || eqb f 136)) y) [
        | inl a ↦ inl (eqb-true _ _ a)
        | inr z ↦ elim (or_cases (eqb f 8) (eqb f 128 || eqb f 136) z) [
          | inl a ↦ inr (inl (eqb-true _ _ a))
          | inr w ↦ elim (or_cases (eqb f 128) (eqb f 136) w) [
            | inl a ↦ inr (inr (inl (eqb-true _ _ a)))
            | inr a ↦ inr (inr (inr (eqb-true _ _ a)))
          ]
        ]
      ]
    ]

-- what each of them says of any property
pub by_flags : (P : ℕ → Type 0) (f : ℕ) → IsShortFlags f → P 0 → P 8 → P 128 → P 136 → P f
by_flags P f s a b c d =
    elim (short_flags f s) [
      | inl e ↦ subst P (sym e) a
      | inr x ↦ elim x [
        | inl e ↦ subst P (sym e) b
        | inr y ↦ elim y [ inl e ↦ subst P (sym e) c | inr e ↦ subst P (sym e) d ]
      ]
    ]

-- it breaks no rule
pub short_none : (sets : Widths) (o : List ℕ) → BeginsShort o → BreaksNone sets (Some short_header) o
unfolding broken
short_none sets o b zero lt = from_none (breaks sets (Some short_header) o 0) (record { magic = refl; version = refl; response = refl; reserved = refl; width = refl; flag = by_flags (λ (f : ℕ). has f 17 ≡ false) (get_or o 0 0) b.flags refl refl refl refl; beyond = refl; no_enable = refl; no_reply = refl })
short_none sets o b (suc zero) lt = from_none (breaks sets (Some short_header) o 1) (record { magic = refl; version = refl; response = refl; reserved = refl; width = refl; flag = refl; beyond = rw b.enable refl; no_enable = refl; no_reply = refl })
short_none sets o b (suc (suc zero)) lt = from_none (breaks sets (Some short_header) o 2) (record { magic = refl; version = refl; response = refl; reserved = refl; width = refl; flag = refl; beyond = refl; no_enable = rw b.enable refl; no_reply = refl })
short_none sets o b (suc (suc (suc zero))) lt = from_none (breaks sets (Some short_header) o 3) (record { magic = refl; version = refl; response = refl; reserved = refl; width = refl; flag = refl; beyond = refl; no_enable = rw b.enable refl; no_reply = refl })
short_none sets o b (suc (suc (suc (suc k)))) lt = broken_later sets (Some short_header) o (suc (suc (suc (suc k)))) (omega arith)

-- how long it is
pub short_size : (o : List ℕ) → BeginsShort o → size (Some short_header) o ≡ 20
unfolding size record_octets
short_size o b = rw (b.writes, b.reads) refl

-- the front of the octets begins so too
pub short_front : (o : List ℕ) → BeginsShort o → BeginsShort (take 20 o)
short_front (a ∷ b ∷ c ∷ d ∷ o) s = let l = length-take 20 (a ∷ b ∷ c ∷ d ∷ o) in record { long = omega (arith, l, s.long); flags = s.flags; enable = s.enable; writes = s.writes; reads = s.reads }
short_front [] s = absurd (omega (arith, s.long))
short_front (a ∷ []) s = absurd (omega (arith, s.long))
short_front (a ∷ b ∷ []) s = absurd (omega (arith, s.long))
short_front (a ∷ b ∷ c ∷ []) s = absurd (omega (arith, s.long))

-- a number behind others
field_at : (o : List ℕ) (m k n : ℕ) → m + k ≡ n → n + 4 ≤ 20 → number_at W32 (drop m (take 20 o)) k ≡ number_at W32 o n
field_at o m k n is le = number_at-drop W32 m (take 20 o) k ∙ ap (λ (j : ℕ). number_at W32 (take 20 o) j) is ∙ number_at-take W32 20 o n le

-- what it reads as
pub short_read : (o : List ℕ) (s : ShortRecord) → BeginsShort o → s.flags ≡ get_or o 0 0 → s.write_base ≡ number_at W32 o 4 → s.value ≡ number_at W32 o 8 → s.return_base ≡ number_at W32 o 12 → s.address ≡ number_at W32 o 16
    → record_of short_header (take 20 o) ≡ short_record s
short_read o s b flags base value back address =
    let t : List ℕ = take 20 o in
    let f = short_front o b in
    let first : get_or t 0 0 ≡ s.flags = get_or-take 20 o 0 0 (omega arith) ∙ sym flags in
    let second : drop 8 (drop 4 t) ≡ drop 12 t = drop-drop 8 4 t in
    let p = record_parts-are short_header t in
    let h : (record_of short_header t).head ≡ record_head_of t = head_of short_header t in
    let two : (record_of short_header t).values ≡ s.value ∷ [] = p.values ∙ ap (λ (n : ℕ). list_in short_header W32 n (drop 4 t)) f.writes ∙ ap (λ (n : ℕ). n ∷ []) (ap (λ (l : List ℕ). number_at W32 l 0) (drop-drop 4 4 t) ∙ field_at o 8 0 8 refl (omega arith) ∙ sym value) in
    let at : (record_of short_header t).return_base ≡ base_in short_header 1 (drop 12 t) = p.return_base ∙ ap (λ (n : ℕ). base_in short_header n (drop (4 + part_octets short_header (get_or t 2 0)) t)) f.reads ∙ ap (λ (n : ℕ). base_in short_header 1 (drop (4 + part_octets short_header n) t)) f.writes in
    let last : (record_of short_header t).addresses ≡ list_in short_header W32 1 (drop 12 t) = p.addresses ∙ ap (λ (n : ℕ). list_in short_header W32 n (drop (4 + part_octets short_header (get_or t 2 0)) t)) f.reads ∙ ap (λ (n : ℕ). list_in short_header W32 1 (drop (4 + part_octets short_header n) t)) f.writes in
    let base-is = p.write_base ∙ ap (λ (n : ℕ). base_in short_header n (drop 4 t)) f.writes ∙ field_at o 4 0 4 refl (omega arith) ∙ sym base in
    let back-is = at ∙ field_at o 12 0 12 refl (omega arith) ∙ sym back in
    let last-is = last ∙ ap (λ (n : ℕ). n ∷ []) (ap (λ (l : List ℕ). number_at W32 l 0) (drop-drop 4 12 t) ∙ field_at o 16 0 16 refl (omega arith) ∙ sym address) in
    λ i. record {
      head = (h ∙ (λ j. record { flags = first j; enable = f.enable j; writes = f.writes j; reads = f.reads j })) i;
      write_base = base-is i;
      values = two i;
      return_base = back-is i;
      addresses = last-is i;
    }
