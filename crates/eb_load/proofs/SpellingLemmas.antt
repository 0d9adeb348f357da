-- The octets of a generated stream, and what they spell.
use Rattle.std.proofs.Common.{◌≡◌, ℕ, zero, suc, ◌+◌, ◌*◌, ◌%◌, ◌^◌, ◌<◌, ◌≤◌, List, [], ◌∷◌, ◌++◌, length, Some, refl, sym, ap, ◌∙◌, arith, append_assoc, length-append}
use Rattle.std.specs.List.{flat_map, All}
use Rattle.std.proofs.lemmas.List.{append-nil}
use Rattle.std.proofs.lemmas.List.Elements.{All-nil, All-cons}
use Rattle.eb_base.specs.declared.width.Width.TheVariants.{W32}
use Rattle.eb_base.specs.Field.{octets_of}
use Rattle.eb_base.proofs.FieldLemmas.{length-octets_of}
use Rattle.eb_codec.specs.Form.{zeroed, field, part, FitsRecord, KeepsRules}
use Rattle.eb_codec.specs.Stream.{SpellsAll, Spells, Recorded}
use Rattle.eb_codec.specs.Sizes.{gap}
use Rattle.eb_codec.specs.Reading.{part_octets, body_octets}
use Rattle.eb_codec.proofs.ZeroedLemmas.{zeroed-append, zeroed-fixed, zeroed_record}
use Rattle.eb_codec.proofs.EncodedLemmas.{encoded_spells, encoded_header_spells}
use Rattle.eb_load.specs.Draws.{next, drawn, state_after}
use Rattle.eb_load.specs.Stream.{load_header, write_count, write_base, read_count, values_from, addresses_from, after_values, after_record, load_record, load_record_octets, record_items, octets_of_records, slave_widths, SpellsLoad, IsShort}
use Rattle.eb_load.proofs.DrawLemmas.{octets_of_all}

-- ---- numbers of a record

drawn-lt : (x : ℕ) → drawn x < 32768
unfolding drawn next
drawn-lt x = omega arith

length-values_from : (n x : ℕ) → length (values_from n x) ≡ n
length-values_from zero x = refl
length-values_from (suc n) x = ap suc (length-values_from n (next (next x)))

length-addresses_from : (n x : ℕ) → length (addresses_from n x) ≡ n
length-addresses_from zero x = refl
length-addresses_from (suc n) x = ap suc (length-addresses_from n (next x))

abbrev is_word : ℕ → Type 0
is_word v = v < 256 ^ 4

values_fit : (n x : ℕ) → All is_word (values_from n x)
values_fit zero x = All-nil is_word
values_fit (suc n) x =
    let high = drawn-lt x in
    let low = drawn-lt (next x) in
    All-cons is_word (drawn x * 65536 + drawn (next x)) (values_from n (next (next x))) (omega arith) (values_fit n (next (next x)))

addresses_fit : (n x : ℕ) → All is_word (addresses_from n x)
addresses_fit zero x = All-nil is_word
addresses_fit (suc n) x = All-cons is_word (4 * (drawn x % 16384)) (addresses_from n (next x)) (omega arith) (addresses_fit n (next x))

fits : (x : ℕ) → FitsRecord load_header (load_record x)
unfolding load_record
fits x = record {
  writes = length-values_from (write_count x) (state_after 3 x);
  reads = length-addresses_from (read_count x) (after_values x);
  write_base = omega arith;
  return_base = omega arith;
  values = values_fit (write_count x) (state_after 3 x);
  addresses = addresses_fit (read_count x) (after_values x);
  no_write = λ none. absurd (omega arith);
  no_read = λ none. refl;
}

keeps : (x : ℕ) → KeepsRules load_header (load_record x).head
unfolding load_record
keeps x = record {
  flags = refl;
  enable = omega arith;
  enabled = λ none. absurd (omega arith);
  replied = λ refused. cc;
}

-- ---- octets of a record

fields-are : (ns : List ℕ) → zeroed (flat_map (field load_header W32) ns) ≡ octets_of_all ns
fields-are [] = refl
fields-are (n ∷ ns) =
    let both = zeroed-append (field load_header W32 n) (flat_map (field load_header W32) ns) in
    let one : zeroed (field load_header W32 n) ≡ octets_of W32 n = zeroed-fixed (octets_of W32 n) in
    let rest = fields-are ns in
    cc

part-is : (base : ℕ) (ns : List ℕ) → 0 < length ns → zeroed (part load_header W32 base ns) ≡ octets_of W32 base ++ octets_of_all ns
unfolding part
part-is base [] some = absurd (omega arith)
part-is base (n ∷ ns) some =
    let both = zeroed-append (field load_header W32 base) (flat_map (field load_header W32) (n ∷ ns)) in
    let one : zeroed (field load_header W32 base) ≡ octets_of W32 base = zeroed-fixed (octets_of W32 base) in
    let rest = fields-are (n ∷ ns) in
    cc

part_octets-is : (n : ℕ) → 0 < n → part_octets load_header n ≡ 4 + 4 * n
part_octets-is zero some = absurd (omega arith)
part_octets-is (suc n) some = refl

no_gap : (w r : ℕ) → 0 < w → 0 < r → 0 ≡ gap 4 (body_octets load_header w r)
no_gap w r some_write some_read =
    let a = part_octets-is w some_write in
    let b = part_octets-is r some_read in
    let body : body_octets load_header w r ≡ 4 * (3 + w + r) = omega (arith, a, b) in
    sym (ap (gap 4) body ∙ omega arith)

abbrev head_of : ℕ → List ℕ
head_of x = 0x88 ∷ 0x0F ∷ write_count x ∷ read_count x ∷ []

-- the octets of a record, part by part
pub load_record_octets-is : (x : ℕ) → load_record_octets x ≡ head_of x ++ octets_of W32 (write_base x) ++ octets_of_all (values_from (write_count x) (state_after 3 x)) ++ octets_of W32 0 ++ octets_of_all (addresses_from (read_count x) (after_values x))
unfolding load_record_octets load_record
load_record_octets-is x =
    let h : List ℕ = head_of x in
    let vs : List ℕ = values_from (write_count x) (state_after 3 x) in
    let as' : List ℕ = addresses_from (read_count x) (after_values x) in
    let v : List ℕ = zeroed (part load_header W32 (write_base x) vs) in
    let a : List ℕ = zeroed (part load_header W32 0 as') in
    let b : List ℕ = h ++ [] in
    let spelled = zeroed_record load_header (load_record x) [] h b (b ++ v) (b ++ v ++ a) (b ++ v ++ a ++ []) 0 (fits x) (no_gap (write_count x) (read_count x) (omega arith) (omega arith)) refl refl refl refl refl in
    let v-is = part-is (write_base x) vs (omega (arith, length-values_from (write_count x) (state_after 3 x))) in
    let a-is = part-is 0 as' (omega (arith, length-addresses_from (read_count x) (after_values x))) in
    let nil = append-nil (b ++ v ++ a) in
    let first = append_assoc h (octets_of W32 (write_base x)) (octets_of_all vs) in
    let second = append_assoc (h ++ octets_of W32 (write_base x) ++ octets_of_all vs) (octets_of W32 0) (octets_of_all as') in
    cc

-- ---- the stream

length-octets_of_all : (ns : List ℕ) → length (octets_of_all ns) ≡ 4 * length ns
length-octets_of_all [] = refl
length-octets_of_all (n ∷ ns) = omega (arith, length-append (octets_of W32 n) (octets_of_all ns), length-octets_of W32 n, length-octets_of_all ns)

length-load_record_octets : (x : ℕ) → length (load_record_octets x) ≤ 44
length-load_record_octets x =
    let h : List ℕ = head_of x in
    let b : List ℕ = octets_of W32 (write_base x) in
    let vs : List ℕ = values_from (write_count x) (state_after 3 x) in
    let z : List ℕ = octets_of W32 0 in
    let as' : List ℕ = addresses_from (read_count x) (after_values x) in
    omega (
      arith,
      ap (λ (l : List ℕ). length l) (load_record_octets-is x),
      length-append (h ++ b ++ octets_of_all vs ++ z) (octets_of_all as'),
      length-append (h ++ b ++ octets_of_all vs) z,
      length-append (h ++ b) (octets_of_all vs),
      length-append h b,
      length-octets_of W32 (write_base x),
      length-octets_of W32 0,
      length-octets_of_all vs,
      length-octets_of_all as',
      length-values_from (write_count x) (state_after 3 x),
      length-addresses_from (read_count x) (after_values x),
    )

length-records : (n x : ℕ) → length (octets_of_records n x) ≤ 44 * n
length-records zero x = omega arith
length-records (suc n) x = omega (arith, length-append (load_record_octets x) (octets_of_records n (after_record x)), length-load_record_octets x, length-records n (after_record x))

pub is_short : IsShort
is_short start n = omega (arith, length-records n start)

spells_record : (x : ℕ) → Spells slave_widths (Some load_header) (Recorded (load_record x)) (load_record_octets x)
unfolding load_record_octets
spells_record x = encoded_spells slave_widths load_header (load_record x) (fits x) (keeps x)

spells_records : (n x : ℕ) → SpellsAll slave_widths (Some load_header) (record_items n x) (octets_of_records n x)
spells_records zero x = refl
spells_records (suc n) x = (load_record_octets x, octets_of_records n (after_record x), refl, spells_record x, spells_records n (after_record x))

pub spells_load : SpellsLoad
spells_load start n = (78 ∷ 111 ∷ 16 ∷ 68 ∷ [], octets_of_records n start, refl, encoded_header_spells slave_widths load_header refl refl, spells_records n start)

-- a record that was appended part by part
pub made_record : (x w r base s t : ℕ) (o0 o1 o2 o3 o4 : List ℕ) → w ≡ write_count x → r ≡ read_count x → base ≡ write_base x → s ≡ state_after 3 x → t ≡ after_values x
    → o0 ≡ 0x88 ∷ 0x0F ∷ w ∷ r ∷ [] → o1 ≡ o0 ++ octets_of W32 base → o2 ≡ o1 ++ octets_of_all (values_from w s) → o3 ≡ o2 ++ octets_of W32 0 → o4 ≡ o3 ++ octets_of_all (addresses_from r t) → o4 ≡ load_record_octets x
made_record x w r base s t o0 o1 o2 o3 o4 ew er eb es et e0 e1 e2 e3 e4 =
    let whole = load_record_octets-is x in
    cc
