-- What is written for a record is read as that record: its fields stand apart, in the order of their octets.
use Rattle.std.proofs.Common.{◌≡◌, ℕ, ◌+◌, ◌≤◌, Bool, true, ◌&&◌, List, [], ◌∷◌, ◌++◌, length, take, drop, replicate, Ok, refl, sym, ap, ◌∙◌, arith}
use Rattle.std.specs.Prelude.{nat_le}
use Rattle.std.proofs.lemmas.Bool.{and_parts, leb-true}
use Rattle.std.proofs.lemmas.List.{append_assoc, length-append, length-take, length-drop, length-replicate, take_at, drop_at, take-append-le, take-take, drop-take}
use Rattle.eb_base.specs.Width.{octets}
use Rattle.eb_base.specs.Field.{octets_of, number}
use Rattle.eb_base.proofs.FieldLemmas.{length-octets_of, number-octets_of}
use Rattle.sdb_record.specs.declared.kinds.Record.{Record}
use Rattle.sdb_record.specs.declared.kinds.Record.TheVariants.{Interconnect, Device, Bridge, Integration, Empty}
use Rattle.sdb_record.specs.Text.{text_in, spaced}
use Rattle.sdb_record.specs.Layout.{Field, Number, Text, fields, wishbone}
use Rattle.sdb_record.specs.Relation.{Has, HasAll, IsValid, FitsField, FitFields, IsRecord, with_field, with_fields, encoded}
use Rattle.sdb_record.specs.Decoding.{decoded}
use Rattle.sdb_record.proofs.TextLemmas.{spaced_again}
use Rattle.sdb_record.proofs.ReadLemmas.{only}

-- ---- one field

abbrev place : Field → ℕ
place (Number at w n) = at
place (Text at size t) = at

abbrev size_of : Field → ℕ
size_of (Number at w n) = octets w
size_of (Text at size t) = size

-- what stands in octets with others written over a part
part_written : (o xs : List ℕ) (at s : ℕ) → length xs ≡ s → at + s ≤ length o → take s (drop at (take at o ++ xs ++ drop (at + s) o)) ≡ xs
part_written o xs at s len le =
    let front : length (take at o) ≡ at = omega (arith, length-take at o) in
    ap (λ (l : List ℕ). take s (drop at l)) (append_assoc (take at o) xs (drop (at + s) o))
    ∙ ap (take s) (drop_at (take at o) (xs ++ drop (at + s) o) at front)
    ∙ take_at xs (drop (at + s) o) s len

-- what stands before that part
part_before : (o xs ys : List ℕ) (at p n : ℕ) → p + n ≤ at → at ≤ length o → take n (drop p (take at o ++ xs ++ ys)) ≡ take n (drop p o)
part_before o xs ys at p n le long =
    let front : take (p + n) (take at o ++ xs ++ ys) ≡ take (p + n) o =
    ap (take (p + n)) (append_assoc (take at o) xs ys)
    ∙ take-append-le (p + n) (take at o) (xs ++ ys) (omega (arith, length-take at o))
    ∙ take-take (p + n) at o le in
    sym (drop-take p n (take at o ++ xs ++ ys)) ∙ ap (drop p) front ∙ drop-take p n o

length_written : (o xs : List ℕ) (at s : ℕ) → length xs ≡ s → at + s ≤ length o → length (take at o ++ xs ++ drop (at + s) o) ≡ length o
length_written o xs at s len le =
    omega (arith, length-append (take at o ++ xs) (drop (at + s) o), length-append (take at o) xs, length-take at o, length-drop (at + s) o)

has_written : (o : List ℕ) (f : Field) → FitsField f → place f + size_of f ≤ length o → Has (with_field o f) f
unfolding with_field
has_written o (Number at w n) fits le = ap (number w) (part_written o (octets_of w n) at (octets w) (length-octets_of w n) le) ∙ number-octets_of w n fits
has_written o (Text at size t) fits le =
    let again : spaced size (text_in t) ≡ t = ap (λ (k : ℕ). spaced k (text_in t)) (sym fits.0) ∙ spaced_again t fits.1 in
    ap (λ (l : List ℕ). spaced size (text_in l)) (part_written o t at size fits.0 le) ∙ again

same_before : (o : List ℕ) (g : Field) (p n : ℕ) → p + n ≤ place g → place g + size_of g ≤ length o → take n (drop p (with_field o g)) ≡ take n (drop p o)
unfolding with_field
same_before o (Number at w m) p n le long = part_before o (octets_of w m) (drop (at + octets w) o) at p n le (omega arith)
same_before o (Text at size t) p n le long = part_before o t (drop (at + size) o) at p n le (omega arith)

-- an earlier field stays
has_kept : (o : List ℕ) (f g : Field) → Has o f → place f + size_of f ≤ place g → place g + size_of g ≤ length o → Has (with_field o g) f
has_kept o (Number at w n) g h le long = ap (number w) (same_before o g at (octets w) le long) ∙ h
has_kept o (Text at size t) g h le long = ap (λ (l : List ℕ). spaced size (text_in l)) (same_before o g at size le long) ∙ h

length_kept : (o : List ℕ) (g : Field) → FitsField g → place g + size_of g ≤ length o → length (with_field o g) ≡ length o
unfolding with_field
length_kept o (Number at w n) fits le = length_written o (octets_of w n) at (octets w) (length-octets_of w n) le
length_kept o (Text at size t) fits le = length_written o t at size fits.0 le

-- ---- all fields

-- each field begins where the one before it ends, or later, and ends within the 64 octets
abbrev in_order : ℕ → List Field → Bool
in_order from [] = true
in_order from (f ∷ fs) = nat_le from (place f) && (nat_le (place f + size_of f) 64 && in_order (place f + size_of f) fs)

pub record Stands (from : ℕ) (f : Field) (fs : List Field) : Type 0 where
  pub after : from ≤ place f
  pub within : place f + size_of f ≤ 64
  pub rest : in_order (place f + size_of f) fs ≡ true

stands : (from : ℕ) (f : Field) (fs : List Field) → in_order from (f ∷ fs) ≡ true → Stands from f fs
stands from f fs e =
    let a = and_parts (nat_le from (place f)) _ e in
    let b = and_parts (nat_le (place f + size_of f) 64) _ a.1 in
    record { after = leb-true _ _ a.0; within = leb-true _ _ b.0; rest = b.1 }

kept_through : (from : ℕ) (o : List ℕ) (f : Field) (fs : List Field) → in_order from fs ≡ true → place f + size_of f ≤ from → length o ≡ 64 → FitFields fs → Has o f → Has (with_fields o fs) f
kept_through from o f [] e le len fit h = h
kept_through from o f (g ∷ fs) e le len fit h =
    let s = stands from g fs e in
    let after = s.after in
    let within = s.within in
    kept_through (place g + size_of g) (with_field o g) f fs s.rest (omega arith) (length_kept o g fit.0 (omega arith) ∙ len) fit.1 (has_kept o f g h (omega arith) (omega arith))

all_written : (from : ℕ) (o : List ℕ) (fs : List Field) → in_order from fs ≡ true → length o ≡ 64 → FitFields fs → HasAll (with_fields o fs) fs
all_written from o [] e len fit = tt
all_written from o (f ∷ fs) e len fit =
    let s = stands from f fs e in
    let within = s.within in
    let le : place f + size_of f ≤ length o = omega arith in
    let long : length (with_field o f) ≡ 64 = length_kept o f fit.0 le ∙ len in
    (kept_through (place f + size_of f) (with_field o f) f fs s.rest (omega arith) long fit.1 (has_written o f fit.0 le), all_written (place f + size_of f) (with_field o f) fs s.rest long fit.1)

-- the tables are in order
fields_in_order : (bus : ℕ) (r : Record) → in_order 0 (fields bus r) ≡ true
fields_in_order bus (Interconnect records first last p) = refl
fields_in_order bus (Device class major minor bus_specific first last p) = refl
fields_in_order bus (Bridge child first last p) = refl
fields_in_order bus (Integration p) = refl
fields_in_order bus Empty = refl

pub encoded_related : (bus : ℕ) (r : Record) → IsValid r → FitFields (fields bus r) → IsRecord bus r (encoded bus r)
encoded_related bus r valid fit = record {
  valid = valid;
  fit = fit;
  has = all_written 0 (replicate 64 0) (fields bus r) (fields_in_order bus r) (length-replicate {A = ℕ} 64 0) fit;
}

-- what is written for a record that fits is read as that record
pub decoded_again : (r : Record) → IsValid r → FitFields (fields wishbone r) → decoded wishbone (encoded wishbone r) ≡ Ok r
decoded_again r valid fit = only wishbone (encoded wishbone r) r (encoded_related wishbone r valid fit)
