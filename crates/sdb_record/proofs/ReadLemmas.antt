-- The octets that have no fault are those of exactly one record.
use Rattle.std.proofs.Common.{◌≡◌, ℕ, ◌+◌, ◌^◌, ◌<◌, ◌≤◌, true, false, ◌&&◌, List, ◌++◌, length, take, drop, Option, Some, None, Result, Ok, refl, sym, ap, subst, ◌∙◌, arith, inl, inr, lit<}
use Rattle.std.specs.Prelude.{◌==◌, IfOk, is_some, nat_lt}
use Rattle.std.proofs.lemmas.Bool.{cases_lt, le-ltb, eq-eqb, ne_eqb, not_from_true, and_left, and_right}
use Rattle.std.proofs.lemmas.List.{length-take, get_or-drop, get_or-take, get_or_past}
use Rattle.eb_base.specs.declared.width.Width.{Width}
use Rattle.eb_base.specs.declared.width.Width.TheVariants.{W8, W16, W32, W64}
use Rattle.eb_base.specs.declared.name.Product.{Product}
use Rattle.eb_base.specs.Width.{octets}
use Rattle.eb_base.specs.Field.{number_at}
use Rattle.eb_base.specs.Name.{are_printed}
use Rattle.eb_base.proofs.FieldLemmas.{IsBytes, number-lt}
use Rattle.sdb_record.specs.declared.kinds.Record.{Record}
use Rattle.sdb_record.specs.declared.kinds.Record.TheVariants.{Interconnect, Device, Bridge, Integration, Empty}
use Rattle.sdb_record.specs.declared.faults.RecordFault.{RecordFault}
use Rattle.sdb_record.specs.Text.{text_in, spaced}
use Rattle.sdb_record.specs.Layout.{Text, product_fields, component_fields, type_field, fields}
use Rattle.sdb_record.specs.Relation.{HasAll, FitsField, FitFields, IsRecord}
use Rattle.sdb_record.specs.Faults.{type_in, bad_in_name, first_fault, is_type, is_interconnect, has_product, has_component}
use Rattle.sdb_record.specs.Decoding.{product_of, record_of_type, record_of, answer_of, decoded}
use Rattle.sdb_record.proofs.TextLemmas.{printed, none_unprinted, printed_front, printed_spaced, length-spaced, length-text_in}
use Rattle.sdb_record.proofs.FaultLemmas.{IsClean, clean, from_clean, name_printed, in_range, magic_is, counted, version_is, bus_is, IsOne, an_interconnect, a_device, a_bridge, an_integration, an_empty, one_type}

-- the answer of a record
abbrev answer_ok : Record → Result Record RecordFault
answer_ok r = Ok r

-- ---- numbers fit their fields

IsBytes-drop : (n : ℕ) (bytes : List ℕ) → IsBytes bytes → IsBytes (drop n bytes)
IsBytes-drop n bytes h i = rw get_or-drop (h (n + i))

IsBytes-take : (n : ℕ) (bytes : List ℕ) → IsBytes bytes → IsBytes (take n bytes)
IsBytes-take n bytes h i =
    elim (cases_lt i n) [
      | inl lt ↦ rw (get_or-take n bytes i 0 lt) (h i)
      | inr le ↦ rw (get_or_past (take n bytes) i 0 (omega (arith, length-take n bytes))) (omega arith)
    ]

number_fits : (w : Width) (o : List ℕ) (at : ℕ) → IsBytes o → number_at w o at < 256 ^ octets w
number_fits w o at bytes = number-lt w (take (octets w) (drop at o)) (IsBytes-take (octets w) (drop at o) (IsBytes-drop at o bytes))

-- ---- octets that have no fault are a record's

name_fits : (o : List ℕ) → bad_in_name o ≡ None → FitsField (Text 0x2C 19 (spaced 19 (text_in (take 19 (drop 0x2C o)))))
name_fits o e =
    let f : List ℕ = take 19 (drop 0x2C o) in
    let short : length f ≤ 19 = omega (arith, length-take 19 (drop 0x2C o)) in
    (length-spaced 19 (text_in f) (omega (arith, length-text_in f)), printed_spaced 19 (text_in f) (printed (text_in f) e))

-- what stands from the product on
fit_product : (o : List ℕ) (n : ℕ) → IsBytes o → bad_in_name o ≡ None → n < 256 → FitFields (product_fields (product_of o) ++ type_field n)
unfolding product_of
fit_product o n bytes e lt =
    (number_fits W64 o 0x18 bytes, (number_fits W32 o 0x20 bytes, (number_fits W32 o 0x24 bytes, (number_fits W32 o 0x28 bytes, (name_fits o e, (lt, tt))))))

has_product_of : (o : List ℕ) (n : ℕ) → type_in o ≡ n → HasAll o (product_fields (product_of o) ++ type_field n)
unfolding product_of
has_product_of o n e = (refl, (refl, (refl, (refl, (refl, (e, tt))))))

-- what stands from the range on
fit_component : (o : List ℕ) (n : ℕ) → IsBytes o → bad_in_name o ≡ None → n < 256 → FitFields (component_fields (number_at W64 o 0x08) (number_at W64 o 0x10) (product_of o) ++ type_field n)
fit_component o n bytes e lt = (number_fits W64 o 0x08 bytes, (number_fits W64 o 0x10 bytes, fit_product o n bytes e lt))

has_component_of : (o : List ℕ) (n : ℕ) → type_in o ≡ n → HasAll o (component_fields (number_at W64 o 0x08) (number_at W64 o 0x10) (product_of o) ++ type_field n)
has_component_of o n e = (refl, (refl, has_product_of o n e))

related_by : (bus : ℕ) (o : List ℕ) (n : ℕ) → type_in o ≡ n → IsRecord bus (record_of_type n o) o → IsRecord bus (record_of o) o
unfolding record_of
related_by bus o n e h = subst (λ (r : Record). IsRecord bus r o) (ap (λ (k : ℕ). record_of_type k o) (sym e)) h

related_one : (bus : ℕ) (o : List ℕ) → bus < 256 → IsBytes o → IsClean bus o → IsOne (type_in o) → IsRecord bus (record_of o) o
related_one bus o lt bytes h (an_interconnect e) =
    let i = ap (λ (k : ℕ). k == 0x00) e in
    let name = name_printed bus o h (ap has_product e) in
    related_by bus o 0x00 e (record {
      valid = (counted bus o h i, in_range bus o h (ap has_component e));
      fit = (lit< tt, (number_fits W16 o 0x04 bytes, (lit< tt, (lt, fit_component o 0x00 bytes name (lit< tt)))));
      has = (magic_is bus o h i, (refl, (version_is bus o h i, (bus_is bus o h i, has_component_of o 0x00 e))));
    })
related_one bus o lt bytes h (a_device e) =
    let name = name_printed bus o h (ap has_product e) in
    related_by bus o 0x01 e (record {
      valid = in_range bus o h (ap has_component e);
      fit = (number_fits W16 o 0x00 bytes, (number_fits W8 o 0x02 bytes, (number_fits W8 o 0x03 bytes, (number_fits W32 o 0x04 bytes, fit_component o 0x01 bytes name (lit< tt)))));
      has = (refl, (refl, (refl, (refl, has_component_of o 0x01 e))));
    })
related_one bus o lt bytes h (a_bridge e) =
    let name = name_printed bus o h (ap has_product e) in
    related_by bus o 0x02 e (record {
      valid = in_range bus o h (ap has_component e);
      fit = (number_fits W64 o 0x00 bytes, fit_component o 0x02 bytes name (lit< tt));
      has = (refl, has_component_of o 0x02 e);
    })
related_one bus o lt bytes h (an_integration e) =
    let name = name_printed bus o h (ap has_product e) in
    related_by bus o 0x80 e (record { valid = tt; fit = fit_product o 0x80 bytes name (lit< tt); has = has_product_of o 0x80 e })
related_one bus o lt bytes h (an_empty e) =
    related_by bus o 0xFF e (record { valid = tt; fit = (lit< tt, tt); has = (e, tt) })

pub related_to : (bus : ℕ) (o : List ℕ) → bus < 256 → IsBytes o → first_fault bus o ≡ None → IsRecord bus (record_of o) o
related_to bus o lt bytes e = let h = clean bus o e in related_one bus o lt bytes h (one_type bus o h)

related_answer : (bus : ℕ) (o : List ℕ) (q : Option RecordFault) → bus < 256 → IsBytes o → first_fault bus o ≡ q → IfOk (answer_of q o) (λ r. IsRecord bus r o)
related_answer bus o None lt bytes e = related_to bus o lt bytes e
related_answer bus o (Some f) lt bytes e = tt

pub related : (bus : ℕ) (o : List ℕ) → bus < 256 → IsBytes o → IfOk (decoded bus o) (λ r. IsRecord bus r o)
related bus o lt bytes = related_answer bus o (first_fault bus o) lt bytes refl

-- ---- octets are those of one record at most

-- the parts of a record that its octets tell
product_is : (o : List ℕ) (n : ℕ) (p : Product) → HasAll o (product_fields p ++ type_field n) → (product_of o ≡ p) × (type_in o ≡ n)
unfolding product_of
product_is o n p h =
    (λ i. record { vendor = h.0 i; device = h.1.0 i; version = h.1.1.0 i; date = h.1.1.1.0 i; name = h.1.1.1.1.0 i }, h.1.1.1.1.1.0)

record_is_by : (o : List ℕ) (n : ℕ) (r : Record) → type_in o ≡ n → record_of_type n o ≡ r → record_of o ≡ r
unfolding record_of
record_is_by o n r e f = ap (λ (k : ℕ). record_of_type k o) e ∙ f

record_has : (bus : ℕ) (o : List ℕ) (r : Record) → HasAll o (fields bus r) → record_of o ≡ r
record_has bus o (Interconnect records first last p) h =
    let q = product_is o 0x00 p h.1.1.1.1.1.1 in
    record_is_by o 0x00 (Interconnect records first last p) q.1 (λ i. Interconnect (h.1.0 i) (h.1.1.1.1.0 i) (h.1.1.1.1.1.0 i) (q.0 i))
record_has bus o (Device class major minor bus_specific first last p) h =
    let q = product_is o 0x01 p h.1.1.1.1.1.1 in
    record_is_by o 0x01 (Device class major minor bus_specific first last p) q.1 (λ i. Device (h.0 i) (h.1.0 i) (h.1.1.0 i) (h.1.1.1.0 i) (h.1.1.1.1.0 i) (h.1.1.1.1.1.0 i) (q.0 i))
record_has bus o (Bridge child first last p) h =
    let q = product_is o 0x02 p h.1.1.1 in
    record_is_by o 0x02 (Bridge child first last p) q.1 (λ i. Bridge (h.0 i) (h.1.0 i) (h.1.1.0 i) (q.0 i))
record_has bus o (Integration p) h =
    let q = product_is o 0x80 p h in
    record_is_by o 0x80 (Integration p) q.1 (λ i. Integration (q.0 i))
record_has bus o Empty h = record_is_by o 0xFF Empty h.0 refl

-- ---- a record's octets have no fault

name_clean : (o : List ℕ) (n : ℕ) (p : Product) → HasAll o (product_fields p ++ type_field n) → FitFields (product_fields p ++ type_field n) → bad_in_name o ≡ None
name_clean o n p h f =
    let t : List ℕ = text_in (take 19 (drop 0x2C o)) in
    let e : spaced 19 t ≡ p.name = h.1.1.1.1.0 in
    let whole : are_printed (spaced 19 t) ≡ true = ap are_printed e ∙ f.1.1.1.1.0.1 in
    none_unprinted t (printed_front t _ whole)

-- a record of this type, with a range or without, and of a name that can be printed
clean_other : (bus n : ℕ) (o : List ℕ) → type_in o ≡ n → is_type n ≡ true → is_interconnect n ≡ false
    → (has_component n && nat_lt (number_at W64 o 0x10) (number_at W64 o 0x08)) ≡ false → (has_product n && is_some (bad_in_name o)) ≡ false → IsClean bus o
clean_other bus n o e t i range name = record {
  a_type = not_from_true _ (ap is_type e ∙ t);
  magic = and_left _ _ (ap is_interconnect e ∙ i);
  count = and_left _ _ (ap is_interconnect e ∙ i);
  version = and_left _ _ (ap is_interconnect e ∙ i);
  bus_type = and_left _ _ (ap is_interconnect e ∙ i);
  range = ap (λ (k : ℕ). has_component k && nat_lt (number_at W64 o 0x10) (number_at W64 o 0x08)) e ∙ range;
  name = ap (λ (k : ℕ). has_product k && is_some (bad_in_name o)) e ∙ name;
}

range_clean : (o : List ℕ) (first last : ℕ) → number_at W64 o 0x08 ≡ first → number_at W64 o 0x10 ≡ last → first ≤ last → nat_lt (number_at W64 o 0x10) (number_at W64 o 0x08) ≡ false
range_clean o first last e f le = le-ltb _ _ (omega arith)

none_counted : (n records : ℕ) → n ≡ records → 1 ≤ records → n ≡ 0 → ⊥
none_counted n records e le z = omega arith

clean_of : (bus : ℕ) (o : List ℕ) (r : Record) → IsRecord bus r o → IsClean bus o
clean_of bus o (Interconnect records first last p) r =
    let h = r.has in
    let q = product_is o 0x00 p h.1.1.1.1.1.1 in
    let e = q.1 in
    let name : is_some (bad_in_name o) ≡ false = ap is_some (name_clean o 0x00 p h.1.1.1.1.1.1 r.fit.1.1.1.1.1.1) in
    record {
      a_type = not_from_true _ (ap is_type e);
      magic = and_right _ _ (not_from_true _ (eq-eqb _ _ h.0));
      count = and_right _ _ (let c : number_at W16 o 0x04 ≡ records = h.1.0 in let some = r.valid.0 in ne_eqb _ _ (none_counted (number_at W16 o 0x04) records c some));
      version = and_right _ _ (not_from_true _ (eq-eqb _ _ h.1.1.0));
      bus_type = and_right _ _ (not_from_true _ (eq-eqb _ _ h.1.1.1.0));
      range = and_right _ _ (range_clean o first last h.1.1.1.1.0 h.1.1.1.1.1.0 r.valid.1);
      name = and_right _ _ name;
    }
clean_of bus o (Device class major minor bus_specific first last p) r =
    let h = r.has in
    let q = product_is o 0x01 p h.1.1.1.1.1.1 in
    clean_other bus 0x01 o q.1 refl refl (range_clean o first last h.1.1.1.1.0 h.1.1.1.1.1.0 r.valid)
    (ap is_some (name_clean o 0x01 p h.1.1.1.1.1.1 r.fit.1.1.1.1.1.1))
clean_of bus o (Bridge child first last p) r =
    let h = r.has in
    let q = product_is o 0x02 p h.1.1.1 in
    clean_other bus 0x02 o q.1 refl refl (range_clean o first last h.1.0 h.1.1.0 r.valid)
    (ap is_some (name_clean o 0x02 p h.1.1.1 r.fit.1.1.1))
clean_of bus o (Integration p) r =
    let q = product_is o 0x80 p r.has in
    clean_other bus 0x80 o q.1 refl refl refl (ap is_some (name_clean o 0x80 p r.has r.fit))
clean_of bus o Empty r = clean_other bus 0xFF o r.has.0 refl refl refl refl

pub only : (bus : ℕ) (o : List ℕ) (r : Record) → IsRecord bus r o → decoded bus o ≡ Ok r
only bus o r h =
    let none : first_fault bus o ≡ None = from_clean bus o (clean_of bus o r h) in
    ap (λ (q : Option RecordFault). answer_of q o) none ∙ ap (λ (s : Record). answer_ok s) (record_has bus o r h.has)
