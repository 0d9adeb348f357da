-- How long the octets of records are.
use Rattle.std.proofs.Common.{◌≡◌, ℕ, ◌+◌, ◌*◌, ◌≤◌, List, [], ◌∷◌, ◌++◌, length, take, drop, replicate, refl, sym, ◌∙◌, subst, arith, lit≤, length-append, length-drop}
use Rattle.std.proofs.lemmas.List.{length-take, length-replicate}
use Rattle.std.proofs.lemmas.List.Elements.{All-head, All-tail}
use Rattle.std.specs.List.{All}
use Rattle.eb_base.specs.Width.{octets}
use Rattle.eb_base.specs.declared.name.Product.{Product}
use Rattle.eb_base.proofs.FieldLemmas.{length-with_number}
use Rattle.sdb_record.specs.declared.kinds.Record.{Record}
use Rattle.sdb_record.specs.declared.kinds.Record.TheVariants as sdb
use Rattle.sdb_record.specs.Layout.{Field, Number, Text, wishbone, product_fields, component_fields, type_field, fields}
use Rattle.sdb_record.specs.Relation.{with_field, with_fields, encoded}
use Rattle.sdb_build.specs.Tables.{spelled}
use Rattle.sdb_build.specs.Whole.{IsWhole}

-- a field ends within so many octets
abbrev FitsIn : ℕ → Field → Type 0
FitsIn n (Number at w v) = at + octets w ≤ n
FitsIn n (Text at size t) = (length t ≡ size) × (at + size ≤ n)

abbrev AllFitIn : ℕ → List Field → Type 0
AllFitIn n [] = Unit {0}
AllFitIn n (f ∷ fs) = FitsIn n f × AllFitIn n fs

length-with_field : (o : List ℕ) (f : Field) → FitsIn (length o) f → length (with_field o f) ≡ length o
unfolding with_field
length-with_field o (Number at w v) h = length-with_number w o at v h
length-with_field o (Text at size t) h =
    omega (arith, length-append (take at o ++ t) (drop (at + size) o), length-append (take at o) t, length-take at o, length-drop (at + size) o, h.0, h.1)

length-with_fields : (o : List ℕ) (fs : List Field) → AllFitIn (length o) fs → length (with_fields o fs) ≡ length o
length-with_fields o [] h = refl
length-with_fields o (f ∷ fs) h =
    let e = length-with_field o f h.0 in
    length-with_fields (with_field o f) fs (subst (λ (n : ℕ). AllFitIn n fs) (sym e) h.1) ∙ e

length-encoded : (r : Record) → AllFitIn 64 (fields wishbone r) → length (encoded wishbone r) ≡ 64
length-encoded r h =
    let e : length (replicate {A = ℕ} 64 0) ≡ 64 = length-replicate {A = ℕ} 64 0 in
    length-with_fields (replicate 64 0) (fields wishbone r) (subst (λ (n : ℕ). AllFitIn n (fields wishbone r)) (sym e) h) ∙ e

module _ (p : Product) (name : length p.name ≡ 19) where
  whole_product : (n : ℕ) → AllFitIn 64 (product_fields p ++ type_field n)
  whole_product n = (lit≤ tt, (lit≤ tt, (lit≤ tt, (lit≤ tt, ((name, lit≤ tt), (lit≤ tt, tt))))))

  whole_component : (first last n : ℕ) → AllFitIn 64 (component_fields first last p ++ type_field n)
  whole_component first last n = (lit≤ tt, (lit≤ tt, whole_product n))

  pub whole_device : (class major minor widths first last : ℕ) → IsWhole (sdb.Device class major minor widths first last p)
  whole_device class major minor widths first last =
      length-encoded (sdb.Device class major minor widths first last p) (lit≤ tt, (lit≤ tt, (lit≤ tt, (lit≤ tt, whole_component first last 0x01))))

  pub whole_bridge : (child first last : ℕ) → IsWhole (sdb.Bridge child first last p)
  whole_bridge child first last = length-encoded (sdb.Bridge child first last p) (lit≤ tt, whole_component first last 0x02)

  pub whole_interconnect : (records first last : ℕ) → IsWhole (sdb.Interconnect records first last p)
  whole_interconnect records first last =
      length-encoded (sdb.Interconnect records first last p) (lit≤ tt, (lit≤ tt, (lit≤ tt, (lit≤ tt, whole_component first last 0x00))))

  pub whole_integration : IsWhole (sdb.Integration p)
  whole_integration = length-encoded (sdb.Integration p) (whole_product 0x80)

pub whole_empty : IsWhole sdb.Empty
whole_empty = length-encoded sdb.Empty (lit≤ tt, tt)

pub length-spelled : (rs : List Record) → All IsWhole rs → length (spelled rs) ≡ 64 * length rs
length-spelled [] h = refl
length-spelled (r ∷ rs) h = omega (arith, length-append (encoded wishbone r) (spelled rs), All-head IsWhole r rs h, length-spelled rs (All-tail IsWhole r rs h))
