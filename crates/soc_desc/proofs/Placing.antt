-- What was checked span after span is well placed.
use Rattle.std.proofs.Common.{◌≡◌, ℕ, ◌+◌, List, [], ◌∷◌, ◌++◌, length, Option, Some, None, Ok, Err, Bool, true, false, ◌&&◌, not, nat_le, nat_lt, refl, ap, subst, arith}
use Rattle.std.proofs.lemmas.Bool.Decides.{nat_tests}
use Rattle.std.specs.Prelude.{codes}
use Rattle.std.specs.Bool.{⊤}
use Rattle.std.specs.List.{find, list_all}
use Rattle.soc_desc.specs.declared.geometry.Span.{Span}
use Rattle.soc_desc.specs.declared.geometry.Extent.{Extent}
use Rattle.soc_desc.specs.Checks.{Path, Found, ◌>>=◌, at_nth, at_key}
use Rattle.soc_desc.specs.Geometry.{ItemPlace, meets, spans_meet, placed, placed_after, apart_from, are_apart, are_within, are_placed, extents, extent_at, spans_from, span_at, located, rom_extent}
use Rattle.std.proofs.lemmas.Bool.{and_parts, and_from}

-- the ranges of spans
abbrev ranges : List Span → List Extent
ranges [] = []
ranges (s ∷ ss) = s.extent ∷ ranges ss

abbrev none_meets : Extent → List Extent → Bool
none_meets e es = list_all (λ later. not (meets later e)) es

-- none of the later ranges meets one of these spans
abbrev clear : List Span → List Extent → Bool
clear [] es = true
clear (b ∷ bs) es = none_meets b.extent es && clear bs es

clear_split : (bs : List Span) (s : Span) (es : List Extent) → clear (bs ++ s ∷ []) es ≡ true → (clear bs es ≡ true) × (none_meets s.extent es ≡ true)
clear_split [] s es h = (refl, (and_parts (none_meets s.extent es) true h).0)
clear_split (b ∷ bs) s es h =
    let both = and_parts (none_meets b.extent es) (clear (bs ++ s ∷ []) es) h in
    let rest = clear_split bs s es both.1 in
    (and_from (none_meets b.extent es) (clear bs es) both.0 rest.0, rest.1)

not_met : (s b : Span) (bs : List Span) → find (spans_meet s) (b ∷ bs) ≡ None → (not (meets s.extent b.extent) ≡ true) × (find (spans_meet s) bs ≡ None)
not_met s b bs h = by (meets s.extent b.extent) refl where
  by : (t : Bool) → meets s.extent b.extent ≡ t → (not (meets s.extent b.extent) ≡ true) × (find (spans_meet s) bs ≡ None)
  by true e = absurd (grind (arith, h, e))
  by false e = (ap not e, grind (arith, h, e))

clear_more : (s : Span) (bs : List Span) (es : List Extent) → find (spans_meet s) bs ≡ None → clear bs es ≡ true → clear bs (s.extent ∷ es) ≡ true
clear_more s [] es f h = refl
clear_more s (b ∷ bs) es f h =
    let both = and_parts (none_meets b.extent es) (clear bs es) h in
    let here = not_met s b bs f in
    and_from (none_meets b.extent (s.extent ∷ es)) (clear bs (s.extent ∷ es)) (and_from (not (meets s.extent b.extent)) (none_meets b.extent es) here.0 both.0) (clear_more s bs es here.1 both.1)

-- what the check of one span says
apart_is : (s : Span) (met : Option Span) → apart_from s met ≡ Ok tt → met ≡ None
apart_is s None h = refl
apart_is s (Some b) h = absurd (cc)

placed_is : (last : ℕ) (before : List Span) (s : Span) → placed last before s ≡ Ok tt → (nat_le s.extent.last last ≡ true) × (find (spans_meet s) before ≡ None)
placed_is last before s h = by (nat_lt last s.extent.last) refl where
  by : (t : Bool) → nat_lt last s.extent.last ≡ t → (nat_le s.extent.last last ≡ true) × (find (spans_meet s) before ≡ None)
  by true e = absurd (grind (arith, h, e))
  by false e =
      let met : apart_from s (find (spans_meet s) before) ≡ Ok tt = grind (arith, h, e) in
      (grind (arith, nat_tests, e), apart_is s (find (spans_meet s) before) met)

first_ok : (found rest : Found ⊤) → (found >>= λ _. rest) ≡ Ok tt → (found ≡ Ok tt) × (rest ≡ Ok tt)
first_ok (Ok tt) rest h = (refl, h)
first_ok (Err e) rest h = absurd (cc)

spans_placed : (last : ℕ) (before spans : List Span) → placed_after last before spans ≡ Ok tt
    → (are_within last (ranges spans) ≡ true) × (are_apart (ranges spans) ≡ true) × (clear before (ranges spans) ≡ true)
spans_placed last before [] h = (refl, refl, all_clear before) where
  all_clear : (bs : List Span) → clear bs [] ≡ true
  all_clear [] = refl
  all_clear (b ∷ bs) = all_clear bs
spans_placed last before (s ∷ ss) h =
    let parts = first_ok (placed last before s) (placed_after last (before ++ s ∷ []) ss) h in
    let here = placed_is last before s parts.0 in
    let rest = spans_placed last (before ++ s ∷ []) ss parts.1 in
    let split = clear_split before s (ranges ss) rest.2 in (
      and_from (nat_le s.extent.last last) (are_within last (ranges ss)) here.0 rest.0,
      and_from (none_meets s.extent (ranges ss)) (are_apart (ranges ss)) split.1 rest.1,
      clear_more s before (ranges ss) here.1 split.0,
    )

-- the ranges of a bus's spans are those of its items and its ROM
ranges_are : (path : Path) (i : ℕ) (items : List ItemPlace) (s : Span) → ranges (spans_from path i items ++ s ∷ []) ≡ extents items ++ s.extent ∷ []
ranges_are path i [] s = refl
ranges_are path i (item ∷ items) s = one item.extent (ranges_are path (i + 1) items s) where
  one : (e : Option Extent) → ranges (spans_from path (i + 1) items ++ s ∷ []) ≡ extents items ++ s.extent ∷ []
      → ranges ((span_at (at_nth path i) e ++ spans_from path (i + 1) items) ++ s ∷ []) ≡ (extent_at e ++ extents items) ++ s.extent ∷ []
  one None h = h
  one (Some e) h = ap (λ es. e ∷ es) h

pub bus_is_placed : (path : Path) (last sdb : ℕ) (items : List ItemPlace) → placed_after last [] (located path last sdb items).spans ≡ Ok tt
    → are_placed last (extents items ++ rom_extent sdb (length items) ∷ []) ≡ true
bus_is_placed path last sdb items h =
    let spans = (located path last sdb items).spans in
    let placed = spans_placed last [] spans h in
    let same = ranges_are (at_key path (codes "items")) 0 items (record { path = at_key path (codes "sdb"); extent = rom_extent sdb (length items) }) in
    subst (λ es. are_placed last es ≡ true) same (and_from (are_within last (ranges spans)) (are_apart (ranges spans)) placed.0 placed.1)
