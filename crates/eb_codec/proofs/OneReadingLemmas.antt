-- Octets are read in one way.
use Rattle.std.proofs.Common.{◌≡◌, ℕ, ◌+◌, ◌<◌, ◌≤◌, List, [], ◌∷◌, ◌++◌, length, take, drop, Option, Some, None, refl, sym, ap, subst, ◌∙◌, arith, inl, inr}
use Rattle.std.proofs.lemmas.Bool.{cases_lt}
use Rattle.std.proofs.lemmas.List.{append-nil, append_assoc, length-append, take-append-drop, take-take}
use Rattle.eb_base.specs.declared.width.Widths.{Widths}
use Rattle.eb_codec.specs.declared.item.Header.{Header}
use Rattle.eb_codec.specs.declared.item.Why.{Why}
use Rattle.eb_codec.specs.Rules.{broken}
use Rattle.eb_codec.specs.Stream.{StreamItem, SpellsAll, IsFirstBad, header_after, header_after_all}
use Rattle.eb_codec.specs.OneReading.{OneListOfItems, FrontOfItems, OneFirstBad}
use Rattle.eb_codec.proofs.ItemLemmas.{one_spelling, broken_later}
use Rattle.eb_codec.proofs.DecodedLemmas.{spelled-ge}

-- what the one list has more than the other
pub record Longer (sets : Widths) (header : Option Header) (xs ys : List StreamItem) (a b c d : List ℕ) : Type 0 where
  pub items : List StreamItem
  pub octets : List ℕ
  pub items_are : xs ≡ ys ++ items
  pub octets_are : a ≡ b ++ octets
  pub spelled : SpellsAll sets (header_after_all header ys) items octets
  pub rest_is : d ≡ octets ++ c

-- of two lists of items that begin the same octets the longer begins with the other
pub longer : (sets : Widths) (header : Option Header) (xs ys : List StreamItem) (a b c d : List ℕ) → length ys ≤ length xs → SpellsAll sets header xs a → SpellsAll sets header ys b → a ++ c ≡ b ++ d → Longer sets header xs ys a b c d
longer sets header xs [] a b c d le s t e =
    let e' : a ++ c ≡ d = e ∙ ap (λ (l : List ℕ). l ++ d) t in
    record { items = xs; octets = a; items_are = refl; octets_are = sym (ap (λ (l : List ℕ). l ++ a) t); spelled = s; rest_is = sym e' }
longer sets header [] (y ∷ ys) a b c d le s t e = absurd (omega arith)
longer sets header (x ∷ xs) (y ∷ ys) a b c d le s t e =
    let f : s.0 ++ (s.1 ++ c) ≡ t.0 ++ (t.1 ++ d) = sym (append_assoc s.0 s.1 c) ∙ ap (λ (l : List ℕ). l ++ c) (sym s.2) ∙ e ∙ ap (λ (l : List ℕ). l ++ d) t.2 ∙ append_assoc t.0 t.1 d in
    let one = one_spelling sets header x y s.0 t.0 (s.1 ++ c) (t.1 ++ d) s.3 t.3 f in
    let s' : SpellsAll sets (header_after header y) xs s.1 = subst (λ (z : StreamItem). SpellsAll sets (header_after header z) xs s.1) one.0 s.4 in
    let more = longer sets (header_after header y) xs ys s.1 t.1 c d (omega arith) s' t.4 one.2 in
    record {
      items = more.items;
      octets = more.octets;
      items_are = ap (λ (z : StreamItem). z ∷ xs) one.0 ∙ ap (λ (l : List StreamItem). y ∷ l) more.items_are;
      octets_are = s.2 ∙ ap (λ (l : List ℕ). l ++ s.1) one.1 ∙ ap (λ (l : List ℕ). t.0 ++ l) more.octets_are ∙ sym (append_assoc t.0 t.1 more.octets) ∙ ap (λ (l : List ℕ). l ++ more.octets) (sym t.2);
      spelled = more.spelled;
      rest_is = more.rest_is;
    }

pub front_of_items : FrontOfItems
front_of_items sets header octets rest a b items others i e s =
    let f = i.front in
    let le = i.longest others a b e s in
    let more = longer sets header items others f.0 a rest b le f.2 s (sym f.1 ∙ e) in
    (more.items, more.items_are)

none_more : (sets : Widths) (header : Option Header) (items : List StreamItem) (o : List ℕ) → length items ≡ 0 → SpellsAll sets header items o → o ≡ []
none_more sets header [] o e s = s
none_more sets header (x ∷ items) o e s = absurd (omega arith)

no_items : (items : List StreamItem) → length items ≡ 0 → items ≡ []
no_items [] e = refl
no_items (x ∷ items) e = absurd (omega arith)

pub one_list_of_items : OneListOfItems
one_list_of_items sets header octets rest left items others i j =
    let f = i.front in
    let g = j.front in
    let le = i.longest others g.0 left g.1 g.2 in
    let ge = j.longest items f.0 rest f.1 f.2 in
    let more = longer sets header items others f.0 g.0 rest left le f.2 g.2 (sym f.1 ∙ g.1) in
    let none : length more.items ≡ 0 = omega (arith, ap length more.items_are, length-append others more.items) in
    let nothing = none_more sets (header_after_all header others) more.items more.octets none more.spelled in
    (more.items_are ∙ ap (λ (l : List StreamItem). others ++ l) (no_items more.items none) ∙ append-nil others, sym (more.rest_is ∙ ap (λ (l : List ℕ). l ++ rest) nothing))

-- no octet before the first bad one is bad
bad_before : (sets : Widths) (header : Option Header) (octets : List ℕ) (p q : ℕ) (why other : Why) → IsFirstBad sets header octets p why → IsFirstBad sets header octets q other → q < p → ⊥
bad_before sets header octets p q why other a b lt =
    let begun = a.before in
    let all : List ℕ = take p octets in
    let again : all ++ begun.1 ≡ take (q + 1) octets ++ (drop (q + 1) all ++ begun.1) = ap (λ (l : List ℕ). l ++ begun.1) (sym (take-append-drop (q + 1) all) ∙ ap (λ (l : List ℕ). l ++ drop (q + 1) all) (take-take (q + 1) p octets (omega arith))) ∙ append_assoc (take (q + 1) octets) (drop (q + 1) all) begun.1 in
    b.ends begun.0 (drop (q + 1) all ++ begun.1) (subst (SpellsAll sets header begun.0) again begun.2)

-- the first octets of an item behind others break no rule of the item before
first_item : (sets : Widths) (header : Option Header) (items : List StreamItem) (o : List ℕ) → SpellsAll sets header items o → 0 < length items → 4 ≤ length o
first_item sets header [] o s some = absurd (omega arith)
first_item sets header (x ∷ items) o s some = let n = spelled-ge sets header x s.0 s.3 in omega (arith, ap length s.2, length-append s.0 s.1)

some_none : (why : Why) → Some why ≡ None → ⊥
some_none why e = cc

one_rule_of : (sets : Widths) (header : Option Header) (octets : List ℕ) (p : ℕ) (why other : Why) (xs ys : List StreamItem) (a b c d : List ℕ) (k l : ℕ)
    → length ys ≤ length xs → octets ≡ a ++ c → octets ≡ b ++ d → SpellsAll sets header xs a → SpellsAll sets header ys b → p ≡ length a + k → p ≡ length b + l
    → broken sets (header_after_all header xs) c k ≡ Some why → broken sets (header_after_all header ys) d l ≡ Some other → why ≡ other
one_rule_of sets header octets p why other xs ys a b c d k l le ea eb s t pa pb ra rb =
    let more = longer sets header xs ys a b c d le s t (sym ea ∙ eb) in
    elim (cases_lt 0 (length more.items)) [
      | inl some ↦
          let four = first_item sets (header_after_all header ys) more.items more.octets more.spelled some in
          let far : 4 ≤ l = omega (arith, ap length more.octets_are, length-append b more.octets) in
          let none = broken_later sets (header_after_all header ys) d l far in
          absurd (some_none other (sym rb ∙ none))
      | inr zero_ ↦
          let n : length more.items ≡ 0 = omega arith in
          let nothing = none_more sets (header_after_all header ys) more.items more.octets n more.spelled in
          let same_items : xs ≡ ys = more.items_are ∙ ap (λ (z : List StreamItem). ys ++ z) (no_items more.items n) ∙ append-nil ys in
          let same_rest : d ≡ c = more.rest_is ∙ ap (λ (z : List ℕ). z ++ c) nothing in
          let same_front : a ≡ b = more.octets_are ∙ ap (λ (z : List ℕ). b ++ z) nothing ∙ append-nil b in
          let same_place : k ≡ l = omega (arith, ap length same_front) in
          let r : broken sets (header_after_all header ys) d l ≡ Some why = ap (λ (z : List StreamItem). broken sets (header_after_all header z) d l) (sym same_items) ∙ ap (λ (z : List ℕ). broken sets (header_after_all header xs) z l) same_rest ∙ ap (broken sets (header_after_all header xs) c) (sym same_place) ∙ ra in
          cc
    ]

pub one_first_bad : OneFirstBad
one_first_bad sets header octets p q why other a b = elim (cases_lt p q) [
  | inl lt ↦ absurd (bad_before sets header octets q p other why b a lt)
  | inr ge ↦ elim (cases_lt q p) [
    | inl lt ↦ absurd (bad_before sets header octets p q why other a b lt)
    | inr le ↦
        let same : p ≡ q = omega arith in
        let x = a.broken_rule in
        let y = b.broken_rule in
        elim (cases_lt (length x.0) (length y.0)) [
          | inl shorter ↦ (same, sym (one_rule_of sets header octets q other why y.0 x.0 y.1 x.1 y.2 x.2 y.3 x.3 (omega arith) y.4 x.4 y.5 x.5 y.6 (sym same ∙ x.6) y.7 x.7))
          | inr other_ ↦ (same, one_rule_of sets header octets p why other x.0 y.0 x.1 y.1 x.2 y.2 x.3 y.3 (omega arith) x.4 y.4 x.5 y.5 x.6 (same ∙ y.6) x.7 y.7)
        ]
  ]
]
