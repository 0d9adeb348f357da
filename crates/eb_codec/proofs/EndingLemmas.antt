-- Every list of octets has its items and an end behind them.
use Rattle.std.proofs.Common.{◌≡◌, ◌⊎◌, ℕ, zero, suc, ◌+◌, ◌-◌, ◌<◌, ◌≤◌, List, [], ◌∷◌, ◌++◌, length, take, drop, Option, Some, None, refl, sym, ap, subst, ◌∙◌, arith, inl, inr}
use Rattle.std.proofs.lemmas.Bool.{cases_lt}
use Rattle.std.proofs.lemmas.List.{append_assoc, length-append, length-take, take-append-drop, take-append-le, take_all}
use Rattle.eb_base.specs.declared.width.Widths.{Widths}
use Rattle.eb_base.proofs.FieldLemmas.{IsBytes}
use Rattle.eb_codec.specs.declared.item.Header.{Header}
use Rattle.eb_codec.specs.declared.item.Why.{Why}
use Rattle.eb_codec.specs.Rules.{broken}
use Rattle.eb_codec.specs.Stream.{HaveWidths, StreamItem, BreaksNone, Spells, SpellsAll, AreItems, IsPartial, IsBadOctet, IsFirstBad, HasNoBad, header_after, header_after_all}
use Rattle.eb_codec.specs.Reading.{size, item_in}
use Rattle.eb_codec.specs.Filling.{IsBroken}
use Rattle.eb_codec.specs.OneReading.{HaveEnd}
use Rattle.eb_codec.proofs.FieldLemmas.{IsBytes-take, IsBytes-drop}
use Rattle.eb_codec.proofs.ItemLemmas.{size-ge, spells_item_in, one_spelling}
use Rattle.eb_codec.proofs.CompletionLemmas.{is_partial}
use Rattle.eb_codec.proofs.BadLemmas.{bad_octet}
use Rattle.eb_codec.proofs.RoomLemmas.{take-append-ge, broken_take, size_take}
use Rattle.eb_codec.proofs.StreamLemmas.{spells_one, spells_append, no_whole, longest, first_bad}

-- ---- the first octet that breaks a rule

search_by : (sets : Widths) (header : Option Header) (o : List ℕ) (n : ℕ) (q : Option Why) → broken sets header o n ≡ q → n < length o → BreaksNone sets header (take n o)
    → BreaksNone sets header (take (n + 1) o) ⊎ ((k : ℕ) × (why : Why) × IsBroken sets header o k why)
search_by sets header o n (Some why) e lt none = inr (n, why, record { inside = lt; none = none; rule = e })
search_by sets header o n None e lt none = inl (λ k inside.
    let within : k < n + 1 = omega (arith, inside, length-take (n + 1) o) in
    broken_take sets header o (n + 1) k within (omega arith) ∙ (elim (cases_lt k n) [
      | inl before ↦ sym (broken_take sets header o n k before (omega arith)) ∙ none k (omega (arith, before, length-take n o))
      | inr here ↦ let k-is : k ≡ n = omega arith in ap (broken sets header o) k-is ∙ e
    ]))

search_broken : (sets : Widths) (header : Option Header) (o : List ℕ) (n : ℕ) → n ≤ length o → BreaksNone sets header (take n o) ⊎ ((k : ℕ) × (why : Why) × IsBroken sets header o k why)
search_broken sets header o zero le = inl (λ k lt. absurd (omega arith))
search_broken sets header o (suc n) le = elim (search_broken sets header o n (omega arith)) [
  | inl none ↦
      let next : n + 1 ≡ suc n = omega arith in
      subst (λ (m : ℕ). BreaksNone sets header (take m o) ⊎ ((k : ℕ) × (why : Why) × IsBroken sets header o k why)) next (search_by sets header o n (broken sets header o n) refl (omega arith) none)
  | inr found ↦ inr found
]

-- ---- the next item

-- What comes next: less than an item, an item, or a bad octet.
record Item (sets : Widths) (header : Option Header) (o : List ℕ) : Type 0 where
  item : StreamItem
  front : List ℕ
  rest : List ℕ
  are : o ≡ front ++ rest
  spelled : Spells sets header item front
  some : 4 ≤ length front
  bytes : IsBytes rest

abbrev Bad : Widths → Option Header → List ℕ → Type 0
Bad sets header o = (p : ℕ) × (why : Why) × IsBadOctet sets header o p why

item_next : (sets : Widths) (header : Option Header) (o : List ℕ) → IsBytes o → BreaksNone sets header o → size header o ≤ length o → Item sets header o
item_next sets header o bytes none le =
    let n : ℕ = size header o in
    let four = size-ge header o in
    let long : length (take n o) ≡ n = omega (arith, length-take n o) in
    let whole : length (take n o) ≡ size header (take n o) = omega (arith, long, size_take header o n four le) in
    let legal : BreaksNone sets header (take n o) = λ k lt. broken_take sets header o n k (omega arith) le ∙ none k (omega arith) in
    record {
      item = item_in header (take n o);
      front = take n o;
      rest = drop n o;
      are = sym (take-append-drop n o);
      spelled = spells_item_in sets header (take n o) legal whole (IsBytes-take n o bytes);
      some = omega arith;
      bytes = IsBytes-drop n o bytes;
    }

next : (sets : Widths) (header : Option Header) (o : List ℕ) → HaveWidths sets → IsBytes o → IsPartial sets header o ⊎ (Item sets header o ⊎ Bad sets header o)
next sets header o have bytes =
    let all : take (length o) o ≡ o = take_all (length o) o (omega arith) in
    elim (search_broken sets header o (length o) (omega arith)) [
      | inl none' ↦
          let none : BreaksNone sets header o = subst (BreaksNone sets header) all none' in
          elim (cases_lt (length o) (size header o)) [
            | inl short ↦ inl (is_partial sets header o have none bytes short)
            | inr long ↦ inr (inl (item_next sets header o bytes none long))
          ]
      | inr found ↦
          let broke = found.2 in
          inr (inr (found.0, found.1, bad_octet sets header o found.0 found.1 have bytes broke.inside broke.none broke.rule))
    ]

-- ---- all items

-- Items are spelled by a front of the octets, and behind them is less than an item or a bad octet.
record Split (sets : Widths) (header : Option Header) (o : List ℕ) : Type 0 where
  items : List StreamItem
  front : List ℕ
  rest : List ℕ
  are : o ≡ front ++ rest
  spelled : SpellsAll sets header items front
  end : IsPartial sets (header_after_all header items) rest ⊎ Bad sets (header_after_all header items) rest

no_item : (sets : Widths) (header : Option Header) (o : List ℕ) → IsPartial sets header o ⊎ Bad sets header o → Split sets header o
no_item sets header o end = record { items = []; front = []; rest = o; are = refl; spelled = refl; end = end }

one_item : (sets : Widths) (header : Option Header) (o : List ℕ) (x : Item sets header o) → Split sets (header_after header x.item) x.rest → Split sets header o
one_item sets header o x more = record {
  items = x.item ∷ more.items;
  front = x.front ++ more.front;
  rest = more.rest;
  are = x.are ∙ ap (λ (l : List ℕ). x.front ++ l) more.are ∙ sym (append_assoc x.front more.front more.rest);
  spelled = (x.front, more.front, refl, x.spelled, more.spelled);
  end = more.end;
}

split : (m : ℕ) (sets : Widths) (header : Option Header) (o : List ℕ) → HaveWidths sets → IsBytes o → length o ≤ m → Split sets header o
split zero sets header o have bytes le = no_item sets header o (inl (is_partial sets header o have (λ k lt. absurd (omega arith)) bytes (omega (arith, size-ge header o))))
split (suc m) sets header o have bytes le = elim (next sets header o have bytes) [
  | inl partial ↦ no_item sets header o (inl partial)
  | inr other ↦ elim other [
    | inl x ↦ one_item sets header o x (split m sets (header_after header x.item) x.rest have x.bytes (omega (arith, x.some, ap length x.are, length-append x.front x.rest)))
    | inr bad ↦ no_item sets header o (inr bad)
  ]
]

-- ---- what follows the items

-- the octets begin a stream, so none is bad
pub no_bad : (sets : Widths) (items : List StreamItem) (octets a rest : List ℕ) → octets ≡ a ++ rest → SpellsAll sets None items a → IsPartial sets (header_after_all None items) rest → HasNoBad sets octets
no_bad sets items octets a rest is s q p why bad =
    let more : List ℕ = q.1 ∷ q.2 in
    let whole : SpellsAll sets None (items ++ q.0 ∷ []) (a ++ (rest ++ more)) = spells_append sets None items (q.0 ∷ []) a (rest ++ more) s (spells_one sets (header_after_all None items) q.0 (rest ++ more) q.3) in
    let parts : a ++ (rest ++ more) ≡ take (p + 1) octets ++ (drop (p + 1) octets ++ more) =
    sym (append_assoc a rest more) ∙ ap (λ (l : List ℕ). l ++ more) (sym is ∙ sym (take-append-drop (p + 1) octets)) ∙ append_assoc (take (p + 1) octets) (drop (p + 1) octets) more in
    bad.ends (items ++ q.0 ∷ []) (drop (p + 1) octets ++ more) (subst (SpellsAll sets None (items ++ q.0 ∷ [])) parts whole)

-- no whole item is in front of a bad octet or holds it
pub bad_whole : (sets : Widths) (header : Option Header) (y : StreamItem) (o c d : List ℕ) (p : ℕ) (why : Why) → IsBadOctet sets header o p why → Spells sets header y c → o ≡ c ++ d → ⊥
bad_whole sets header y o c d p why bad s e =
    elim (cases_lt p (length c)) [
      | inl holds ↦
          let le : p + 1 ≤ length c = omega arith in
          let same : c ≡ take (p + 1) o ++ drop (p + 1) c = sym (take-append-drop (p + 1) c) ∙ ap (λ (l : List ℕ). l ++ drop (p + 1) c) (sym (take-append-le (p + 1) c d le) ∙ ap (take (p + 1)) (sym e)) in
          bad.ends y (drop (p + 1) c) (subst (Spells sets header y) same s)
      | inr before ↦
          let same : take p o ≡ c ++ take (p - length c) d = ap (take p) e ∙ take-append-ge c d p before in
          no_whole sets header y (take p o) c (take (p - length c) d) bad.before s same
    ]

pub longest_bad : (sets : Widths) (header : Option Header) (items others : List StreamItem) (a o a' b' : List ℕ) (p : ℕ) (why : Why) → a ++ o ≡ a' ++ b' → SpellsAll sets header items a → IsBadOctet sets (header_after_all header items) o p why
    → SpellsAll sets header others a' → length others ≤ length items
longest_bad sets header items [] a o a' b' p why e s bad t = omega arith
longest_bad sets header [] (y ∷ others) a o a' b' p why e s bad t =
    let f : o ≡ t.0 ++ (t.1 ++ b') = sym (ap (λ (l : List ℕ). l ++ o) s) ∙ e ∙ ap (λ (l : List ℕ). l ++ b') t.2 ∙ append_assoc t.0 t.1 b' in
    absurd (bad_whole sets header y o t.0 (t.1 ++ b') p why bad t.3 f)
longest_bad sets header (x ∷ items) (y ∷ others) a o a' b' p why e s bad t =
    let f : s.0 ++ (s.1 ++ o) ≡ t.0 ++ (t.1 ++ b') = sym (append_assoc s.0 s.1 o) ∙ sym (ap (λ (l : List ℕ). l ++ o) s.2) ∙ e ∙ ap (λ (l : List ℕ). l ++ b') t.2 ∙ append_assoc t.0 t.1 b' in
    let one = one_spelling sets header x y s.0 t.0 (s.1 ++ o) (t.1 ++ b') s.3 t.3 f in
    let t' : SpellsAll sets (header_after header x) others t.1 = subst (λ (z : StreamItem). SpellsAll sets (header_after header z) others t.1) (sym one.0) t.4 in
    let le = longest_bad sets (header_after header x) items others s.1 o t.1 b' p why one.2 s.4 bad t' in
    omega (arith, le)

-- whole items, and less than an item behind them
pub are_items : (sets : Widths) (items : List StreamItem) (octets a rest : List ℕ) → octets ≡ a ++ rest → SpellsAll sets None items a → IsPartial sets (header_after_all None items) rest → AreItems sets None octets items rest
are_items sets items octets a rest is s partial =
    record { front = (a, is, s); longest = λ others x y e t. longest sets None items others a rest x y (sym is ∙ e) s partial t }

pub have_end : HaveEnd
have_end sets octets have bytes =
    let s = split (length octets) sets None octets have bytes (omega arith) in
    elim s.end [
      | inl partial ↦ (s.items, s.rest, are_items sets s.items octets s.front s.rest s.are s.spelled partial, inl (partial, no_bad sets s.items octets s.front s.rest s.are s.spelled partial))
      | inr bad ↦ (
        s.items,
        s.rest,
        record { front = (s.front, s.are, s.spelled); longest = λ others x y e t. longest_bad sets None s.items others s.front s.rest x y bad.0 bad.1 (sym s.are ∙ e) s.spelled bad.2 t },
        inr (length s.front + bad.0, bad.1, subst (λ (l : List ℕ). IsFirstBad sets None l (length s.front + bad.0) bad.1) (sym s.are) (first_bad sets None s.items s.front s.rest bad.0 bad.1 s.spelled bad.2)),
      )
    ]
