-- Streams: one more item, the longest list of items, and the first bad octet of a stream.
use Rattle.std.proofs.Common.{◌≡◌, ℕ, ◌+◌, ◌-◌, ◌≤◌, List, [], ◌∷◌, ◌++◌, length, take, drop, Option, refl, sym, ap, subst, ◌∙◌, arith, inl, inr}
use Rattle.std.proofs.lemmas.Bool.{cases_lt}
use Rattle.std.proofs.lemmas.List.{append-nil, append_assoc, length-take, length-append, take-append-drop, take-take, take_at, take-append-le}
use Rattle.eb_base.specs.declared.width.Widths.{Widths}
use Rattle.eb_codec.specs.declared.item.Header.{Header}
use Rattle.eb_codec.specs.declared.item.Why.{Why}
use Rattle.eb_codec.specs.Stream.{StreamItem, Spells, SpellsAll, IsFirstBad, IsBadOctet, IsPartial, header_after, header_after_all}
use Rattle.eb_codec.proofs.ItemLemmas.{one_spelling}
use Rattle.eb_codec.proofs.RoomLemmas.{take-append-ge}

pub header_after_all-append : (header : Option Header) (xs ys : List StreamItem) → header_after_all header (xs ++ ys) ≡ header_after_all (header_after_all header xs) ys
header_after_all-append header [] ys = refl
header_after_all-append header (x ∷ xs) ys = header_after_all-append (header_after header x) xs ys

pub spells_one : (sets : Widths) (header : Option Header) (x : StreamItem) (b : List ℕ) → Spells sets header x b → SpellsAll sets header (x ∷ []) b
spells_one sets header x b s = (b, [], sym (append-nil b), s, refl)

-- one list of items after another
pub spells_append : (sets : Widths) (header : Option Header) (xs ys : List StreamItem) (a b : List ℕ) → SpellsAll sets header xs a → SpellsAll sets (header_after_all header xs) ys b → SpellsAll sets header (xs ++ ys) (a ++ b)
spells_append sets header [] ys a b s t = subst (λ (l : List ℕ). SpellsAll sets header ys (l ++ b)) (sym s) t
spells_append sets header (x ∷ xs) ys a b s t =
    let e : a ++ b ≡ s.0 ++ (s.1 ++ b) = ap (λ (l : List ℕ). l ++ b) s.2 ∙ append_assoc s.0 s.1 b in
    (s.0, s.1 ++ b, e, s.3, spells_append sets (header_after header x) xs ys s.1 b s.4 t)

-- a partial item has no whole item in front
pub no_whole : (sets : Widths) (header : Option Header) (y : StreamItem) (rest c d : List ℕ) → IsPartial sets header rest → Spells sets header y c → rest ≡ c ++ d → ⊥
no_whole sets header y rest c d p s e =
    let whole : List ℕ = rest ++ p.1 ∷ p.2 in
    let same : whole ++ [] ≡ c ++ (d ++ p.1 ∷ p.2) = append-nil whole ∙ ap (λ (l : List ℕ). l ++ p.1 ∷ p.2) e ∙ append_assoc c d (p.1 ∷ p.2) in
    let one = (one_spelling sets header p.0 y whole c [] (d ++ p.1 ∷ p.2) p.3 s same).1 in
    let len : length whole ≡ length c = ap length one in
    omega (arith, length-append rest (p.1 ∷ p.2), ap length e, length-append c d, len)

-- no other list of items is longer
pub longest : (sets : Widths) (header : Option Header) (items others : List StreamItem) (a rest a' b' : List ℕ) → a ++ rest ≡ a' ++ b' → SpellsAll sets header items a → IsPartial sets (header_after_all header items) rest → SpellsAll sets header others a' → length others ≤ length items
longest sets header items [] a rest a' b' e s p t = omega arith
longest sets header [] (y ∷ others) a rest a' b' e s p t =
    let f : rest ≡ t.0 ++ (t.1 ++ b') = sym (ap (λ (l : List ℕ). l ++ rest) s) ∙ e ∙ ap (λ (l : List ℕ). l ++ b') t.2 ∙ append_assoc t.0 t.1 b' in
    absurd (no_whole sets header y rest t.0 (t.1 ++ b') p t.3 f)
longest sets header (x ∷ items) (y ∷ others) a rest a' b' e s p t =
    let f : s.0 ++ (s.1 ++ rest) ≡ t.0 ++ (t.1 ++ b') = sym (append_assoc s.0 s.1 rest) ∙ sym (ap (λ (l : List ℕ). l ++ rest) s.2) ∙ e ∙ ap (λ (l : List ℕ). l ++ b') t.2 ∙ append_assoc t.0 t.1 b' in
    let one = one_spelling sets header x y s.0 t.0 (s.1 ++ rest) (t.1 ++ b') s.3 t.3 f in
    let t' : SpellsAll sets (header_after header x) others t.1 = subst (λ (z : StreamItem). SpellsAll sets (header_after header z) others t.1) (sym one.0) t.4 in
    let le = longest sets (header_after header x) items others s.1 rest t.1 b' one.2 s.4 p t' in
    omega arith

-- after whole items, octets with which no item goes on
no_stream : (sets : Widths) (header : Option Header) (items others : List StreamItem) (a o more : List ℕ) (p : ℕ) (why : Why) → SpellsAll sets header items a → IsBadOctet sets (header_after_all header items) o p why → SpellsAll sets header others (a ++ take (p + 1) o ++ more) → ⊥
no_stream sets header items [] a o more p why s bad t =
    let len = ap length t in
    let inside = bad.inside in
    omega (arith, length-append (a ++ take (p + 1) o) more, length-append a (take (p + 1) o), length-take (p + 1) o)
no_stream sets header [] (y ∷ others) a o more p why s bad t =
    let front : List ℕ = take (p + 1) o in
    let inside = bad.inside in
    let len : length front ≡ p + 1 = omega (arith, length-take (p + 1) o) in
    let e : front ++ more ≡ t.0 ++ t.1 = ap (λ (l : List ℕ). l ++ front ++ more) (sym s) ∙ t.2 in
    elim (cases_lt (length t.0) (p + 1)) [
      | inl short ↦
          let c : List ℕ = t.0 in
          let c-is : take (length c) o ≡ c = sym (take-take (length c) (p + 1) o (omega arith)) ∙ sym (take-append-le (length c) front more (omega arith)) ∙ ap (take (length c)) e ∙ take_at c t.1 (length c) refl in
          let p-is : take p o ≡ c ++ drop (length c) (take p o) = sym (take-append-drop (length c) (take p o)) ∙ ap (λ (l : List ℕ). l ++ drop (length c) (take p o)) (take-take (length c) p o (omega arith) ∙ c-is) in
          no_whole sets header y (take p o) c (drop (length c) (take p o)) bad.before t.3 p-is
      | inr long ↦
          let c : List ℕ = t.0 in
          let c-is : c ≡ front ++ drop (p + 1) c = sym (take-append-drop (p + 1) c) ∙ ap (λ (l : List ℕ). l ++ drop (p + 1) c) (sym (take-append-le (p + 1) c t.1 long) ∙ ap (take (p + 1)) (sym e) ∙ take_at front more (p + 1) len) in
          bad.ends y (drop (p + 1) c) (subst (Spells sets header y) c-is t.3)
    ]
no_stream sets header (x ∷ items) (y ∷ others) a o more p why s bad t =
    let front : List ℕ = take (p + 1) o in
    let e : s.0 ++ (s.1 ++ front ++ more) ≡ t.0 ++ t.1 = sym (append_assoc s.0 (s.1 ++ front) more) ∙ ap (λ (l : List ℕ). l ++ more) (sym (append_assoc s.0 s.1 front)) ∙ ap (λ (l : List ℕ). l ++ front ++ more) (sym s.2) ∙ t.2 in
    let one = one_spelling sets header x y s.0 t.0 (s.1 ++ front ++ more) t.1 s.3 t.3 e in
    let t' : SpellsAll sets (header_after header x) others (s.1 ++ front ++ more) = subst (λ (z : StreamItem). SpellsAll sets (header_after header z) others (s.1 ++ front ++ more)) (sym one.0) (subst (SpellsAll sets (header_after header y) others) (sym one.2) t.4) in
    no_stream sets (header_after header x) items others s.1 o more p why s.4 bad t'

-- the first bad octet of an item behind whole items is that of the stream
pub first_bad : (sets : Widths) (header : Option Header) (items : List StreamItem) (a o : List ℕ) (p : ℕ) (why : Why) → SpellsAll sets header items a → IsBadOctet sets (header_after_all header items) o p why → IsFirstBad sets header (a ++ o) (length a + p) why
first_bad sets header items a o p why s bad =
    let inside = bad.inside in
    let cut : (n : ℕ) → take (length a + n) (a ++ o) ≡ a ++ take n o = λ n.
    let k : length a + n - length a ≡ n = omega arith in
    take-append-ge a o (length a + n) (omega arith) ∙ ap (λ (m : ℕ). a ++ take m o) k in
    let q = bad.before in
    let begun : SpellsAll sets header (items ++ q.0 ∷ []) (a ++ (take p o ++ q.1 ∷ q.2)) = spells_append sets header items (q.0 ∷ []) a (take p o ++ q.1 ∷ q.2) s (spells_one sets (header_after_all header items) q.0 (take p o ++ q.1 ∷ q.2) q.3) in
    let begun' : a ++ (take p o ++ q.1 ∷ q.2) ≡ take (length a + p) (a ++ o) ++ q.1 ∷ q.2 = sym (append_assoc a (take p o) (q.1 ∷ q.2)) ∙ ap (λ (l : List ℕ). l ++ q.1 ∷ q.2) (sym (cut p)) in
    let next : length a + p + 1 ≡ length a + (p + 1) = omega arith in
    record {
      inside = omega (arith, length-append a o);
      before = (items ++ q.0 ∷ [], q.1 ∷ q.2, subst (SpellsAll sets header (items ++ q.0 ∷ [])) begun' begun, q.4);
      ends = λ others more t. no_stream sets header items others a o more p why s bad (subst (λ (l : List ℕ). SpellsAll sets header others (l ++ more)) (ap (λ (n : ℕ). take n (a ++ o)) next ∙ cut (p + 1)) t);
      broken_rule = (items, a, o, p, refl, s, refl, bad.rule);
    }
