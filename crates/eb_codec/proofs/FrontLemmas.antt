-- Bad octets of a front, and of more octets.
use Rattle.std.proofs.Common.{◌≡◌, ℕ, ◌+◌, ◌<◌, ◌≤◌, List, [], ◌++◌, length, take, drop, None, refl, sym, ap, ◌∙◌, subst, arith}
use Rattle.std.proofs.lemmas.List.{append_assoc, append-nil, append_cancel_left, length-append, take_at, take-append-drop, take-append-le}
use Rattle.eb_base.specs.declared.width.Widths.{Widths}
use Rattle.eb_codec.specs.declared.item.Why.{Why}
use Rattle.eb_codec.specs.Rules.{broken}
use Rattle.eb_codec.specs.Stream.{StreamItem, SpellsAll, BeginsStream, AreItems, IsFirstBad, HasNoBad, header_after_all}
use Rattle.eb_codec.proofs.ItemLemmas.{broken_front}
use Rattle.eb_codec.proofs.OneReadingLemmas.{longer}

-- no octet is bad that begins a stream
pub no_bad_before : (sets : Widths) (octets more whole : List ℕ) (items : List StreamItem) → whole ≡ octets ++ more → SpellsAll sets None items whole → HasNoBad sets octets
no_bad_before sets octets more whole items is s p why bad =
    let split : whole ≡ take (p + 1) octets ++ (drop (p + 1) octets ++ more) = is ∙ ap (λ (l : List ℕ). l ++ more) (sym (take-append-drop (p + 1) octets)) ∙ append_assoc (take (p + 1) octets) (drop (p + 1) octets) more in
    bad.ends items (drop (p + 1) octets ++ more) (subst (SpellsAll sets None items) split s)

-- nothing is left of a stream behind its items
pub none_left : (sets : Widths) (octets rest : List ℕ) (items all : List StreamItem) → AreItems sets None octets items rest → SpellsAll sets None all octets → length rest ≡ 0
none_left sets octets rest items all are s =
    let whole : octets ≡ octets ++ [] = sym (append-nil octets) in
    let f = are.front in
    let le = are.longest all octets [] whole s in
    let more = longer sets None items all f.0 octets rest [] le f.2 s (sym f.1 ∙ whole) in
    omega (arith, ap length more.rest_is, length-append more.octets rest)

-- the first bad octet stays so whatever follows
pub bad_of_more : (sets : Widths) (octets more : List ℕ) (p : ℕ) (why : Why) → IsFirstBad sets None octets p why → IsFirstBad sets None (octets ++ more) p why
bad_of_more sets octets more p why bad =
    let inside = bad.inside in
    let front : (n : ℕ) → n ≤ length octets → take n (octets ++ more) ≡ take n octets = λ n le. take-append-le n octets more le in
    let r = bad.broken_rule in
    let here : r.3 < length r.2 = omega (arith, inside, r.6, ap length r.4, length-append r.1 r.2) in
    record {
      inside = omega (arith, length-append octets more);
      before = subst (BeginsStream sets None) (sym (front p (omega arith))) bad.before;
      ends = λ items rest s. bad.ends items rest (subst (λ (l : List ℕ). SpellsAll sets None items (l ++ rest)) (front (p + 1) (omega arith)) s);
      broken_rule = (r.0, r.1, r.2 ++ more, r.3, ap (λ (l : List ℕ). l ++ more) r.4 ∙ append_assoc r.1 r.2 more, r.5, r.6, broken_front sets (header_after_all None r.0) r.2 more r.3 here ∙ r.7);
    }

-- and it is that of a front that it stands in
pub bad_of_front : (sets : Widths) (octets more : List ℕ) (p : ℕ) (why : Why) → p < length octets → IsFirstBad sets None (octets ++ more) p why → IsFirstBad sets None octets p why
bad_of_front sets octets more p why inside bad =
    let front : (n : ℕ) → n ≤ length octets → take n (octets ++ more) ≡ take n octets = λ n le. take-append-le n octets more le in
    let r = bad.broken_rule in
    let a : List ℕ = r.1 in
    let within : length a ≤ length octets = omega (arith, r.6) in
    let a-is : take (length a) octets ≡ a = sym (front (length a) within) ∙ ap (take (length a)) r.4 ∙ take_at a r.2 (length a) refl in
    let c : List ℕ = drop (length a) octets in
    let octets-are : octets ≡ a ++ c = sym (take-append-drop (length a) octets) ∙ ap (λ (l : List ℕ). l ++ c) a-is in
    let both : a ++ r.2 ≡ a ++ (c ++ more) = sym r.4 ∙ ap (λ (l : List ℕ). l ++ more) octets-are ∙ append_assoc a c more in
    let c-is : r.2 ≡ c ++ more = append_cancel_left a r.2 (c ++ more) both in
    let here : r.3 < length c = omega (arith, r.6, ap length octets-are, length-append a c) in
    record {
      inside = inside;
      before = subst (BeginsStream sets None) (front p (omega arith)) bad.before;
      ends = λ items rest s. bad.ends items rest (subst (λ (l : List ℕ). SpellsAll sets None items (l ++ rest)) (sym (front (p + 1) (omega arith))) s);
      broken_rule = (r.0, a, c, r.3, octets-are, r.5, r.6, sym (broken_front sets (header_after_all None r.0) c more r.3 here) ∙ ap (λ (l : List ℕ). broken sets (header_after_all None r.0) l r.3) (sym c-is) ∙ r.7);
    }
