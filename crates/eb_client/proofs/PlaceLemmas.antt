-- A word has one cut at its first slash, and names one place.
use Rattle.std.proofs.Common.{◌≡◌, ◌≢◌, ℕ, suc, zero, ◌+◌, ◌%◌, ◌<◌, List, [], ◌∷◌, ◌++◌, length, take, drop, get_or, Option, Some, None, MatchOption, inl, inr, refl, sym, ◌∙◌, ap, subst, arith}
use Rattle.std.proofs.lemmas.List.{take_more}
use Rattle.eb_base.specs.declared.width.Width.{Width}
use Rattle.eb_base.specs.declared.width.Width.TheVariants.{W8, W16, W32, W64}
use Rattle.eb_base.specs.Width.{octets}
use Rattle.eb_text.specs.Command.{Says}
use Rattle.eb_client.specs.Place.{SaysNumber, SaysPlace, IsPlace, HasNoSlash, IsCutAt}
use Rattle.eb_client.proofs.NumberLemmas.{number_no_slash, number_once, says_once}

-- ---- slashes

no_slash_append : (xs ys : List ℕ) → HasNoSlash xs → HasNoSlash ys → HasNoSlash (xs ++ ys)
no_slash_append [] ys a b = b
no_slash_append (x ∷ xs) ys a b = (a.0, no_slash_append xs ys a.1 b)

pub no_slash_more : (text : List ℕ) (i : ℕ) → i < length text → HasNoSlash (take i text) → get_or text i 0 ≢ 47 → HasNoSlash (take (i + 1) text)
no_slash_more text i lt none other = subst (λ (l : List ℕ). HasNoSlash l) (sym (take_more text i 0 lt)) (no_slash_append (take i text) (get_or text i 0 ∷ []) none (other, tt))

pub cut_at : (text : List ℕ) (i : ℕ) → i < length text → get_or text i 0 ≡ 47 → text ≡ take i text ++ 47 ∷ drop (i + 1) text
cut_at [] i lt here = absurd (omega (arith, lt))
cut_at (c ∷ text) zero lt here = λ j. here j ∷ text
cut_at (c ∷ text) (suc i) lt here =
    let next : suc (i + 1) ≡ suc i + 1 = omega arith in
    ap (λ (l : List ℕ). c ∷ l) (cut_at text i (omega (arith, lt)) here) ∙ ap (λ (n : ℕ). c ∷ (take i text ++ 47 ∷ drop n (c ∷ text))) next

-- a text that has a slash
slash_behind : (before behind : List ℕ) → HasNoSlash (before ++ 47 ∷ behind) → ⊥
slash_behind [] behind none = none.0 refl
slash_behind (c ∷ before) behind none = slash_behind before behind none.1

one_cut : (before behind first last : List ℕ) → HasNoSlash before → HasNoSlash first → before ++ 47 ∷ behind ≡ first ++ 47 ∷ last → (before ≡ first) × (behind ≡ last)
one_cut [] behind [] last a b same = (refl, cc same)
one_cut [] behind (c ∷ first) last a b same = let is : 47 ≡ c = cc same in absurd (b.0 (sym is))
one_cut (c ∷ before) behind [] last a b same = let is : c ≡ 47 = cc same in absurd (a.0 is)
one_cut (c ∷ before) behind (d ∷ first) last a b same =
    let is : c ≡ d = cc same in
    let rest : before ++ 47 ∷ behind ≡ first ++ 47 ∷ last = cc same in
    let parts = one_cut before behind first last a.1 b.1 rest in
    ((λ i. is i ∷ parts.0 i), parts.1)

-- ---- widths

octets_once : (v w : Width) → octets v ≡ octets w → v ≡ w
octets_once W8 W8 same = refl
octets_once W8 W16 same = cc same
octets_once W8 W32 same = cc same
octets_once W8 W64 same = cc same
octets_once W16 W8 same = cc same
octets_once W16 W16 same = refl
octets_once W16 W32 same = cc same
octets_once W16 W64 same = cc same
octets_once W32 W8 same = cc same
octets_once W32 W16 same = cc same
octets_once W32 W32 same = refl
octets_once W32 W64 same = cc same
octets_once W64 W8 same = cc same
octets_once W64 W16 same = cc same
octets_once W64 W32 same = cc same
octets_once W64 W64 same = refl

-- a number that is the octets of no width
pub no_width : (n : ℕ) → n ≢ 1 → n ≢ 2 → n ≢ 4 → n ≢ 8 → (w : Width) → n ≡ octets w → ⊥
no_width n a b c d W8 is = a is
no_width n a b c d W16 is = b is
no_width n a b c d W32 is = c is
no_width n a b c d W64 is = d is

-- ---- places

pub no_place_in : (place_word width_word : List ℕ) (found : ℕ) (is_width : Width) → SaysNumber place_word found → Says width_word (octets is_width) → (found % octets is_width ≡ 0 → ⊥)
    → (place : ℕ) (width : Width) → SaysNumber place_word place → Says width_word (octets width) → place % octets width ≡ 0 → ⊥
no_place_in place_word width_word found is_width number says broken place width other other_says whole =
    let same = number_once place_word place found other number in
    let octets_same = says_once width_word (octets width) (octets is_width) other_says says in
    let turned = sym same in let octets_turned = sym octets_same in broken ((λ i. turned i % octets_turned i) ∙ whole)

-- a word without a slash
pub no_plain : (word : List ℕ) → HasNoSlash word → ((place : ℕ) → SaysNumber word place → place % 4 ≡ 0 → ⊥) → (place : ℕ) (width : Width) → IsPlace word place width → ⊥
no_plain word none no_place place width is = elim is.says [
  | inl plain ↦ no_place place plain.0 (ap (λ (w : Width). place % octets w) (sym plain.1) ∙ is.whole)
  | inr parts ↦ slash_behind parts.place_word parts.width_word (subst (λ (l : List ℕ). HasNoSlash l) parts.parts none)
]

-- a word with a slash
no_cut : (word before behind : List ℕ) → IsCutAt word before behind
    → ((place : ℕ) (width : Width) → SaysNumber before place → Says behind (octets width) → place % octets width ≡ 0 → ⊥) → (place : ℕ) (width : Width) → IsPlace word place width → ⊥
no_cut word before behind cut no_place place width is = elim is.says [
  | inl plain ↦ slash_behind before behind (subst (λ (l : List ℕ). HasNoSlash l) cut.parts (number_no_slash word place plain.0))
  | inr parts ↦
      let same = one_cut parts.place_word parts.width_word before behind (number_no_slash parts.place_word place parts.says_place) cut.first (sym parts.parts ∙ cut.parts) in
      no_place place width (subst (λ (l : List ℕ). SaysNumber l place) same.0 parts.says_place) (subst (λ (l : List ℕ). Says l (octets width)) same.1 parts.says_width) is.whole
]

pub placed : (word before behind : List ℕ) (o : Option (ℕ × Width)) → IsCutAt word before behind
    → MatchOption o ((place : ℕ) (width : Width) → SaysNumber before place → Says behind (octets width) → place % octets width ≡ 0 → ⊥)
    (λ x. SaysNumber before x.0 × Says behind (octets x.1) × (x.0 % octets x.1 ≡ 0))
    → MatchOption o ((place : ℕ) (width : Width) → IsPlace word place width → ⊥) (λ x. IsPlace word x.0 x.1)
placed word before behind None cut none = no_cut word before behind cut none
placed word before behind (Some x) cut found = record {
  says = inr (record { place_word = before; width_word = behind; parts = cut.parts; says_place = found.0; says_width = found.1 });
  whole = found.2;
}

-- ---- one place

once_by : (word : List ℕ) (p q : ℕ) (v w : Width) → SaysPlace word p v → SaysPlace word q w → (p ≡ q) × (v ≡ w)
once_by word p q v w (inl a) (inl b) = (number_once word p q a.0 b.0, a.1 ∙ sym b.1)
once_by word p q v w (inl a) (inr b) = absurd (slash_behind b.place_word b.width_word (subst (λ (l : List ℕ). HasNoSlash l) b.parts (number_no_slash word p a.0)))
once_by word p q v w (inr a) (inl b) = absurd (slash_behind a.place_word a.width_word (subst (λ (l : List ℕ). HasNoSlash l) a.parts (number_no_slash word q b.0)))
once_by word p q v w (inr a) (inr b) =
    let same = one_cut a.place_word a.width_word b.place_word b.width_word (number_no_slash a.place_word p a.says_place) (number_no_slash b.place_word q b.says_place) (sym a.parts ∙ b.parts) in
    let says = subst (λ (l : List ℕ). Says l (octets v)) same.1 a.says_width in
    (number_once b.place_word p q (subst (λ (l : List ℕ). SaysNumber l p) same.0 a.says_place) b.says_place, octets_once v w (says_once b.width_word (octets v) (octets w) says b.says_width))

pub place_once : (word : List ℕ) (p q : ℕ) (v w : Width) → IsPlace word p v → IsPlace word q w → (p ≡ q) × (v ≡ w)
place_once word p q v w a b = once_by word p q v w a.says b.says
