-- The rule that is named is the lowest that breaks.
use Rattle.std.proofs.Common.{◌≡◌, ℕ, zero, suc, ◌+◌, ◌<◌, ◌≤◌, Bool, true, false, cond, List, [], ◌∷◌, Some, refl, sym, ap, subst, ◌∙◌, arith, inl, inr}
use Rattle.std.specs.List.{find}
use Rattle.std.proofs.lemmas.Bool.{cases_lt}
use Rattle.eb_codec.specs.declared.item.Why.{Why}
use Rattle.eb_codec.specs.declared.item.Why.TheVariants.{Magic, Version, Response, Reserved, Width, Flag, Beyond, NoEnable, NoReply}
use Rattle.eb_codec.specs.Rules.{breaks, broken, rules, number_of}
use Rattle.eb_codec.specs.OneReading.{LowestRule}

-- the rules from this number on
abbrev from : ℕ → List Why → Type 0
from n [] = n ≡ 10
from n (w ∷ ws) = (number_of w ≡ n) × from (suc n) ws

why_of : ℕ → Why
why_of zero = Magic
why_of (suc zero) = Magic
why_of (suc (suc zero)) = Version
why_of (suc (suc (suc zero))) = Response
why_of (suc (suc (suc (suc zero)))) = Reserved
why_of (suc (suc (suc (suc (suc zero))))) = Width
why_of (suc (suc (suc (suc (suc (suc zero)))))) = Flag
why_of (suc (suc (suc (suc (suc (suc (suc zero))))))) = Beyond
why_of (suc (suc (suc (suc (suc (suc (suc (suc zero)))))))) = NoEnable
why_of (suc (suc (suc (suc (suc (suc (suc (suc (suc n))))))))) = NoReply

why_of-number_of : (w : Why) → why_of (number_of w) ≡ w
unfolding why_of
why_of-number_of Magic = refl
why_of-number_of Version = refl
why_of-number_of Response = refl
why_of-number_of Reserved = refl
why_of-number_of Width = refl
why_of-number_of Flag = refl
why_of-number_of Beyond = refl
why_of-number_of NoEnable = refl
why_of-number_of NoReply = refl

same_number : (a b : Why) → number_of a ≡ number_of b → a ≡ b
same_number a b e = sym (why_of-number_of a) ∙ ap why_of e ∙ why_of-number_of b

number_of-le : (w : Why) → number_of w ≤ 9
number_of-le Magic = omega arith
number_of-le Version = omega arith
number_of-le Response = omega arith
number_of-le Reserved = omega arith
number_of-le Width = omega arith
number_of-le Flag = omega arith
number_of-le Beyond = omega arith
number_of-le NoEnable = omega arith
number_of-le NoReply = omega arith

-- p holds of this rule and of none from number n on with a lower number
abbrev Lowest : (Why → Bool) → ℕ → Why → Type 0
Lowest p n why = (p why ≡ true) × ((lower : Why) → n ≤ number_of lower → number_of lower < number_of why → p lower ≡ false)

found_by : (p : Why → Bool) (n : ℕ) (w why : Why) (ws : List Why) (b : Bool) → p w ≡ b → number_of w ≡ n → cond b (Some w) (find p ws) ≡ Some why → (find p ws ≡ Some why → Lowest p (n + 1) why) → Lowest p n why
found_by p n w why ws true e k f rest =
    let same : w ≡ why = cc in
    (ap p (sym same) ∙ e, λ lower ge lt. absurd (omega (arith, ap number_of same)))
found_by p n w why ws false e k f rest =
    let r = rest f in (
      r.0,
      λ lower ge lt. elim (cases_lt n (number_of lower)) [
        | inl more ↦ r.1 lower (omega arith) lt
        | inr le ↦ let same : lower ≡ w = same_number lower w (omega arith) in ap p same ∙ e
      ],
    )

found : (p : Why → Bool) (n : ℕ) (why : Why) (ws : List Why) → from n ws → find p ws ≡ Some why → Lowest p n why
found p n why [] f e = absurd cc
found p n why (w ∷ ws) f e = found_by p n w why ws (p w) refl f.0 e (λ g. subst (λ (k : ℕ). Lowest p k why) (omega arith) (found p (suc n) why ws f.1 g))

finds_by : (p : Why → Bool) (n : ℕ) (w why : Why) (ws : List Why) → number_of w ≡ n → n ≤ number_of why → Lowest p n why → (n < number_of why → find p ws ≡ Some why) → cond (p w) (Some w) (find p ws) ≡ Some why
finds_by p n w why ws k ge low rest = elim (cases_lt n (number_of why)) [
  | inl more ↦ let e : p w ≡ false = low.1 w (omega arith) (omega arith) in rw e (rest more)
  | inr le ↦ let same : w ≡ why = same_number w why (omega arith) in let e : p w ≡ true = ap p same ∙ low.0 in rw e (ap Some same)
]

finds : (p : Why → Bool) (n : ℕ) (why : Why) (ws : List Why) → from n ws → n ≤ number_of why → Lowest p n why → find p ws ≡ Some why
finds p n why [] f ge low = let le = number_of-le why in absurd (omega arith)
finds p n why (w ∷ ws) f ge low = finds_by p n w why ws f.0 ge low (λ more. finds p (suc n) why ws f.1 (omega arith) (low.0, λ lower ge' lt. low.1 lower (omega arith) lt))

all_rules : from 1 rules
all_rules = (refl, (refl, (refl, (refl, (refl, (refl, (refl, (refl, (refl, refl)))))))))

positive : (w : Why) → 1 ≤ number_of w
positive Magic = omega arith
positive Version = omega arith
positive Response = omega arith
positive Reserved = omega arith
positive Width = omega arith
positive Flag = omega arith
positive Beyond = omega arith
positive NoEnable = omega arith
positive NoReply = omega arith

pub lowest_rule : LowestRule
unfolding broken
lowest_rule sets header octets k why = (
  λ e. let f = found (breaks sets header octets k) 1 why rules all_rules e in (f.0, λ lower lt. f.1 lower (positive lower) lt),
  λ f. finds (breaks sets header octets k) 1 why rules all_rules (positive why) (f.0, λ lower ge lt. f.1 lower lt),
)
