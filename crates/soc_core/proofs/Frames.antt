-- What operations leave at one place, and on which places they depend.
use Rattle.std.proofs.Common.{◌≡◌, ◌≢◌, inl, inr, ℕ, zero, suc, ◌≤◌, List, [], ◌∷◌, ◌++◌, length, get_or, set, refl, ap, sym, ◌∙◌, subst, arith, get_or-set_same, get_or-set_other}
use Rattle.std.proofs.lemmas.List.{length-set}
use Rattle.std.proofs.lemmas.Bool.{cases_eq, cases_lt}
use Rattle.wb_signals.specs.Request.{Request}
use Rattle.wb_signals.specs.Content.{Content, Nothing}
use Rattle.wb_signals.specs.Device.{device}
use Rattle.wb_signals.specs.Wiring.{Wiring, step, stepped, lifted}
use Rattle.wb_signals.specs.History.{Entry, requests_of, answers_of, contents_after, cycle, after}
use Rattle.wb_signals.specs.declared.answer.Answer.{Answer}
use Rattle.soc_core.specs.Fabric.{held_at}

pub get_past : {A : Type 0} (xs : List A) (i : ℕ) (d : A) → length xs ≤ i → get_or xs i d ≡ d
get_past [] i d past = refl
get_past (x ∷ xs) zero d past = absurd (let no : ⊥ = omega arith in no)
get_past (x ∷ xs) (suc i) d past = get_past xs i d (omega arith)

module _ (w : Wiring) where
  -- the place of an operation
  abbrev pub place_of : Request → ℕ
  place_of r = (w.route r).place

  pub step_other : (c : List Content) (r : Request) (place : ℕ) → place ≢ place_of r → held_at (step w c r).contents place ≡ held_at c place
  unfolding stepped
  step_other c r place other = get_or-set_other c (place_of r) place _ Nothing other

  pub step_same : (c : List Content) (r : Request) → held_at (step w c r).contents (place_of r) ≡ (device (w.route r).bus (held_at c (place_of r)) (w.route r).request).content
  unfolding stepped
  step_same c r = elim (cases_lt (place_of r) (length c)) [
    | inl within ↦ get_or-set_same c (place_of r) _ Nothing within
    | inr past ↦
        let none : held_at c (place_of r) ≡ Nothing = get_past c (place_of r) Nothing past in
        get_past (set c (place_of r) _) (place_of r) Nothing (subst (λ n. n ≤ place_of r) (sym (length-set c (place_of r) _)) past)
        ∙ ap (λ (x : Content). (device (w.route r).bus x (w.route r).request).content) (sym none)
  ]

  -- What a place holds after an operation depends on what it held before.
  pub step_local : (c d : List Content) (r : Request) (place : ℕ) → held_at c place ≡ held_at d place
      → held_at (step w c r).contents place ≡ held_at (step w d r).contents place
  step_local c d r place same = elim (cases_eq place (place_of r)) [
    | inl here ↦ subst (λ p. held_at (step w c r).contents p ≡ held_at (step w d r).contents p) (sym here)
        (step_same c r ∙ ap (λ (x : Content). (device (w.route r).bus x (w.route r).request).content) (subst (λ p. held_at c p ≡ held_at d p) here same) ∙ sym (step_same d r))
    | inr other ↦ step_other c r place other ∙ same ∙ sym (step_other d r place other)
  ]

  pub after_local : (c d : List Content) (rs : List Request) (place : ℕ) → held_at c place ≡ held_at d place
      → held_at (contents_after w c rs) place ≡ held_at (contents_after w d rs) place
  after_local c d [] place same = same
  after_local c d (r ∷ rs) place same = after_local (step w c r).contents (step w d r).contents rs place (step_local c d r place same)

  -- A place that holds nothing goes on holding nothing.
  pub step_nothing : (c : List Content) (r : Request) (place : ℕ) → held_at c place ≡ Nothing → held_at (step w c r).contents place ≡ Nothing
  step_nothing c r place none = elim (cases_eq place (place_of r)) [
    | inl here ↦ subst (λ p. held_at (step w c r).contents p ≡ Nothing) (sym here)
        (step_same c r ∙ ap (λ (x : Content). (device (w.route r).bus x (w.route r).request).content) (subst (λ p. held_at c p ≡ Nothing) here none))
    | inr other ↦ step_other c r place other ∙ none
  ]

  pub nothing_after : (c : List Content) (rs : List Request) (place : ℕ) → held_at c place ≡ Nothing → held_at (contents_after w c rs) place ≡ Nothing
  nothing_after c [] place none = none
  nothing_after c (r ∷ rs) place none = nothing_after (step w c r).contents rs place (step_nothing c r place none)

  pub nothing_after_all : (c : List Content) (es : List Entry) (place : ℕ) → held_at c place ≡ Nothing → held_at (after w c es) place ≡ Nothing
  nothing_after_all c [] place none = none
  nothing_after_all c (e ∷ es) place none = nothing_after_all (contents_after w c (requests_of e.pairs)) es place (nothing_after c (requests_of e.pairs) place none)

  -- The operations go to other places than this one.
  abbrev pub AllOff : ℕ → List Request → Type 0
  AllOff place [] = Unit {0}
  AllOff place (r ∷ rs) = (place ≢ place_of r) × AllOff place rs

  pub off_after : (c : List Content) (rs : List Request) (place : ℕ) → AllOff place rs → held_at (contents_after w c rs) place ≡ held_at c place
  off_after c [] place off = refl
  off_after c (r ∷ rs) place off = off_after (step w c r).contents rs place off.1 ∙ step_other c r place off.0

  pub off-append : (place : ℕ) (xs ys : List Request) → AllOff place xs → AllOff place ys → AllOff place (xs ++ ys)
  off-append place [] ys off more = more
  off-append place (x ∷ xs) ys off more = (off.0, off-append place xs ys off.1 more)

  pub length-step : (c : List Content) (r : Request) → length (step w c r).contents ≡ length c
  unfolding stepped
  length-step c r = length-set c (place_of r) _

  pub length-after : (c : List Content) (rs : List Request) → length (contents_after w c rs) ≡ length c
  length-after c [] = refl
  length-after c (r ∷ rs) = length-after (step w c r).contents rs ∙ length-step c r

  pub length-after_all : (c : List Content) (es : List Entry) → length (after w c es) ≡ length c
  length-after_all c [] = refl
  length-after_all c (e ∷ es) = length-after_all (contents_after w c (requests_of e.pairs)) es ∙ length-after c (requests_of e.pairs)

  -- The answer of an operation depends on its place alone.
  pub answer_local : (c d : List Content) (r : Request) → held_at c (place_of r) ≡ held_at d (place_of r) → (step w c r).answer ≡ (step w d r).answer
  unfolding stepped
  answer_local c d r same = ap (λ (x : Content). lifted (w.route r).upper_half (device (w.route r).bus x (w.route r).request).answer) same

  -- Contents that agree on some places, and operations that go to them.
  abbrev pub Agree : (ℕ → Type 0) → List Content → List Content → Type 0
  Agree P c d = (place : ℕ) → P place → held_at c place ≡ held_at d place

  abbrev pub AllGo : (ℕ → Type 0) → List Request → Type 0
  AllGo P [] = Unit {0}
  AllGo P (r ∷ rs) = P (place_of r) × AllGo P rs

  pub cycle_local : (P : ℕ → Type 0) (c d : List Content) (rs : List Request) → Agree P c d → AllGo P rs
      → answers_of (cycle w c rs) ≡ answers_of (cycle w d rs)
  cycle_local P c d [] agree go = refl
  cycle_local P c d (r ∷ rs) agree go =
      let one : (step w c r).answer ≡ (step w d r).answer = answer_local c d r (agree (place_of r) go.0) in
      let more : answers_of (cycle w (step w c r).contents rs) ≡ answers_of (cycle w (step w d r).contents rs)
      = cycle_local P (step w c r).contents (step w d r).contents rs (λ place in_p. step_local c d r place (agree place in_p)) go.1 in
      both _ _ _ _ one more
    where
      both : (a b : Answer) (xs ys : List Answer) → a ≡ b → xs ≡ ys → a ∷ xs ≡ b ∷ ys
      both a b xs ys e f = cc
