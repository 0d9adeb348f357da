-- A port's queue over one clock.
use Rattle.std.proofs.Common.{◌≡◌, ◌≢◌, ◌⊎◌, inl, inr, ℕ, zero, suc, ◌+◌, ◌-◌, ◌<◌, ◌≤◌, ◌==◌, ◌&&◌, not, nat_lt, List, [], ◌∷◌, ◌++◌, length, map, take, drop, Bool, true, false, cond, Option, Some, None, option_to_list, refl, ap, sym, ◌∙◌, subst, arith, append_assoc, append-nil}
use Rattle.std.specs.List.{list_any}
use Rattle.std.proofs.lemmas.Bool.{cases_Bool, or_parts, not-false, eqb-true, eqb-false, ltb-true, cond-true, cond-false}
use Rattle.std.proofs.lemmas.List.{length-map, length-append, length-take-le, length-drop, map-append, drop-drop, drop-append-le}
use Rattle.wb_signals.specs.Request.{Request}
use Rattle.wb_signals.specs.Content.{Content}
use Rattle.wb_signals.specs.Wiring.{Wiring}
use Rattle.wb_signals.specs.History.{answers_of, requests_of, cycle}
use Rattle.wb_signals.specs.declared.answer.Answer.{Answer}
use Rattle.wb_signals.specs.Slave.{Owed, sooner, given, left, owed_for, owed_after, is_stalled, queue_to}
use Rattle.soc_core.specs.Fabric.{Fabric}
use Rattle.soc_core.specs.Core.{CorePort, performed, answered, answers_owed, awaited, head_of, offered, unless_stalled, sent_now, clocked}
use Rattle.soc_core.specs.Sound.{AreRising, AllOwedAt, IsQueue}

-- ---- what is given and what is left

abbrev given_by : Bool → Owed → Option Answer
given_by b o = cond b (Some o.answer) None

abbrev pub left_by : Bool → Owed → List Owed → List Owed
left_by b o os = cond b (map sooner os) (map sooner (o ∷ os))

answers-sooner : (os : List Owed) → answers_owed (map sooner os) ≡ answers_owed os
answers-sooner [] = refl
answers-sooner (o ∷ os) = ap (λ rest. o.answer ∷ rest) (answers-sooner os)

answers_by : (b : Bool) (o : Owed) (os : List Owed) → option_to_list (given_by b o) ++ answers_owed (left_by b o os) ≡ o.answer ∷ answers_owed os
answers_by true o os = ap (λ rest. o.answer ∷ rest) (answers-sooner os)
answers_by false o os = ap (λ rest. o.answer ∷ rest) (answers-sooner os)

pub answers_left : (os : List Owed) → option_to_list (given os) ++ answers_owed (left os) ≡ answers_owed os
answers_left [] = refl
answers_left (o ∷ os) = answers_by (o.due == 0) o os

lengths_by : (b : Bool) (o : Owed) (os : List Owed) → length (option_to_list (given_by b o)) + length (left_by b o os) ≡ suc (length os)
lengths_by true o os = omega (arith, length-map os sooner)
lengths_by false o os = omega (arith, length-map os sooner)

pub lengths_left : (os : List Owed) → length (option_to_list (given os)) + length (left os) ≡ length os
lengths_left [] = refl
lengths_left (o ∷ os) = lengths_by (o.due == 0) o os

abbrev places : List Owed → List ℕ
places = map (λ o. o.place)

places-sooner : (os : List Owed) → places (map sooner os) ≡ places os
places-sooner [] = refl
places-sooner (o ∷ os) = ap (λ rest. o.place ∷ rest) (places-sooner os)

places_by : (b : Bool) (o : Owed) (os : List Owed) → places (left_by b o os) ≡ drop (length (option_to_list (given_by b o))) (o.place ∷ places os)
places_by true o os = places-sooner os
places_by false o os = ap (λ rest. o.place ∷ rest) (places-sooner os)

pub places_left : (os : List Owed) → places (left os) ≡ drop (length (option_to_list (given os))) (places os)
places_left [] = refl
places_left (o ∷ os) = places_by (o.due == 0) o os

-- ---- dues

-- each due is below n
abbrev pub AllDueBelow : ℕ → List Owed → Type 0
AllDueBelow n [] = Unit {0}
AllDueBelow n (o ∷ os) = (o.due < n) × AllDueBelow n os

pub rising_snoc : (n : ℕ) (xs : List Owed) (o : Owed) → AreRising n xs → n ≤ o.due → AllDueBelow o.due xs → AreRising n (xs ++ o ∷ [])
rising_snoc n [] o rising least below = (least, tt)
rising_snoc n (x ∷ xs) o rising least below = (rising.0, rising_snoc (suc x.due) xs o rising.1 below.0 below.1)

rising_sooner : (n : ℕ) (xs : List Owed) → AreRising (suc n) xs → AreRising n (map sooner xs)
rising_sooner n [] rising = tt
rising_sooner n (x ∷ xs) rising =
    let due : suc (x.due - 1) ≡ x.due = omega (arith, rising.0) in
    (omega (arith, rising.0), rising_sooner (suc (x.due - 1)) xs (subst (λ d. AreRising (suc d) xs) (sym due) rising.1))

below_sooner : (n place most : ℕ) (xs : List Owed) → AreRising (suc n) xs → AllOwedAt place most xs → AllDueBelow most (map sooner xs)
below_sooner n place most [] rising at = tt
below_sooner n place most (x ∷ xs) rising at =
    (omega (arith, rising.0, at.1), below_sooner x.due place most xs rising.1 at.2)

at_sooner : (place most : ℕ) (xs : List Owed) → AllOwedAt place most xs → AllOwedAt place most (map sooner xs)
at_sooner place most [] at = tt
at_sooner place most (x ∷ xs) at = (at.0, omega (arith, at.1), at_sooner place most xs at.2)

-- What is left rises still, at the same place, and is due before a whole path wait.
pub record IsLeft (place most : ℕ) (os : List Owed) : Type 0 where
  pub rising : AreRising 0 os
  pub below : AllDueBelow most os
  pub at : AllOwedAt place most os

left_is_by : (b : Bool) (place most : ℕ) (o : Owed) (os : List Owed) → (o.due == 0) ≡ b → AreRising 0 (o ∷ os) → AllOwedAt place most (o ∷ os) → IsLeft place most (left_by b o os)
left_is_by true place most o os test rising at =
    let later : AreRising 1 os = subst (λ d. AreRising (suc d) os) (eqb-true o.due 0 test) rising.1 in
    record { rising = rising_sooner 0 os later; below = below_sooner 0 place most os later at.2; at = at_sooner place most os at.2 }
left_is_by false place most o os test rising at =
    let some : o.due ≢ 0 = eqb-false o.due 0 test in
    let later : AreRising 1 (o ∷ os) = (omega (arith, some), rising.1) in
    record { rising = rising_sooner 0 (o ∷ os) later; below = below_sooner 0 place most (o ∷ os) later at; at = at_sooner place most (o ∷ os) at }

pub left_is : (place most : ℕ) (os : List Owed) → AreRising 0 os → AllOwedAt place most os → IsLeft place most (left os)
left_is place most [] rising at = record { rising = tt; below = tt; at = tt }
left_is place most (o ∷ os) rising at = left_is_by (o.due == 0) place most o os refl rising at

at_snoc : (place most : ℕ) (xs : List Owed) (o : Owed) → AllOwedAt place most xs → o.place ≡ place → o.due ≤ most → AllOwedAt place most (xs ++ o ∷ [])
at_snoc place most [] o at here due = (here, due, tt)
at_snoc place most (x ∷ xs) o at here due = (at.0, at.1, at_snoc place most xs o at.2 here due)

-- What is owed where nothing of another place is owed.
pub at_place : (w : Wiring) (place q : ℕ) (os : List Owed) → AllOwedAt place (w.wait place) os → list_any (λ o. not (o.place == q)) os ≡ false → AllOwedAt q (w.wait q) os
at_place w place q [] at none = tt
at_place w place q (o ∷ os) at none =
    let parts = or_parts (not (o.place == q)) (list_any (λ x. not (x.place == q)) os) none in
    let here : o.place ≡ q = eqb-true o.place q (not-false (o.place == q) parts.0) in
    let same : w.wait place ≡ w.wait q = ap w.wait (sym at.0 ∙ here) in
    (here, omega (arith, at.1, same), at_place w place q os at.2 parts.1)

-- ---- the request that passes

-- A request of a port passes.
pub record IsPassing (f : Fabric) (p : CorePort) (r : Request) : Type 0 where
  pub is : sent_now f p ≡ Some r
  pub taken : take (suc p.sent) p.loaded ≡ take p.sent p.loaded ++ r ∷ []
  pub within : p.sent < length p.loaded
  pub room : length p.owed < f.depth
  pub free : is_stalled f.wiring p.owed r ≡ false

head_taken : (n : ℕ) (xs : List Request) (r : Request) → head_of (drop n xs) ≡ Some r → (take (suc n) xs ≡ take n xs ++ r ∷ []) × (n < length xs)
head_taken zero [] r is = absurd (let fails : None ≡ Some r = is in cc)
head_taken zero (x ∷ xs) r is = let same : x ≡ r = cc in (ap (λ y. y ∷ []) same, omega arith)
head_taken (suc n) [] r is = absurd (let fails : None ≡ Some r = is in cc)
head_taken (suc n) (x ∷ xs) r is = let more = head_taken n xs r is in (ap (λ rest. x ∷ rest) more.0, omega (arith, more.1))

request_cases : (o : Option Request) → (o ≡ None) ⊎ ((r : Request) × (o ≡ Some r))
request_cases None = inl refl
request_cases (Some r) = inr (r, refl)

-- A request is offered, or none.
pub record IsDriven (f : Fabric) (p : CorePort) (r : Request) : Type 0 where
  pub is : offered f p ≡ Some r
  pub head : head_of (drop p.sent p.loaded) ≡ Some r
  pub room : length p.owed < f.depth

pub driving : (f : Fabric) (p : CorePort) → (offered f p ≡ None) ⊎ ((r : Request) × IsDriven f p r)
driving f p = elim (cases_Bool (nat_lt (length p.owed) f.depth)) [
  | inl holds ↦
      let same : offered f p ≡ head_of (drop p.sent p.loaded) = cond-true _ _ _ holds in
      elim (request_cases (head_of (drop p.sent p.loaded))) [
        | inl none ↦ inl (same ∙ none)
        | inr some ↦ inr (some.0, record { is = same ∙ some.1; head = some.1; room = ltb-true (length p.owed) f.depth holds })
      ]
  | inr fails ↦ inl (cond-false _ _ _ fails)
]

pub passing : (f : Fabric) (p : CorePort) → (sent_now f p ≡ None) ⊎ ((r : Request) × IsPassing f p r)
passing f p = elim (driving f p) [
  | inl none ↦ inl (ap (unless_stalled f.wiring p.owed) none)
  | inr some ↦
      let same : sent_now f p ≡ cond (is_stalled f.wiring p.owed some.0) None (Some some.0) = ap (unless_stalled f.wiring p.owed) some.1.is in
      let head = head_taken p.sent p.loaded some.0 some.1.head in
      elim (cases_Bool (is_stalled f.wiring p.owed some.0)) [
        | inl holds ↦ inl (same ∙ cond-true _ _ _ holds)
        | inr fails ↦ inr (some.0, record { is = same ∙ cond-false _ _ _ fails; taken = head.0; within = head.1; room = some.1.room; free = fails })
      ]
]

-- ---- one clock, by the request that passes in it

abbrev pub clocked_by : Fabric → List Content → CorePort → Option Request → CorePort
clocked_by f contents p o = record {
  phase = p.phase;
  opened = p.opened;
  loaded = p.loaded;
  sent = p.sent + length (option_to_list o);
  got = p.got ++ option_to_list (given p.owed);
  owed = owed_after f.wiring contents p.owed o;
}

-- how many were sent by then
taken_then : (f : Fabric) (p : CorePort) (o : Option Request) → ((o ≡ None) ⊎ ((r : Request) × (o ≡ Some r) × (take (suc p.sent) p.loaded ≡ take p.sent p.loaded ++ r ∷ [])))
    → take (p.sent + length (option_to_list o)) p.loaded ≡ take p.sent p.loaded ++ option_to_list o
taken_then f p o (inl none) = subst (λ o. take (p.sent + length (option_to_list o)) p.loaded ≡ take p.sent p.loaded ++ option_to_list o) (sym none)
    (ap (λ n. take n p.loaded) (let e : p.sent + 0 ≡ p.sent = omega arith in e) ∙ sym (append-nil (take p.sent p.loaded)))
taken_then f p o (inr some) = subst (λ o. take (p.sent + length (option_to_list o)) p.loaded ≡ take p.sent p.loaded ++ option_to_list o) (sym some.1)
    (ap (λ n. take n p.loaded) (let e : p.sent + 1 ≡ suc p.sent = omega arith in e) ∙ some.2)

pub taken_on : (f : Fabric) (p : CorePort) → take (p.sent + length (option_to_list (sent_now f p))) p.loaded ≡ take p.sent p.loaded ++ option_to_list (sent_now f p)
taken_on f p = elim (passing f p) [
  | inl none ↦ taken_then f p (sent_now f p) (inl none)
  | inr some ↦ taken_then f p (sent_now f p) (inr (some.0, some.1.is, some.1.taken))
]

pub performed_on : (f : Fabric) (c : List Content) (p : CorePort) → performed (clocked f c p) ≡ performed p ++ option_to_list (sent_now f p)
performed_on f c p =
    ap (λ rs. requests_of p.opened ++ rs) (taken_on f p) ∙ sym (append_assoc (requests_of p.opened) (take p.sent p.loaded) (option_to_list (sent_now f p)))

answers_after : (w : Wiring) (c : List Content) (os : List Owed) (o : Option Request)
    → answers_owed (owed_after w c os o) ≡ answers_owed (left os) ++ answers_of (cycle w c (option_to_list o))
answers_after w c os None = sym (append-nil (answers_owed (left os)))
answers_after w c os (Some r) = map-append (λ (o : Owed). o.answer) (left os) (owed_for w c r ∷ [])

pub answered_on : (f : Fabric) (c : List Content) (p : CorePort)
    → answered (clocked f c p) ≡ answered p ++ answers_of (cycle f.wiring c (option_to_list (sent_now f p)))
answered_on f c p = answers_list (answers_of p.opened) p.got (option_to_list (given p.owed)) (answers_owed (left p.owed)) (answers_owed p.owed)
    (answers_owed (owed_after f.wiring c p.owed (sent_now f p))) (answers_of (cycle f.wiring c (option_to_list (sent_now f p))))
    (answers_left p.owed) (answers_after f.wiring c p.owed (sent_now f p))
  where
    answers_list : (a b g l o n x : List Answer) → g ++ l ≡ o → n ≡ l ++ x → a ++ (b ++ g) ++ n ≡ (a ++ b ++ o) ++ x
    answers_list a b g l o n x first next =
        ap (λ t. a ++ (b ++ g) ++ t) next
        ∙ sym (append_assoc (a ++ (b ++ g)) l x)
        ∙ ap (λ t. t ++ x) (ap (λ t. t ++ l) (sym (append_assoc a b g)) ∙ append_assoc (a ++ b) g l ∙ ap (λ t. a ++ b ++ t) first)

-- ---- the queue after one clock

drop-map : {A B : Type 0} (g : A → B) (n : ℕ) (xs : List A) → drop n (map g xs) ≡ map g (drop n xs)
drop-map g zero xs = refl
drop-map g (suc n) [] = refl
drop-map g (suc n) (x ∷ xs) = drop-map g n xs

abbrev place_in : Wiring → Request → ℕ
place_in w r = queue_to w r

places_after : (w : Wiring) (c : List Content) (os : List Owed) (o : Option Request)
    → places (owed_after w c os o) ≡ places (left os) ++ map (place_in w) (option_to_list o)
places_after w c os None = sym (append-nil (places (left os)))
places_after w c os (Some r) = map-append (λ (o : Owed). o.place) (left os) (owed_for w c r ∷ [])

length_after : (w : Wiring) (c : List Content) (os : List Owed) (o : Option Request)
    → length (owed_after w c os o) ≡ length (left os) + length (option_to_list o)
length_after w c os None = omega arith
length_after w c os (Some r) = length-append (left os) (owed_for w c r ∷ [])

-- over plain lists: what stays awaited when some are answered and some are sent
unanswered_then : (w : Wiring) (xs more : List Request) (g k : ℕ) → g ≤ length xs → k + g ≤ length xs
    → map (place_in w) (drop (g + k) (xs ++ more)) ≡ drop k (map (place_in w) (drop g xs)) ++ map (place_in w) more
unanswered_then w xs more g k got given =
    ap (map (place_in w)) (
    sym (drop-drop k g (xs ++ more)) ∙ ap (drop k) (drop-append-le g xs more got)
    ∙ drop-append-le k (drop g xs) more (let l = length-drop g xs in omega (arith, l, given)))
    ∙ map-append (place_in w) (drop k (drop g xs)) more
    ∙ ap (λ t. t ++ map (place_in w) more) (sym (drop-map (place_in w) k (drop g xs)))

module _ (f : Fabric) (c : List Content) (p : CorePort) (q : IsQueue f p) where
  sent_most : p.sent + length (option_to_list (sent_now f p)) ≤ length p.loaded
  sent_most = elim (passing f p) [
    | inl none ↦ subst (λ o. p.sent + length (option_to_list o) ≤ length p.loaded) (sym none) (omega (arith, q.sent))
    | inr some ↦ subst (λ o. p.sent + length (option_to_list o) ≤ length p.loaded) (sym some.1.is) (omega (arith, some.1.within))
  ]

  owed_most : length (owed_after f.wiring c p.owed (sent_now f p)) ≤ f.depth
  owed_most =
      let l = lengths_left p.owed in
      let a = length_after f.wiring c p.owed (sent_now f p) in
      elim (passing f p) [
        | inl none ↦
            let n : length (option_to_list (sent_now f p)) ≡ 0 = ap (λ o. length (option_to_list o)) none in
            omega (arith, q.most, l, a, n)
        | inr some ↦
            let n : length (option_to_list (sent_now f p)) ≡ 1 = ap (λ o. length (option_to_list o)) some.1.is in
            omega (arith, some.1.room, l, a, n)
      ]

  counted_on : length (p.got ++ option_to_list (given p.owed)) + length (owed_after f.wiring c p.owed (sent_now f p)) ≡ p.sent + length (option_to_list (sent_now f p))
  counted_on =
      omega (arith, q.counted, lengths_left p.owed, length_after f.wiring c p.owed (sent_now f p), length-append p.got (option_to_list (given p.owed)))

  places_on : places (owed_after f.wiring c p.owed (sent_now f p)) ≡ map (place_in f.wiring) (awaited (clocked f c p))
  places_on =
      let sent : length (take p.sent p.loaded) ≡ p.sent = length-take-le p.sent p.loaded q.sent in
      let k = length (option_to_list (given p.owed)) in
      let l : k + length (left p.owed) ≡ length p.owed = lengths_left p.owed in
      places_after f.wiring c p.owed (sent_now f p)
      ∙ ap (λ t. t ++ map (place_in f.wiring) (option_to_list (sent_now f p))) (places_left p.owed ∙ ap (drop k) q.places)
      ∙ sym (unanswered_then f.wiring (take p.sent p.loaded) (option_to_list (sent_now f p)) (length p.got) k (omega (arith, sent, q.counted)) (omega (arith, sent, q.counted, l)))
      ∙ ap (λ n. map (place_in f.wiring) (drop n (take p.sent p.loaded ++ option_to_list (sent_now f p)))) (sym (length-append p.got (option_to_list (given p.owed))))
      ∙ ap (λ xs. map (place_in f.wiring) (drop (length (p.got ++ option_to_list (given p.owed))) xs)) (sym (taken_on f p))

  -- What is owed: at one place, its dues rising.
  pub record IsDue (os : List Owed) : Type 0 where
    pub one_place : (place : ℕ) × AllOwedAt place (f.wiring.wait place) os
    pub rising : AreRising 0 os

  due_none : IsDue (left p.owed)
  due_none =
      let l = left_is q.one_place.0 (f.wiring.wait q.one_place.0) p.owed q.rising q.one_place.1 in
      record { one_place = (q.one_place.0, l.at); rising = l.rising }

  due_some : (r : Request) → is_stalled f.wiring p.owed r ≡ false → IsDue (left p.owed ++ owed_for f.wiring c r ∷ [])
  due_some r free =
      let place = queue_to f.wiring r in
      let parts = or_parts (list_any (λ o. not (o.place == place)) p.owed) (f.wiring.stalls place && list_any (λ o. not (o.due == 0)) p.owed) free in
      let at : AllOwedAt place (f.wiring.wait place) p.owed = at_place f.wiring q.one_place.0 place p.owed q.one_place.1 parts.0 in
      let l = left_is place (f.wiring.wait place) p.owed q.rising at in
      record {
        one_place = (place, at_snoc place (f.wiring.wait place) (left p.owed) (owed_for f.wiring c r) l.at refl (omega arith));
        rising = rising_snoc 0 (left p.owed) (owed_for f.wiring c r) l.rising (omega arith) l.below;
      }

  due_on : IsDue (owed_after f.wiring c p.owed (sent_now f p))
  due_on = elim (passing f p) [
    | inl none ↦ subst (λ o. IsDue (owed_after f.wiring c p.owed o)) (sym none) due_none
    | inr some ↦ subst (λ o. IsDue (owed_after f.wiring c p.owed o)) (sym some.1.is) (due_some some.0 some.1.free)
  ]

  pub queue_on : IsQueue f (clocked f c p)
  queue_on = record {
    sent = sent_most;
    counted = counted_on;
    places = places_on;
    most = owed_most;
    one_place = due_on.one_place;
    rising = due_on.rising;
    fit = q.fit;
  }
