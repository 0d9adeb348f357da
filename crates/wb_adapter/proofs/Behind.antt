-- One clock of a classic slave behind an adapter.
use Rattle.std.proofs.Common.{◌≡◌, ◌≢◌, ℕ, ◌+◌, ◌-◌, ◌<◌, ◌≤◌, length, List, [], ◌∷◌, Bool, true, false, refl, ap, sym, ◌∙◌, arith, Option, Some, None, ◌==◌}
use Rattle.std.specs.Option.{ForSome}
use Rattle.std.proofs.lemmas.List.{length-set}
use Rattle.wb_signals.specs.Request.{Request}
use Rattle.wb_signals.specs.declared.answer.Answer.{Answer}
use Rattle.wb_signals.specs.Content.{Content}
use Rattle.wb_signals.specs.Wiring.{Wiring, Arrival, step, stepped}
use Rattle.wb_signals.specs.History.{contents_after}
use Rattle.wb_signals.specs.Slave.{Owed, owed_after, owed_for, left, listed, ticked, is_stalled, PlacesBelow, IsShaped}
use Rattle.wb_signals.specs.Standing.{Standing, ClassicSlave, KeepsStanding, stands, stood, told, standing_after, told_after, contents_stood, told_by, stood_by}
use Rattle.wb_adapter.specs.Adapted.{adapted, owed_behind, behind, waits_after, IsBehind}

owed_at : (answer : Answer) (m n : ℕ) → m ≡ n → let a : Owed = record { place = 0; answer = answer; due = m } in let b : Owed = record { place = 0; answer = answer; due = n } in a ∷ [] ≡ b ∷ []
owed_at answer m n e = cc

one_left : (o : Owed) (n : ℕ) → o.due ≡ n + 1 → left (o ∷ []) ≡ record { place = o.place; answer = o.answer; due = n } ∷ []
one_left o n e =
    let f : (o.due == 0) ≡ false = grind (arith, e) in
    let g : o.due - 1 ≡ n = omega (arith, e) in
    rw (f, g) refl

module _ (w : ℕ) (wiring : Wiring) (c : List Content) where
  -- the request that stands, at one clock more
  stood_owed : (b : Bool) (s : Option Standing) (r : Request) (d : List Content) → ((stands wiring c s r).clocks == w) ≡ b → (stands wiring c s r).clocks ≤ w
      → owed_behind w wiring d (stood w (stands wiring c s r)) (waits_after (Some r) (told w (stands wiring c s r)) None) (told w (stands wiring c s r))
      ≡ left (owed_behind w wiring c s (Some r) None)
  stood_owed true s r d e h =
      let t = stands wiring c s r in
      let z : t.clocks ≡ w = grind (arith, e) in
      rw e (sym (one_left (record { place = 0; answer = t.answer; due = w - t.clocks + 1 }) 0 (omega arith)))
  stood_owed false s r d e h =
      let t = stands wiring c s r in
      let z : t.clocks ≢ w = λ z. grind (arith, e, z) in
      rw e (sym (one_left (record { place = 0; answer = t.answer; due = w - t.clocks + 1 }) (w - (t.clocks + 1) + 1) (omega arith)))

  stood_contents : (b : Bool) (s : Option Standing) (r : Request) (d : List Content) → ((stands wiring c s r).clocks == w) ≡ b
      → contents_stood wiring d (stood w (stands wiring c s r)) (waits_after (Some r) (told w (stands wiring c s r)) None) ≡ d
  stood_contents true s r d e = rw e refl
  stood_contents false s r d e = rw e refl

  stood_behind : (b : Bool) (s : Option Standing) (r : Request) → ((stands wiring c s r).clocks == w) ≡ b → (stands wiring c s r).clocks ≤ w → (stands wiring c s r).request ≡ r → IsBehind w wiring s (Some r) None
      → IsBehind w wiring (stood w (stands wiring c s r)) (waits_after (Some r) (told w (stands wiring c s r)) None) (told w (stands wiring c s r))
  stood_behind true s r e h q i = rw e (record { kept = tt; clocks = λ t z. absurd (cc); free = λ a z. refl; taken = λ r z. absurd (cc) })
  stood_behind false s r e h q i =
      let z : (stands wiring c s r).clocks ≢ w = λ z. grind (arith, e, z) in
      rw e (record {
        kept = ap Some (sym q);
        clocks = λ t f. let g : t.clocks ≡ (stands wiring c s r).clocks + 1 = cc in omega arith;
        free = λ a z. absurd (cc);
        taken = i.taken;
      })

  stands_clocks : (s : Option Standing) (r : Request) → ForSome s (λ t. t.clocks ≤ w) → (stands wiring c s r).clocks ≤ w
  stands_clocks None r h = omega arith
  stands_clocks (Some t) r h = h t refl

  stands_request : (s : Option Standing) (r : Request) → KeepsStanding s (Some r) → (stands wiring c s r).request ≡ r
  stands_request None r h = refl
  stands_request (Some t) r h = cc

  waits_on : (s : Option Standing) (r q : Request) → is_stalled (adapted w wiring) (owed_behind w wiring c s (Some r) None) q ≡ true
  waits_on s r q =
      let e : (w - (stands wiring c s r).clocks + 1 == 0) ≡ false = grind arith in
      rw e refl

  no_pass : (s : Option Standing) (r q : Request) → ForSome (Some q) (λ q. is_stalled (adapted w wiring) (owed_behind w wiring c s (Some r) None) q ≡ false) → ⊥
  no_pass s r q u = let e = u q refl in let f = waits_on s r q in cc

  passed : (q : Request) → let o : Owed = record { place = 0; answer = (step wiring c q).answer; due = w - 0 + 1 } in o ∷ [] ≡ owed_for (adapted w wiring) c q ∷ []
  passed q =
      let d : w - 0 + 1 ≡ w + 1 = omega arith in
      rw d refl

  pub behind_owed : (s : Option Standing) (waiting : Option Request) (ready : Option Answer) (op : Option Request) → IsBehind w wiring s waiting ready
      → ForSome op (λ r. wiring.accepts r ≡ true) → ForSome op (λ r. is_stalled (adapted w wiring) (owed_behind w wiring c s waiting ready) r ≡ false)
      → owed_behind w wiring (contents_stood wiring c s waiting) (standing_after w wiring c s waiting) (waits_after waiting (told_after w wiring c s waiting) op) (told_after w wiring c s waiting)
      ≡ owed_after (adapted w wiring) (contents_stood wiring c s waiting) (owed_behind w wiring c s waiting ready) op
  behind_owed s (Some r) None None i t u = stood_owed ((stands wiring c s r).clocks == w) s r _ refl (stands_clocks s r i.clocks)
  behind_owed s (Some r) None (Some q) i t u = absurd (no_pass s r q u)
  behind_owed s (Some r) (Some a) op i t u = absurd (let e = i.free a refl in cc)
  behind_owed None None None None i t u = refl
  behind_owed None None (Some a) None i t u = refl
  behind_owed None None None (Some q) i t u = passed q
  behind_owed None None (Some a) (Some q) i t u = passed q
  behind_owed (Some s) None ready op i t u = absurd (let k = i.kept in cc)

  pub behind_contents : (s : Option Standing) (waiting : Option Request) (ready : Option Answer) (op : Option Request) → IsBehind w wiring s waiting ready
      → ForSome op (λ r. is_stalled (adapted w wiring) (owed_behind w wiring c s waiting ready) r ≡ false)
      → contents_stood wiring (contents_stood wiring c s waiting) (standing_after w wiring c s waiting) (waits_after waiting (told_after w wiring c s waiting) op)
      ≡ contents_after (adapted w wiring) (contents_stood wiring c s waiting) (listed op)
  behind_contents s (Some r) None None i u = stood_contents ((stands wiring c s r).clocks == w) s r _ refl
  behind_contents s (Some r) None (Some q) i u = absurd (no_pass s r q u)
  behind_contents s (Some r) (Some a) op i u = absurd (let e = i.free a refl in cc)
  behind_contents None None ready None i u = refl
  behind_contents None None ready (Some q) i u = refl
  behind_contents (Some s) None ready op i u = absurd (let k = i.kept in cc)

  pub behind_behind : (s : Option Standing) (waiting : Option Request) (ready : Option Answer) (op : Option Request) → IsBehind w wiring s waiting ready
      → ForSome op (λ r. wiring.accepts r ≡ true) → ForSome op (λ r. is_stalled (adapted w wiring) (owed_behind w wiring c s waiting ready) r ≡ false)
      → IsBehind w wiring (standing_after w wiring c s waiting) (waits_after waiting (told_after w wiring c s waiting) op) (told_after w wiring c s waiting)
  behind_behind s (Some r) None None i t u = stood_behind ((stands wiring c s r).clocks == w) s r refl (stands_clocks s r i.clocks) (stands_request s r i.kept) i
  behind_behind s (Some r) None (Some q) i t u = absurd (no_pass s r q u)
  behind_behind s (Some r) (Some a) op i t u = absurd (let e = i.free a refl in cc)
  behind_behind None None ready None i t u = record { kept = tt; clocks = i.clocks; free = λ a z. refl; taken = i.taken }
  behind_behind None None ready (Some q) i t u = record { kept = tt; clocks = i.clocks; free = λ a z. absurd (cc); taken = t }
  behind_behind (Some s) None ready op i t u = absurd (let k = i.kept in cc)

  length-stepped : (d : List Content) (a : Arrival) → length (stepped d a).contents ≡ length d
  unfolding stepped
  length-stepped d a = length-set d a.place _

  length-stood : (s : Option Standing) (waiting : Option Request) → length (contents_stood wiring c s waiting) ≡ length c
  length-stood None None = refl
  length-stood None (Some r) = length-stepped c (wiring.route r)
  length-stood (Some t) waiting = refl

  behind_below : (n : ℕ) (s : Option Standing) (waiting : Option Request) (ready : Option Answer) → 0 < n → PlacesBelow n (owed_behind w wiring c s waiting ready)
  behind_below n s waiting (Some a) h = (h, tt)
  behind_below n s None None h = tt
  behind_below n s (Some r) None h = (h, tt)

  pub behind_shaped : (s : Option Standing) (waiting : Option Request) (ready : Option Answer) → length c ≡ wiring.places → 0 < wiring.places → ((r : Request) → wiring.accepts r ≡ true → (wiring.route r).place < wiring.places)
      → IsShaped (record { wiring = adapted w wiring; contents = contents_stood wiring c s waiting; owed = owed_behind w wiring c s waiting ready })
  behind_shaped s waiting ready h some within = record {
    all = length-stood s waiting ∙ h;
    within = within;
    queues = λ place l. some;
    owing = behind_below wiring.places s waiting ready some;
  }

-- One clock of the slave behind the adapter.
pub behind_ticked : (s : ClassicSlave) (waiting : Option Request) (ready : Option Answer) (op : Option Request) → IsBehind s.wait s.wiring s.standing waiting ready
    → ForSome op (λ r. s.wiring.accepts r ≡ true) → ForSome op (λ r. is_stalled (adapted s.wait s.wiring) (owed_behind s.wait s.wiring s.contents s.standing waiting ready) r ≡ false)
    → behind (stood_by s waiting) (waits_after waiting (told_by s waiting) op) (told_by s waiting) ≡ ticked (behind s waiting ready) op
behind_ticked s waiting ready op i t u = λ j. record {
  wiring = adapted s.wait s.wiring;
  contents = behind_contents s.wait s.wiring s.contents s.standing waiting ready op i u j;
  owed = behind_owed s.wait s.wiring s.contents s.standing waiting ready op i t u j;
}
