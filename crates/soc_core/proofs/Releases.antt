-- A port that releases CYC keeps the core sound.
use Rattle.std.proofs.Common.{◌≡◌, ◌≢◌, ◌⊎◌, inl, inr, ℕ, ◌<◌, List, [], ◌∷◌, ◌++◌, length, set, take, Bool, Some, None, refl, ap, sym, ◌∙◌, subst}
use Rattle.std.specs.Int.{bit_at}
use Rattle.std.proofs.lemmas.List.{length-set}
use Rattle.std.proofs.lemmas.Bool.{cases_eq}
use Rattle.wb_signals.specs.Request.{Request}
use Rattle.wb_signals.specs.Content.{Content, Nothing}
use Rattle.wb_signals.specs.Wiring.{Wiring}
use Rattle.wb_signals.specs.History.{Pair, Entry, requests_of, answers_of, contents_after, cycle, IsLegal, after}
use Rattle.wb_signals.specs.Cycles.{made_with}
use Rattle.wb_signals.specs.declared.answer.Answer.{Answer}
use Rattle.wb_signals.proofs.CycleLemmas.{requests_of-cycle, after-ended, legal-ended}
use Rattle.soc_core.specs.Fabric.{Fabric, IsFabric, AllGoIn, IsIn, held_at}
use Rattle.soc_core.specs.Core.{Phase, Idle, Wants, Holds, Leaves, CorePort, Core, port, unloaded, performed, answered, released, CanRelease}
use Rattle.soc_core.specs.Sound.{AllBelow, StandsIn, IsQueue, IsHeld, before, IsSoundCore}
use Rattle.soc_core.proofs.Frames.{AllOff, Agree, off_after, after_local, cycle_local, nothing_after}
use Rattle.soc_core.proofs.Ports.{each_port, port_other, no_common}
use Rattle.soc_core.proofs.Keeping.{Inside, go_inside, off_outside, nothing_before, nothing_now, option_cases}
use Rattle.soc_core.proofs.Clocks.{go_taken}
use Rattle.soc_core.proofs.Grants.{none_performed}
use Rattle.soc_core.proofs.Events.{unloaded_is, queue_unloaded, unloaded_answered, unloaded_performed, go_append}

-- ---- histories

pub pairs_same : (ps qs : List Pair) → requests_of ps ≡ requests_of qs → answers_of ps ≡ answers_of qs → ps ≡ qs
pairs_same [] [] rs as_ = refl
pairs_same [] (q ∷ qs) rs as_ = absurd (let never : [] ≡ q.request ∷ requests_of qs = rs in cc)
pairs_same (p ∷ ps) [] rs as_ = absurd (let never : p.request ∷ requests_of ps ≡ [] = rs in cc)
pairs_same (p ∷ ps) (q ∷ qs) rs as_ =
    let r : p.request ≡ q.request = heads_same rs in
    let more_rs : requests_of ps ≡ requests_of qs = tails_same rs in
    let a : p.answer ≡ q.answer = answers_same as_ in
    let more_as : answers_of ps ≡ answers_of qs = rests_same as_ in
    pair_cons p q ps qs r a (pairs_same ps qs more_rs more_as)
  where
    heads_same : {x y : Request} {xs ys : List Request} → x ∷ xs ≡ y ∷ ys → x ≡ y
    heads_same e = cc

    tails_same : {x y : Request} {xs ys : List Request} → x ∷ xs ≡ y ∷ ys → xs ≡ ys
    tails_same e = cc

    answers_same : {x y : Answer} {xs ys : List Answer} → x ∷ xs ≡ y ∷ ys → x ≡ y
    answers_same e = cc

    rests_same : {x y : Answer} {xs ys : List Answer} → x ∷ xs ≡ y ∷ ys → xs ≡ ys
    rests_same e = cc

    pair_cons : (p q : Pair) (ps qs : List Pair) → p.request ≡ q.request → p.answer ≡ q.answer → ps ≡ qs → p ∷ ps ≡ q ∷ qs
    pair_cons p q ps qs r a more = λ i. record { request = r i; answer = a i } ∷ more i

after-with : (w : Wiring) (c : List Content) (es : List Entry) (m : ℕ) (cut : Bool) (ps : List Pair)
    → after w c (made_with m cut es ps) ≡ contents_after w (after w c es) (requests_of ps)
after-with w c es m cut [] = refl
after-with w c es m cut (p ∷ ps) = after-ended w c es m cut (p ∷ ps)

legal-with : (w : Wiring) (c : List Content) (es : List Entry) (m : ℕ) (cut : Bool) (ps : List Pair)
    → IsLegal w c es → ps ≡ cycle w (after w c es) (requests_of ps) → IsLegal w c (made_with m cut es ps)
legal-with w c es m cut [] legal same = legal
legal-with w c es m cut (p ∷ ps) legal same = legal-ended w c es m cut (p ∷ ps) legal (λ e. (let never : p ∷ ps ≡ [] = e in cc)) same

below_snoc : (n : ℕ) (es : List Entry) (e : Entry) → AllBelow n es → e.master < n → AllBelow n (es ++ e ∷ [])
below_snoc n [] e all one = (one, tt)
below_snoc n (x ∷ es) e all one = (all.0, below_snoc n es e all.1 one)

below-with : (n : ℕ) (es : List Entry) (m : ℕ) (cut : Bool) (ps : List Pair) → AllBelow n es → m < n → AllBelow n (made_with m cut es ps)
below-with n es m cut [] all small = all
below-with n es m cut (p ∷ ps) all small = below_snoc n es (record { master = m; cut = cut; pairs = p ∷ ps }) all small

-- ---- where a port's operations go

pub holds_cases : (ph : Phase) → ((t : ℕ) → ph ≡ Holds t → ⊥) ⊎ ((t : ℕ) × (ph ≡ Holds t))
holds_cases Idle = inl (λ t e. (let never : Idle ≡ Holds t = e in cc))
holds_cases (Wants set) = inl (λ t e. (let never : Wants set ≡ Holds t = e in cc))
holds_cases (Holds set) = inr (set, refl)
holds_cases Leaves = inl (λ t e. (let never : Leaves ≡ Holds t = e in cc))

performed_by : (f : Fabric) (ph : Phase) (p : CorePort) → StandsIn f ph p → (performed p ≡ []) ⊎ ((t : ℕ) × (ph ≡ Holds t) × AllGoIn f t (performed p))
performed_by f Idle p s = inl (none_performed p s.0 s.1)
performed_by f (Wants set) p s = inl (none_performed p s.0 s.1)
performed_by f (Holds set) p s = inr (set, refl, go_append f set (requests_of p.opened) (take p.sent p.loaded) s.0 (go_taken f set p.sent p.loaded s.1))
performed_by f Leaves p s = inl (none_performed p s.0 s.1)

pub performed_goes : (f : Fabric) (core : Core) → IsSoundCore f core → (m : ℕ)
    → (performed (port core m) ≡ []) ⊎ ((t : ℕ) × ((port core m).phase ≡ Holds t) × AllGoIn f t (performed (port core m)))
performed_goes f core s m = performed_by f (port core m).phase (port core m) (s.stand m)

-- ---- release

module _ (f : Fabric) (ok : IsFabric f) (core : Core) (s : IsSoundCore f core) (m : ℕ) (cut : Bool) (can : CanRelease f core m) where
  abbrev p : CorePort
  p = port core m

  abbrev new : Core
  new = released core m cut

  inside : m < length core.ports
  inside = subst (λ n. m < n) (sym s.ports) can.within

  same_requests : performed p ≡ requests_of p.opened
  same_requests = unloaded_performed p can.nothing

  whole : p.opened ≡ cycle f.wiring (before f core) (requests_of p.opened)
  whole =
      pairs_same p.opened (cycle f.wiring (before f core) (requests_of p.opened))
      (sym (requests_of-cycle f.wiring (before f core) (requests_of p.opened)))
      (sym (unloaded_answered p (unloaded_is f p (s.queues m) can.nothing)) ∙ s.answers m ∙ ap (λ rs. answers_of (cycle f.wiring (before f core) rs)) same_requests)

  before_new : before f new ≡ contents_after f.wiring (before f core) (performed p)
  before_new = after-with f.wiring f.built core.journal m cut p.opened ∙ ap (λ rs. contents_after f.wiring (before f core) rs) (sym same_requests)

  nothing_new : (place : ℕ) → f.slave_of place ≡ None → held_at (before f new) place ≡ Nothing
  nothing_new place none =
      ap (λ c. held_at c place) before_new ∙ nothing_after f.wiring (before f core) (performed p) place (nothing_before f ok core s place none)

  -- A place of a slave that the port doesn't hold is as it was.
  off_by : (place slave : ℕ) → f.slave_of place ≡ Some slave → ((t : ℕ) → p.phase ≡ Holds t → IsIn t slave → ⊥)
      → (performed p ≡ []) ⊎ ((t : ℕ) × (p.phase ≡ Holds t) × AllGoIn f t (performed p)) → AllOff f.wiring place (performed p)
  off_by place slave stands out (inl none) = subst (λ rs. AllOff f.wiring place rs) (sym none) tt
  off_by place slave stands out (inr go) = off_outside f ok go.0 place slave (performed p) go.2 stands (out go.0 go.1)

  same_there : (place slave : ℕ) → f.slave_of place ≡ Some slave → ((t : ℕ) → p.phase ≡ Holds t → IsIn t slave → ⊥)
      → held_at (before f core) place ≡ held_at (before f new) place
  same_there place slave stands out =
      sym (off_after f.wiring (before f core) (performed p) place (off_by place slave stands out (performed_goes f core s m)))
      ∙ sym (ap (λ c. held_at c place) before_new)

  -- another port that holds a slave: this one doesn't
  out_of : (n t slave : ℕ) → n ≢ m → (port core n).phase ≡ Holds t → IsIn t slave → (u : ℕ) → p.phase ≡ Holds u → IsIn u slave → ⊥
  out_of n t slave other holds has u holds_u has_u = no_common t u slave (s.apart n m t u other holds holds_u) has has_u

  others_agree : (n t : ℕ) → n ≢ m → (port core n).phase ≡ Holds t → Agree f.wiring (Inside f ok t) (before f core) (before f new)
  others_agree n t other holds place within = elim (option_cases (f.slave_of place)) [
    | inl none ↦ nothing_before f ok core s place none ∙ sym (nothing_new place none)
    | inr some ↦ same_there place some.0 some.1 (out_of n t some.0 other holds (within some.0 some.1))
  ]

  -- a port that holds after the release is another, and held before
  back_at : (n t : ℕ) → (port new n).phase ≡ Holds t → (n ≢ m) × ((port core n).phase ≡ Holds t)
  back_at n = each_port (λ n q. (t : ℕ) → q.phase ≡ Holds t → (n ≢ m) × ((port core n).phase ≡ Holds t)) core.ports m (unloaded Leaves []) inside
      (λ t e. absurd (let never : Leaves ≡ Holds t = e in cc)) (λ n other t h. (other, h)) n

  forth : (n t : ℕ) → n ≢ m → (port core n).phase ≡ Holds t → (port new n).phase ≡ Holds t
  forth n t other h = ap (λ (q : CorePort). q.phase) (port_other core.ports m (unloaded Leaves []) n other) ∙ h

  held_new : (place n t slave : ℕ) → IsHeld f new place n t slave
      → held_at core.contents place ≡ held_at (contents_after f.wiring (before f new) (performed (port new n))) place
  held_new place n t slave h =
      let b = back_at n t h.holds in
      s.held place n t slave (record { holds = b.1; stands = h.stands; has = h.has })
      ∙ after_local f.wiring (before f core) (before f new) (performed (port core n)) place (same_there place slave h.stands (out_of n t slave b.0 b.1 h.has))
      ∙ sym (ap (λ q. held_at (contents_after f.wiring (before f new) (performed q)) place) (port_other core.ports m (unloaded Leaves []) n b.0))

  unheld_by : (place slave : ℕ) → f.slave_of place ≡ Some slave → ((n t k : ℕ) → IsHeld f new place n t k → ⊥)
      → ((t : ℕ) → p.phase ≡ Holds t → IsIn t slave → ⊥) → held_at core.contents place ≡ held_at (before f new) place
  unheld_by place slave stands none out =
      s.unheld place (λ n t k g. elim (cases_eq n m) [
        | inl same ↦ out t (subst (λ i. (port core i).phase ≡ Holds t) same g.holds)
            (subst (λ i. IsIn t i) (let e : k ≡ slave = some_k k slave (sym g.stands ∙ stands) in e) g.has)
        | inr other ↦ none n t k (record { holds = forth n t other g.holds; stands = g.stands; has = g.has })
      ])
      ∙ same_there place slave stands out
    where
      some_k : (k slave : ℕ) → Some k ≡ Some slave → k ≡ slave
      some_k k slave e = cc

  unheld_at : (place slave : ℕ) → f.slave_of place ≡ Some slave → ((n t k : ℕ) → IsHeld f new place n t k → ⊥)
      → held_at core.contents place ≡ held_at (before f new) place
  unheld_at place slave stands none = elim (holds_cases p.phase) [
    | inl never ↦ unheld_by place slave stands none (λ t holds has. never t holds)
    | inr held ↦ elim (cases_eq (bit_at held.0 slave) 1) [
      | inl has ↦
          s.held place m held.0 slave (record { holds = held.1; stands = stands; has = has }) ∙ sym (ap (λ c. held_at c place) before_new)
      | inr lacks ↦ unheld_by place slave stands none (λ t holds has. lacks (subst (λ u. IsIn u slave) (same_set t held.0 (sym holds ∙ held.1)) has))
    ]
  ]
    where
      same_set : (t u : ℕ) → Holds t ≡ Holds u → t ≡ u
      same_set t u e = cc

  unheld_new : (place : ℕ) → ((n t k : ℕ) → IsHeld f new place n t k → ⊥) → held_at core.contents place ≡ held_at (before f new) place
  unheld_new place none = elim (option_cases (f.slave_of place)) [
    | inl nowhere ↦ nothing_now f ok core s place nowhere ∙ sym (nothing_new place nowhere)
    | inr some ↦ unheld_at place some.0 some.1 none
  ]

  answers_by : (n : ℕ) → n ≢ m → (performed (port core n) ≡ []) ⊎ ((t : ℕ) × ((port core n).phase ≡ Holds t) × AllGoIn f t (performed (port core n)))
      → answers_of (cycle f.wiring (before f core) (performed (port core n))) ≡ answers_of (cycle f.wiring (before f new) (performed (port core n)))
  answers_by n other (inl none) =
      subst (λ rs. answers_of (cycle f.wiring (before f core) rs) ≡ answers_of (cycle f.wiring (before f new) rs)) (sym none) refl
  answers_by n other (inr go) =
      cycle_local f.wiring (Inside f ok go.0) (before f core) (before f new) (performed (port core n)) (others_agree n go.0 other go.1)
      (go_inside f ok go.0 (performed (port core n)) go.2)

  -- A port that ends its cycle keeps the core sound.
  pub release_sound : IsSoundCore f (released core m cut)
  release_sound = record {
    legal = legal-with f.wiring f.built core.journal m cut p.opened s.legal whole;
    masters = below-with f.ports core.journal m cut p.opened s.masters can.within;
    apart = λ a b x y differ h g. s.apart a b x y differ (back_at a x h).1 (back_at b y g).1;
    stand = each_port (λ n q. StandsIn f q.phase q) core.ports m (unloaded Leaves []) inside (refl, refl) (λ n other. s.stand n);
    held = held_new;
    unheld = unheld_new;
    answers = each_port (λ n q. answered q ≡ answers_of (cycle f.wiring (before f new) (performed q))) core.ports m (unloaded Leaves []) inside refl
        (λ n other. s.answers n ∙ answers_by n other (performed_goes f core s n));
    queues = each_port (λ n q. IsQueue f q) core.ports m (unloaded Leaves []) inside (queue_unloaded f Leaves []) (λ n other. s.queues n);
    ports = length-set core.ports m (unloaded Leaves []) ∙ s.ports;
    places = s.places;
    first = s.first;
  }
