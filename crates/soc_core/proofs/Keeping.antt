-- Two ways in which a core stays sound: its operations and answers stay as they are, or each port's go on.
use Rattle.std.proofs.Common.{◌≡◌, ◌≢◌, ◌⊎◌, inl, inr, ℕ, zero, suc, ◌<◌, List, [], ◌∷◌, ◌++◌, length, get_or, flat_map, Option, Some, None, refl, ap, sym, ◌∙◌, subst, arith, bit_and}
use Rattle.std.proofs.lemmas.Bool.{cases_eq}
use Rattle.wb_signals.specs.Request.{Request}
use Rattle.wb_signals.specs.Content.{Content, Nothing}
use Rattle.wb_signals.specs.History.{Pair, answers_of, contents_after, cycle, IsLegal, after}
use Rattle.wb_signals.proofs.CycleLemmas.{contents_after-append, cycle-append}
use Rattle.soc_core.specs.Fabric.{Fabric, IsFabric, AllGoIn, IsIn, held_at}
use Rattle.soc_core.specs.Core.{Holds, CorePort, Core, port, resting_port, performed, answered}
use Rattle.soc_core.specs.Sound.{AllBelow, StandsIn, IsQueue, IsHeld, before, IsSoundCore}
use Rattle.soc_core.proofs.Frames.{AllOff, AllGo, Agree, off_after, off-append, after_local, cycle_local, nothing_after, nothing_after_all}
use Rattle.soc_core.proofs.Ports.{no_common}

pub option_cases : (o : Option ℕ) → (o ≡ None) ⊎ ((k : ℕ) × (o ≡ Some k))
option_cases None = inl refl
option_cases (Some k) = inr (k, refl)

pub none_some : {k : ℕ} → None ≡ Some k → ⊥
none_some same = cc

pub some_same : {j k : ℕ} → Some j ≡ Some k → j ≡ k
some_same same = cc

pub answers_of-append : (ps qs : List Pair) → answers_of (ps ++ qs) ≡ answers_of ps ++ answers_of qs
answers_of-append [] qs = refl
answers_of-append (p ∷ ps) qs = ap (λ rest. p.answer ∷ rest) (answers_of-append ps qs)

module _ (f : Fabric) (ok : IsFabric f) where
  -- The top slave of a place is in the set, or there is none.
  abbrev pub Inside : ℕ → ℕ → Type 0
  Inside set place = (slave : ℕ) → f.slave_of place ≡ Some slave → IsIn set slave

  pub go_inside : (set : ℕ) (rs : List Request) → AllGoIn f set rs → AllGo f.wiring (Inside set) rs
  go_inside set [] go = tt
  go_inside set (r ∷ rs) go = (λ slave stands. go.0 slave (sym (ok.tops r) ∙ stands), go_inside set rs go.1)

  pub off_outside : (set place slave : ℕ) (rs : List Request) → AllGoIn f set rs → f.slave_of place ≡ Some slave → (IsIn set slave → ⊥) → AllOff f.wiring place rs
  off_outside set place slave [] go stands out = tt
  off_outside set place slave (r ∷ rs) go stands out =
      (λ here. out (go.0 slave (sym (ok.tops r) ∙ subst (λ p. f.slave_of p ≡ Some slave) here stands)), off_outside set place slave rs go.1 stands out)

  module _ (core : Core) (s : IsSoundCore f core) where
    pub nothing_before : (place : ℕ) → f.slave_of place ≡ None → held_at (before f core) place ≡ Nothing
    nothing_before place none = nothing_after_all f.wiring f.built core.journal place (ok.nowhere place none)

    pub nothing_now : (place : ℕ) → f.slave_of place ≡ None → held_at core.contents place ≡ Nothing
    nothing_now place none = s.unheld place (λ m set slave h. none_some (sym none ∙ h.stands)) ∙ nothing_before place none

    -- What the places of a port's set hold is what its operations leave after the journal.
    pub agrees : (m set : ℕ) → (port core m).phase ≡ Holds set
        → Agree f.wiring (Inside set) core.contents (contents_after f.wiring (before f core) (performed (port core m)))
    agrees m set holds place inside = elim (option_cases (f.slave_of place)) [
      | inl none ↦ nothing_now place none ∙ sym (nothing_after f.wiring (before f core) (performed (port core m)) place (nothing_before place none))
      | inr some ↦ s.held place m set some.0 (record { holds = holds; stands = some.1; has = inside some.0 some.1 })
    ]

  -- ---- operations and answers stay

  pub record IsKept (old new : Core) : Type 0 where
    pub journal : new.journal ≡ old.journal
    pub contents : new.contents ≡ old.contents
    pub operations : (m : ℕ) → performed (port new m) ≡ performed (port old m)
    pub replies : (m : ℕ) → answered (port new m) ≡ answered (port old m)
    pub kept : (m set : ℕ) → (port old m).phase ≡ Holds set → (port new m).phase ≡ Holds set
    pub origin : (m set : ℕ) → (port new m).phase ≡ Holds set
        → ((port old m).phase ≡ Holds set) ⊎ (((t : ℕ) → (port old m).phase ≡ Holds t → ⊥) × (performed (port old m) ≡ []))
    pub apart : (m n s t : ℕ) → m ≢ n → (port new m).phase ≡ Holds s → (port new n).phase ≡ Holds t → bit_and s t ≡ 0
    pub stand : (m : ℕ) → StandsIn f (port new m).phase (port new m)
    pub queues : (m : ℕ) → IsQueue f (port new m)
    pub ports : length new.ports ≡ f.ports
    pub first : new.first < f.ports

  module _ (old new : Core) (s : IsSoundCore f old) (k : IsKept old new) where
    same_before : before f new ≡ before f old
    same_before = ap (λ j. after f.wiring f.built j) k.journal

    same_after : (m : ℕ) → contents_after f.wiring (before f new) (performed (port new m)) ≡ contents_after f.wiring (before f old) (performed (port old m))
    same_after m =
        ap (λ b. contents_after f.wiring b (performed (port new m))) same_before
        ∙ ap (λ rs. contents_after f.wiring (before f old) rs) (k.operations m)

    same_now : (place : ℕ) → held_at new.contents place ≡ held_at old.contents place
    same_now place = ap (λ c. held_at c place) k.contents

    -- a place of a port that was just granted was nobody's
    fresh : (place m set slave : ℕ) → IsHeld f new place m set slave → ((t : ℕ) → (port old m).phase ≡ Holds t → ⊥)
        → (n t other : ℕ) → IsHeld f old place n t other → ⊥
    fresh place m set slave h none n t other g = elim (cases_eq m n) [
      | inl same ↦ none t (subst (λ i. (port old i).phase ≡ Holds t) (sym same) g.holds)
      | inr differ ↦
          no_common set t slave (k.apart m n set t differ h.holds (k.kept n t g.holds)) h.has
          (subst (λ i. IsIn t i) (some_same (sym g.stands ∙ h.stands)) g.has)
    ]

    still_held : (place m set slave : ℕ) → IsHeld f new place m set slave
        → ((port old m).phase ≡ Holds set) ⊎ (((t : ℕ) → (port old m).phase ≡ Holds t → ⊥) × (performed (port old m) ≡ []))
        → held_at old.contents place ≡ held_at (contents_after f.wiring (before f old) (performed (port old m))) place
    still_held place m set slave h (inl was) = s.held place m set slave (record { holds = was; stands = h.stands; has = h.has })
    still_held place m set slave h (inr new) =
        s.unheld place (fresh place m set slave h new.0) ∙ sym (ap (λ rs. held_at (contents_after f.wiring (before f old) rs) place) new.1)

    pub still_sound : IsSoundCore f new
    still_sound = record {
      legal = subst (λ j. IsLegal f.wiring f.built j) (sym k.journal) s.legal;
      masters = subst (λ j. AllBelow f.ports j) (sym k.journal) s.masters;
      apart = k.apart;
      stand = k.stand;
      held = λ place m set slave h. same_now place ∙ still_held place m set slave h (k.origin m set h.holds) ∙ sym (ap (λ c. held_at c place) (same_after m));
      unheld = λ place none.
          same_now place
          ∙ s.unheld place (λ n t other g. none n t other (record { holds = k.kept n t g.holds; stands = g.stands; has = g.has }))
          ∙ sym (ap (λ c. held_at c place) same_before);
      answers = λ m.
          k.replies m ∙ s.answers m
          ∙ sym (ap (λ b. answers_of (cycle f.wiring b (performed (port new m)))) same_before ∙ ap (λ rs. answers_of (cycle f.wiring (before f old) rs)) (k.operations m));
      queues = k.queues;
      ports = k.ports;
      places = ap (λ cs. length cs) k.contents ∙ s.places;
      first = k.first;
    }

  -- ---- each port's operations go on

  pub record IsAdvanced (old new : Core) (moves : ℕ → List Request) : Type 0 where
    pub journal : new.journal ≡ old.journal
    pub phases : (m : ℕ) → (port new m).phase ≡ (port old m).phase
    pub operations : (m : ℕ) → performed (port new m) ≡ performed (port old m) ++ moves m
    pub replies : (m : ℕ) → answered (port new m) ≡ answered (port old m) ++ answers_of (cycle f.wiring old.contents (moves m))
    pub moving : (m : ℕ) → (moves m ≡ []) ⊎ ((set : ℕ) × ((port old m).phase ≡ Holds set) × AllGoIn f set (moves m))
    pub inside : (place m set slave : ℕ) → IsHeld f old place m set slave
        → held_at new.contents place ≡ held_at (contents_after f.wiring old.contents (moves m)) place
    pub outside : (place : ℕ) → ((m set slave : ℕ) → IsHeld f old place m set slave → ⊥)
        → held_at new.contents place ≡ held_at old.contents place
    pub stand : (m : ℕ) → StandsIn f (port new m).phase (port new m)
    pub queues : (m : ℕ) → IsQueue f (port new m)
    pub ports : length new.ports ≡ f.ports
    pub places : length new.contents ≡ length f.built
    pub first : new.first < f.ports

  module _ (old new : Core) (moves : ℕ → List Request) (s : IsSoundCore f old) (k : IsAdvanced old new moves) where
    before_same : before f new ≡ before f old
    before_same = ap (λ j. after f.wiring f.built j) k.journal

    was_held : (place m set slave : ℕ) → IsHeld f new place m set slave → IsHeld f old place m set slave
    was_held place m set slave h = record { holds = sym (k.phases m) ∙ h.holds; stands = h.stands; has = h.has }

    is_held : (place m set slave : ℕ) → IsHeld f old place m set slave → IsHeld f new place m set slave
    is_held place m set slave h = record { holds = k.phases m ∙ h.holds; stands = h.stands; has = h.has }

    went_on : (m : ℕ) → contents_after f.wiring (before f new) (performed (port new m))
        ≡ contents_after f.wiring (contents_after f.wiring (before f old) (performed (port old m))) (moves m)
    went_on m =
        ap (λ b. contents_after f.wiring b (performed (port new m))) before_same
        ∙ ap (λ rs. contents_after f.wiring (before f old) rs) (k.operations m)
        ∙ contents_after-append f.wiring (before f old) (performed (port old m)) (moves m)

    now_held : (place m set slave : ℕ) → IsHeld f old place m set slave
        → held_at new.contents place ≡ held_at (contents_after f.wiring (before f new) (performed (port new m))) place
    now_held place m set slave h =
        k.inside place m set slave h
        ∙ after_local f.wiring old.contents (contents_after f.wiring (before f old) (performed (port old m))) (moves m) place (s.held place m set slave h)
        ∙ sym (ap (λ c. held_at c place) (went_on m))

    -- the answers to the moves, as the untimed cycle gives them
    same_answers : (m : ℕ) → (moves m ≡ []) ⊎ ((set : ℕ) × ((port old m).phase ≡ Holds set) × AllGoIn f set (moves m))
        → answers_of (cycle f.wiring old.contents (moves m))
        ≡ answers_of (cycle f.wiring (contents_after f.wiring (before f old) (performed (port old m))) (moves m))
    same_answers m (inl none) =
        subst (λ rs. answers_of (cycle f.wiring old.contents rs) ≡ answers_of (cycle f.wiring (contents_after f.wiring (before f old) (performed (port old m))) rs)) (sym none) refl
    same_answers m (inr go) =
        cycle_local f.wiring (Inside go.0) old.contents (contents_after f.wiring (before f old) (performed (port old m))) (moves m)
        (agrees old s m go.0 go.1) (go_inside go.0 (moves m) go.2)

    answers_on : (m : ℕ) → answered (port new m) ≡ answers_of (cycle f.wiring (before f new) (performed (port new m)))
    answers_on m =
        k.replies m
        ∙ ap (λ ys. ys ++ answers_of (cycle f.wiring old.contents (moves m))) (s.answers m)
        ∙ ap (λ ys. answers_of (cycle f.wiring (before f old) (performed (port old m))) ++ ys) (same_answers m (k.moving m))
        ∙ sym (answers_of-append (cycle f.wiring (before f old) (performed (port old m))) (cycle f.wiring (contents_after f.wiring (before f old) (performed (port old m))) (moves m)))
        ∙ ap answers_of (sym (cycle-append f.wiring (before f old) (performed (port old m)) (moves m)))
        ∙ ap (λ rs. answers_of (cycle f.wiring (before f old) rs)) (sym (k.operations m))
        ∙ ap (λ b. answers_of (cycle f.wiring b (performed (port new m)))) (sym before_same)

    pub advanced_sound : IsSoundCore f new
    advanced_sound = record {
      legal = subst (λ j. IsLegal f.wiring f.built j) (sym k.journal) s.legal;
      masters = subst (λ j. AllBelow f.ports j) (sym k.journal) s.masters;
      apart = λ m n a b differ h g. s.apart m n a b differ (sym (k.phases m) ∙ h) (sym (k.phases n) ∙ g);
      stand = k.stand;
      held = λ place m set slave h. now_held place m set slave (was_held place m set slave h);
      unheld = λ place none.
          let old_none : (m set slave : ℕ) → IsHeld f old place m set slave → ⊥ = λ m set slave h. none m set slave (is_held place m set slave h) in
          k.outside place old_none ∙ s.unheld place old_none ∙ sym (ap (λ c. held_at c place) before_same);
      answers = answers_on;
      queues = k.queues;
      ports = k.ports;
      places = k.places;
      first = k.first;
    }

  -- ---- the contents after all ports have moved

  module _ (move : CorePort → List Request) (none : move resting_port ≡ []) where
    all_off : (ports : List CorePort) (place : ℕ) → ((n : ℕ) → AllOff f.wiring place (move (get_or ports n resting_port))) → AllOff f.wiring place (flat_map move ports)
    all_off [] place off = tt
    all_off (p ∷ ports) place off = off-append f.wiring place (move p) (flat_map move ports) (off 0) (all_off ports place (λ n. off (suc n)))

    moved_at : (c : List Content) (ports : List CorePort) (m place : ℕ)
        → ((n : ℕ) → n ≢ m → AllOff f.wiring place (move (get_or ports n resting_port)))
        → held_at (contents_after f.wiring c (flat_map move ports)) place ≡ held_at (contents_after f.wiring c (move (get_or ports m resting_port))) place
    moved_at c [] m place off = ap (λ rs. held_at (contents_after f.wiring c rs) place) (sym none)
    moved_at c (p ∷ ports) zero place off =
        ap (λ d. held_at d place) (contents_after-append f.wiring c (move p) (flat_map move ports))
        ∙ off_after f.wiring (contents_after f.wiring c (move p)) (flat_map move ports) place (all_off ports place (λ n. off (suc n) (λ same. absurd (let no : ⊥ = omega arith in no))))
    moved_at c (p ∷ ports) (suc m) place off =
        ap (λ d. held_at d place) (contents_after-append f.wiring c (move p) (flat_map move ports))
        ∙ moved_at (contents_after f.wiring c (move p)) ports m place (λ n other. off (suc n) (λ same. other (omega arith)))
        ∙ after_local f.wiring (contents_after f.wiring c (move p)) c (move (get_or ports m resting_port)) place
        (off_after f.wiring c (move p) place (off 0 (λ same. absurd (let no : ⊥ = omega arith in no))))

    module _ (old : Core) (s : IsSoundCore f old)
        (moving : (m : ℕ) → (move (port old m) ≡ []) ⊎ ((set : ℕ) × ((port old m).phase ≡ Holds set) × AllGoIn f set (move (port old m)))) where
      off_of : (place slave n : ℕ) → f.slave_of place ≡ Some slave → ((t : ℕ) → (port old n).phase ≡ Holds t → IsIn t slave → ⊥)
          → (move (port old n) ≡ []) ⊎ ((set : ℕ) × ((port old n).phase ≡ Holds set) × AllGoIn f set (move (port old n)))
          → AllOff f.wiring place (move (port old n))
      off_of place slave n stands out (inl none) = subst (λ rs. AllOff f.wiring place rs) (sym none) tt
      off_of place slave n stands out (inr go) = off_outside go.0 place slave (move (port old n)) go.2 stands (out go.0 go.1)

      pub moved_inside : (place m set slave : ℕ) → IsHeld f old place m set slave
          → held_at (contents_after f.wiring old.contents (flat_map move old.ports)) place ≡ held_at (contents_after f.wiring old.contents (move (port old m))) place
      moved_inside place m set slave h =
          moved_at old.contents old.ports m place (λ n other. off_of place slave n h.stands
          (λ t holds in_t. no_common t set slave (s.apart n m t set other holds h.holds) in_t h.has) (moving n))

      pub moved_outside : (place : ℕ) → ((m set slave : ℕ) → IsHeld f old place m set slave → ⊥)
          → held_at (contents_after f.wiring old.contents (flat_map move old.ports)) place ≡ held_at old.contents place
      moved_outside place no_one = elim (option_cases (f.slave_of place)) [
        | inl nowhere ↦
            let now : held_at old.contents place ≡ Nothing = nothing_now old s place nowhere in
            nothing_after f.wiring old.contents (flat_map move old.ports) place now ∙ sym now
        | inr some ↦
            off_after f.wiring old.contents (flat_map move old.ports) place
            (all_off old.ports place (λ n. off_of place some.0 n some.1 (λ t holds in_t. no_one n t some.0 (record { holds = holds; stands = some.1; has = in_t })) (moving n)))
      ]
