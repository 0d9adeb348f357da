-- What one look at the ports tells, and who is granted where no set is free.
use Rattle.std.proofs.Common.{◌≡◌, ◌≢◌, ◌⊎◌, inl, inr, ◌≤◌, ◌<◌, ◌+◌, ◌==◌, ℕ, zero, suc, Bool, true, false, List, [], ◌∷◌, length, get_or, Option, Some, None, refl, ap, sym, ◌∙◌, arith, bit_and, bit_or, drop, set, subst}
use Rattle.std.proofs.lemmas.Nat.Bits.{bit_at-zero, bit_at-pow_same}
use Rattle.std.proofs.Math.Nat.{eq-or-lt_of_le}
use Rattle.std.proofs.lemmas.Bool.{cases_order}
use Rattle.std.proofs.lemmas.List.{get_or_past, length-map, drop_more, map-set}
use Rattle.std.specs.Int.{bit_at}
use Rattle.std.specs.Int.Bits.{or_zero_r, or_zero_l}
use Rattle.wb_crossbar.specs.Grant.{Turn, port_at, IsGrant, IsNext}
use Rattle.wb_crossbar.specs.Alone.{IsLone, lone_grant}
use Rattle.soc_core.specs.Core.{Phase, Idle, Wants, Holds, Leaves, CorePort, resting_port, wants_of, with_phase, phase_after, granted_from, held, held_by}
use Rattle.soc_bus.specs.View.{CycleView, states, wanting}
use Rattle.soc_bus.specs.declared.grant.Look.{Look}
use Rattle.soc_bus.specs.Look.{nothing_seen, seen, looked_from}
use Rattle.soc_bus.proofs.CycleLists.{get_state, or_assoc}

-- where each set that is waited for meets a held one
pub nobody_granted : (turn : Turn) (wants : ℕ → Option ℕ) (held : ℕ) → ((m set : ℕ) → wants m ≡ Some set → bit_and held set ≢ 0) → IsGrant turn wants held 0
nobody_granted turn wants held none = record {
  decided = λ i h. record {
    waiting = λ set e. (
      (λ granted. absurd (let never : 0 ≡ 1 = sym (bit_at-zero (port_at turn i)) ∙ granted in let no : ⊥ = omega (arith, never) in no)),
      (λ free. absurd (none (port_at turn i) set e free.unheld)),
    );
    idle = λ e. bit_at-zero (port_at turn i);
  };
  above = λ port h. bit_at-zero port;
}

pub nobody_next : (turn : Turn) → turn.first < turn.ports → IsNext turn 0 turn.first
nobody_next turn within = record {
  last = λ i h granted none. absurd (let never : 0 ≡ 1 = sym (bit_at-zero (port_at turn i)) ∙ granted in omega (arith, never));
  none = λ none. refl;
  within = within;
}

-- ---- as it is computed

-- no port before this one waits for a set that is free
abbrev pub NoneFreeBelow : List CycleView → ℕ → ℕ → Type 0
NoneFreeBelow cycles held i = (m set : ℕ) → m < i → wanting (states cycles) m ≡ Some set → bit_and held set ≢ 0

pub none_free_more : (cycles : List CycleView) (held i : ℕ) (cycle : CycleView) → i < length cycles → cycle ≡ get_or cycles i cycle
    → ((set : ℕ) → wants_of cycle.state.phase ≡ Some set → bit_and held set ≢ 0) → NoneFreeBelow cycles held i → NoneFreeBelow cycles held (i + 1)
none_free_more cycles held i cycle within is none below m set h wants = by_case (eq-or-lt_of_le (let le : m ≤ i = omega (arith, h) in le))
  where
    by_case : (m ≡ i) ⊎ (m < i) → bit_and held set ≢ 0
    by_case (inl e) = none set (ap (λ (p : CorePort). wants_of p.phase) (sym (get_state cycles i cycle within is)) ∙ ap (wanting (states cycles)) (sym e) ∙ wants)
    by_case (inr l) = below m set l wants

none_past : (cycles : List CycleView) (m : ℕ) → length cycles ≤ m → wanting (states cycles) m ≡ None
none_past cycles m past =
    ap (λ (p : CorePort). wants_of p.phase)
    (get_or_past (states cycles) m resting_port (let l = length-map cycles (λ (p : CycleView). p.state) in omega (arith, l, past)))

pub none_free : (cycles : List CycleView) (held i : ℕ) → length cycles ≤ i → NoneFreeBelow cycles held i → (m set : ℕ) → wanting (states cycles) m ≡ Some set → bit_and held set ≢ 0
none_free cycles held i past below m set wants = by_case (cases_order m i)
  where
    beyond : i ≤ m → bit_and held set ≢ 0
    beyond h = absurd (let never : None ≡ Some set = sym (none_past cycles m (omega (arith, past, h))) ∙ wants in cc)

    by_case : (m ≡ i) ⊎ ((m < i) ⊎ (i < m)) → bit_and held set ≢ 0
    by_case (inl e) = beyond (omega (arith, e))
    by_case (inr (inl l)) = below m set l wants
    by_case (inr (inr g)) = beyond (omega (arith, g))

-- ---- a look

held_one : (phase : Phase) (i : ℕ) (look : Look) → (seen phase i look).held ≡ bit_or look.held (held_by phase)
held_one Idle i look = sym (or_zero_r look.held)
held_one (Wants set) i look = sym (or_zero_r look.held)
held_one (Holds set) i look = refl
held_one Leaves i look = sym (or_zero_r look.held)

held_more : (i : ℕ) (ports : List CorePort) (look : Look) → (looked_from i ports look).held ≡ bit_or look.held (held ports)
held_more i [] look = sym (or_zero_r look.held)
held_more i (p ∷ ports) look =
    held_more (suc i) ports (seen p.phase i look) ∙ ap (λ h. bit_or h (held ports)) (held_one p.phase i look) ∙ or_assoc look.held (held_by p.phase) (held ports)

pub held_seen : (ports : List CorePort) (look : Look) → look ≡ looked_from 0 ports nothing_seen → look.held ≡ held ports
held_seen ports look is = ap (λ (l : Look). l.held) is ∙ held_more 0 ports nothing_seen ∙ or_zero_l (held ports)

-- a port that is looked at doesn't wait, or is one more and the last
one_waits : (phase : Phase) (i : ℕ) (look : Look)
    → ((wants_of phase ≡ None) × ((seen phase i look).waiting ≡ look.waiting) × ((seen phase i look).last ≡ look.last) × ((seen phase i look).set ≡ look.set))
    ⊎ (((seen phase i look).waiting ≡ look.waiting + 1) × ((seen phase i look).last ≡ i) × (wants_of phase ≡ Some (seen phase i look).set))
one_waits Idle i look = inl (refl, refl, refl, refl)
one_waits (Wants set) i look = inr (refl, refl, refl)
one_waits (Holds set) i look = inl (refl, refl, refl, refl)
one_waits Leaves i look = inl (refl, refl, refl, refl)

more_wait : (i : ℕ) (ports : List CorePort) (look : Look) → look.waiting ≤ (looked_from i ports look).waiting
more_wait i [] look = omega arith
more_wait i (p ∷ ports) look =
    let more = more_wait (suc i) ports (seen p.phase i look) in
    elim (one_waits p.phase i look) [
      | inl a ↦ omega (arith, more, a.1)
      | inr a ↦ omega (arith, more, a.0)
    ]

none_waits : (i : ℕ) (ports : List CorePort) (look : Look) → (looked_from i ports look).waiting ≡ look.waiting → (m : ℕ) → wants_of (get_or ports m resting_port).phase ≡ None
none_waits i [] look same m = refl
none_waits i (p ∷ ports) look same m =
    let more = more_wait (suc i) ports (seen p.phase i look) in
    elim (one_waits p.phase i look) [
      | inl a ↦ here m (a.0) (none_waits (suc i) ports (seen p.phase i look) (same ∙ sym a.1))
      | inr a ↦ absurd (let no : ⊥ = omega (arith, more, a.0, same) in no)
    ]
  where
    here : (m : ℕ) → wants_of p.phase ≡ None → ((k : ℕ) → wants_of (get_or ports k resting_port).phase ≡ None) → wants_of (get_or (p ∷ ports) m resting_port).phase ≡ None
    here zero one rest = one
    here (suc k) one rest = rest k

pub none_waiting : (ports : List CorePort) (look : Look) → look ≡ looked_from 0 ports nothing_seen → look.waiting ≡ 0 → (m : ℕ) → wanting ports m ≡ None
none_waiting ports look is none = none_waits 0 ports nothing_seen (sym (ap (λ (l : Look). l.waiting) is) ∙ none)

last_stays : (i : ℕ) (ports : List CorePort) (look : Look) → (looked_from i ports look).waiting ≡ look.waiting
    → ((looked_from i ports look).last ≡ look.last) × ((looked_from i ports look).set ≡ look.set)
last_stays i [] look same = (refl, refl)
last_stays i (p ∷ ports) look same =
    let more = more_wait (suc i) ports (seen p.phase i look) in
    elim (one_waits p.phase i look) [
      | inl a ↦ (let rest = last_stays (suc i) ports (seen p.phase i look) (same ∙ sym a.1) in (rest.0 ∙ a.2, rest.1 ∙ a.3))
      | inr a ↦ absurd (let no : ⊥ = omega (arith, more, a.0, same) in no)
    ]

-- The one port that waits.
pub record IsOne (i : ℕ) (ports : List CorePort) (now : Look) (k : ℕ) : Type 0 where
  pub last : now.last ≡ i + k
  pub within : k < length ports
  pub waits : wanting ports k ≡ Some now.set
  pub others : (n : ℕ) → n ≢ k → wanting ports n ≡ None

one_behind : (i : ℕ) (p : CorePort) (ports : List CorePort) (now : Look) (k : ℕ) → wants_of p.phase ≡ None → IsOne (suc i) ports now k → IsOne i (p ∷ ports) now (suc k)
one_behind i p ports now k none one = record {
  last = (let l = one.last in omega (arith, l));
  within = (let w = one.within in omega (arith, w));
  waits = one.waits;
  others = others;
}
  where
    others : (n : ℕ) → n ≢ suc k → wanting (p ∷ ports) n ≡ None
    others zero h = none
    others (suc n) h = one.others n (λ e. h (ap (λ (x : ℕ). suc x) e))

one_here : (i : ℕ) (p : CorePort) (ports : List CorePort) (now : Look) → now.last ≡ i → wants_of p.phase ≡ Some now.set → ((n : ℕ) → wants_of (get_or ports n resting_port).phase ≡ None) → IsOne i (p ∷ ports) now 0
one_here i p ports now last waits none = record {
  last = (omega (arith, last));
  within = omega arith;
  waits = waits;
  others = others;
}
  where
    others : (n : ℕ) → n ≢ 0 → wanting (p ∷ ports) n ≡ None
    others zero h = absurd (h refl)
    others (suc n) h = none n

one_seen : (i : ℕ) (ports : List CorePort) (look : Look) → (looked_from i ports look).waiting ≡ look.waiting + 1 → (k : ℕ) × IsOne i ports (looked_from i ports look) k
one_seen i [] look e = absurd (let no : ⊥ = omega (arith, e) in no)
one_seen i (p ∷ ports) look e = elim (one_waits p.phase i look) [
  | inl a ↦ (let rest = one_seen (suc i) ports (seen p.phase i look) (e ∙ ap (λ (n : ℕ). n + 1) (sym a.1)) in (suc rest.0, one_behind i p ports (looked_from (suc i) ports (seen p.phase i look)) rest.0 a.0 rest.1))
  | inr a ↦ (
      let same : (looked_from (suc i) ports (seen p.phase i look)).waiting ≡ (seen p.phase i look).waiting = e ∙ sym a.0 in
      let rest = last_stays (suc i) ports (seen p.phase i look) same in
      (0, one_here i p ports (looked_from (suc i) ports (seen p.phase i look)) (rest.0 ∙ a.1) (a.2 ∙ ap (λ (x : ℕ). Some x) (sym rest.1)) (none_waits (suc i) ports (seen p.phase i look) same)))
]

pub one_waiting : (ports : List CorePort) (look : Look) → look ≡ looked_from 0 ports nothing_seen → look.waiting ≡ 1 → IsOne 0 ports look look.last
one_waiting ports look is one =
    let all = one_seen 0 ports nothing_seen (sym (ap (λ (l : Look). l.waiting) is) ∙ one) in
    let here : all.0 ≡ look.last = (let l = all.1.last in let m = ap (λ (x : Look). x.last) is in omega (arith, l, m)) in
    subst (IsOne 0 ports look) here (subst (λ l. IsOne 0 ports l all.0) (sym is) all.1)

-- ---- ports whose phases stay where nobody is granted

one_leaves : (phase : Phase) (i : ℕ) (look : Look) → (seen phase i look).leaves ≡ false → (look.leaves ≡ false) × (phase_after false phase ≡ phase)
one_leaves Idle i look e = (e, refl)
one_leaves (Wants set) i look e = (e, refl)
one_leaves (Holds set) i look e = (e, refl)
one_leaves Leaves i look e = absurd (let never : true ≡ false = e in cc)

none_leave : (i : ℕ) (ports : List CorePort) (look : Look) → (looked_from i ports look).leaves ≡ false → (look.leaves ≡ false) × (ports ≡ granted_from 0 i ports)
none_leave i [] look e = (e, refl)
none_leave i (p ∷ ports) look e =
    let more = none_leave (suc i) ports (seen p.phase i look) e in
    let one = one_leaves p.phase i look more.0 in
    let bit : (bit_at 0 i == 1) ≡ false = ap (λ (b : ℕ). b == 1) (bit_at-zero i) in
    let same : p.phase ≡ phase_after (bit_at 0 i == 1) p.phase = sym one.1 ∙ ap (λ b. phase_after b p.phase) (sym bit) in
    (one.0, λ j. record { phase = same j; opened = p.opened; loaded = p.loaded; sent = p.sent; got = p.got; owed = p.owed } ∷ more.1 j)

pub phases_stay : (ports : List CorePort) (look : Look) → look ≡ looked_from 0 ports nothing_seen → look.leaves ≡ false → ports ≡ granted_from 0 0 ports
phases_stay ports look is none = (none_leave 0 ports nothing_seen (sym (ap (λ (l : Look). l.leaves) is) ∙ none)).1

leaves_on : (i : ℕ) (ports : List CorePort) (look : Look) → (looked_from i ports look).leaves ≡ false → (n : ℕ) → wanting ports n ≡ None → (b : Bool)
    → phase_after b (get_or ports n resting_port).phase ≡ (get_or ports n resting_port).phase
leaves_on i [] look e n none b = refl
leaves_on i (p ∷ ports) look e zero none b = still p.phase i look (none_leave (suc i) ports (seen p.phase i look) e).0 none b
  where
    still : (phase : Phase) (i : ℕ) (look : Look) → (seen phase i look).leaves ≡ false → wants_of phase ≡ None → (b : Bool) → phase_after b phase ≡ phase
    still Idle i look e none b = refl
    still (Wants set) i look e none b = absurd (cc)
    still (Holds set) i look e none b = refl
    still Leaves i look e none b = absurd (let never : true ≡ false = e in cc)
leaves_on i (p ∷ ports) look e (suc n) none b = leaves_on (suc i) ports (seen p.phase i look) e n none b

with_same : (p : CorePort) (phase : Phase) → phase ≡ p.phase → with_phase phase p ≡ p
with_same p phase e = λ j. record { phase = e j; opened = p.opened; loaded = p.loaded; sent = p.sent; got = p.got; owed = p.owed }

stay_from : (grant i : ℕ) (ports : List CorePort) → ((n : ℕ) → phase_after (bit_at grant (i + n) == 1) (get_or ports n resting_port).phase ≡ (get_or ports n resting_port).phase) → ports ≡ granted_from grant i ports
stay_from grant i [] each = refl
stay_from grant i (p ∷ ports) each =
    let zero_ : i + 0 ≡ i = omega arith in
    let one = sym (with_same p (phase_after (bit_at grant i == 1) p.phase) (ap (λ k. phase_after (bit_at grant k == 1) p.phase) (sym zero_) ∙ each 0)) in
    let more = stay_from grant (suc i) ports (λ n. let e : suc i + n ≡ i + suc n = omega arith in ap (λ k. phase_after (bit_at grant k == 1) (get_or ports n resting_port).phase) e ∙ each (suc n)) in
    λ j. one j ∷ more j

step_from : (grant i : ℕ) (ports : List CorePort) (m : ℕ) (q : CorePort) → q ≡ with_phase (phase_after (bit_at grant (i + m) == 1) (get_or ports m resting_port).phase) (get_or ports m resting_port)
    → ((n : ℕ) → n ≢ m → phase_after (bit_at grant (i + n) == 1) (get_or ports n resting_port).phase ≡ (get_or ports n resting_port).phase) → set ports m q ≡ granted_from grant i ports
step_from grant i [] m q is each = refl
step_from grant i (p ∷ ports) zero q is each =
    let zero_ : i + 0 ≡ i = omega arith in
    let one = is ∙ ap (λ k. with_phase (phase_after (bit_at grant k == 1) p.phase) p) zero_ in
    let more = stay_from grant (suc i) ports (λ n. let e : suc i + n ≡ i + suc n = omega arith in ap (λ k. phase_after (bit_at grant k == 1) (get_or ports n resting_port).phase) e ∙ each (suc n) (λ h. let no : ⊥ = omega (arith, h) in no)) in
    λ j. one j ∷ more j
step_from grant i (p ∷ ports) (suc m) q is each =
    let zero_ : i + 0 ≡ i = omega arith in
    let one = sym (with_same p (phase_after (bit_at grant i == 1) p.phase) (ap (λ k. phase_after (bit_at grant k == 1) p.phase) (sym zero_) ∙ each 0 (λ h. let no : ⊥ = omega (arith, h) in no))) in
    let e : i + suc m ≡ suc i + m = omega arith in
    let more = step_from grant (suc i) ports m q (is ∙ ap (λ k. with_phase (phase_after (bit_at grant k == 1) (get_or ports m resting_port).phase) (get_or ports m resting_port)) e)
    (λ n h. let f : suc i + n ≡ i + suc n = omega arith in ap (λ k. phase_after (bit_at grant k == 1) (get_or ports n resting_port).phase) f ∙ each (suc n) (λ g. h (let same : n ≡ m = omega (arith, g) in same))) in
    λ j. one j ∷ more j

-- the lone port steps, and no other
pub lone_steps : (cycles : List CycleView) (look : Look) (granted : Bool) (r q : CycleView) → look ≡ looked_from 0 (states cycles) nothing_seen → look.waiting ≡ 1 → look.leaves ≡ false
    → r ≡ get_or cycles look.last r → q.state ≡ with_phase (phase_after granted r.state.phase) r.state → states (set cycles look.last q) ≡ granted_from (lone_grant granted look.last) 0 (states cycles)
lone_steps cycles look granted r q is one none was state =
    let m = look.last in
    let lone = one_waiting (states cycles) look is one in
    let within : m < length cycles = (let w = lone.within in let l = length-map cycles (λ (p : CycleView). p.state) in omega (arith, w, l)) in
    let bit : granted ≡ (bit_at (lone_grant granted m) (0 + m) == 1) = (let e : m ≡ 0 + m = omega arith in lone_bit granted m ∙ ap (λ k. bit_at (lone_grant granted m) k == 1) e) in
    let now : q.state ≡ with_phase (phase_after (bit_at (lone_grant granted m) (0 + m) == 1) (get_or (states cycles) m resting_port).phase) (get_or (states cycles) m resting_port) =
    state ∙ ap (λ b. with_phase (phase_after b r.state.phase) r.state) bit
    ∙ ap (λ p. with_phase (phase_after (bit_at (lone_grant granted m) (0 + m) == 1) p.phase) p) (sym (get_state cycles m r within was)) in
    map-set (λ (p : CycleView). p.state) cycles m q
    ∙ step_from (lone_grant granted m) 0 (states cycles) m q.state now
    (λ n other. leaves_on 0 (states cycles) nothing_seen (sym (ap (λ (l : Look). l.leaves) is) ∙ none) n (lone.others n other) (bit_at (lone_grant granted m) (0 + n) == 1))
  where
    lone_bit : (granted : Bool) (m : ℕ) → granted ≡ (bit_at (lone_grant granted m) m == 1)
    lone_bit true m = sym (ap (λ (b : ℕ). b == 1) (bit_at-pow_same m))
    lone_bit false m = sym (ap (λ (b : ℕ). b == 1) (bit_at-zero m))

pub is_lone : (cycles : List CycleView) (look : Look) → look ≡ looked_from 0 (states cycles) nothing_seen → look.waiting ≡ 1 → IsLone (wanting (states cycles)) look.last look.set
is_lone cycles look is one = let lone = one_waiting (states cycles) look is one in record { waits = lone.waits; others = lone.others }

pub lone_within : (cycles : List CycleView) (look : Look) → look ≡ looked_from 0 (states cycles) nothing_seen → look.waiting ≡ 1 → look.last < length cycles
lone_within cycles look is one = let w = (one_waiting (states cycles) look is one).within in let l = length-map cycles (λ (p : CycleView). p.state) in omega (arith, w, l)

-- ---- the look as it is computed

see_few : (phase : Phase) (i : ℕ) (look : Look) → look.waiting ≤ i → (seen phase i look).waiting ≤ i + 1
see_few Idle i look few = omega (arith, few)
see_few (Wants set) i look few = omega (arith, few)
see_few (Holds set) i look few = omega (arith, few)
see_few Leaves i look few = omega (arith, few)

pub look_few : (phase : Phase) (i : ℕ) (look now : Look) → now ≡ seen phase i look → look.waiting ≤ i → now.waiting ≤ i + 1
look_few phase i look now is few = let w = ap (λ (l : Look). l.waiting) is in let one = see_few phase i look few in omega (arith, w, one)

pub look_more : (cycles : List CycleView) (i : ℕ) (cycle : CycleView) (look now all : Look) → i < length cycles → cycle ≡ get_or cycles i cycle → now ≡ seen cycle.state.phase i look
    → looked_from i (drop i (states cycles)) look ≡ all → looked_from (i + 1) (drop (i + 1) (states cycles)) now ≡ all
look_more cycles i cycle look now all within is step so_far =
    let inside : i < length (states cycles) = (let l = length-map cycles (λ (p : CycleView). p.state) in omega (arith, l, within)) in
    let here : drop i (states cycles) ≡ cycle.state ∷ drop (i + 1) (states cycles) =
    drop_more (states cycles) i resting_port inside ∙ ap (λ p. p ∷ drop (i + 1) (states cycles)) (get_state cycles i cycle within is) in
    let next : suc i ≡ i + 1 = omega arith in
    ap (looked_from (i + 1) (drop (i + 1) (states cycles))) step
    ∙ ap (λ n. looked_from n (drop (i + 1) (states cycles)) (seen cycle.state.phase i look)) (sym next)
    ∙ sym (ap (λ ps. looked_from i ps look) here) ∙ so_far
