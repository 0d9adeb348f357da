-- A grant keeps the core sound.
use Rattle.std.proofs.Common.{◌≡◌, ◌≢◌, ◌⊎◌, inl, inr, ℕ, zero, suc, ◌+◌, ◌-◌, ◌<◌, ◌≤◌, ◌==◌, List, [], ◌∷◌, ◌++◌, length, get_or, take, Bool, true, false, Some, refl, ap, sym, ◌∙◌, subst, arith, bit_and}
use Rattle.std.specs.Int.{bit_at}
use Rattle.std.proofs.lemmas.Bool.{cases_lt, cases_order, lt-ltb, le-ltb, eqb-true, cond-true, cond-false}
use Rattle.std.proofs.lemmas.Nat.{and_comm}
use Rattle.wb_signals.specs.Request.{Request}
use Rattle.wb_signals.specs.History.{Pair, requests_of}
use Rattle.wb_crossbar.specs.Grant.{Turn, port_at, IsFree, IsGrant}
use Rattle.soc_core.specs.Fabric.{Fabric, IsFabric, AllGoIn}
use Rattle.soc_core.specs.Core.{Phase, Idle, Wants, Holds, Leaves, CorePort, Core, port, resting_port, performed, answered, wants_of, wants, turn, held, phase_after, with_phase, granted_from, granted}
use Rattle.soc_core.specs.Sound.{StandsIn, IsQueue, IsSoundCore}
use Rattle.soc_core.proofs.Ports.{held_apart, holds_same}
use Rattle.soc_core.proofs.Keeping.{IsKept, still_sound}
use Rattle.soc_core.proofs.Clocks.{stands_same}

pub take_none : (n : ℕ) → take {A = Request} n [] ≡ []
take_none zero = refl
take_none (suc n) = refl

-- a port in another phase keeps its queue
pub queue_phase : (f : Fabric) (ph : Phase) (p : CorePort) → IsQueue f p → IsQueue f (with_phase ph p)
queue_phase f ph p q = record { sent = q.sent; counted = q.counted; places = q.places; most = q.most; one_place = q.one_place; rising = q.rising; fit = q.fit }

-- ---- the port after a grant

get-granted : (grant n : ℕ) (ports : List CorePort) (m : ℕ)
    → get_or (granted_from grant n ports) m resting_port ≡ with_phase (phase_after (bit_at grant (n + m) == 1) (get_or ports m resting_port).phase) (get_or ports m resting_port)
get-granted grant n [] m = refl
get-granted grant n (p ∷ ports) zero = ap (λ k. with_phase (phase_after (bit_at grant k == 1) p.phase) p) (let e : n ≡ n + 0 = omega arith in e)
get-granted grant n (p ∷ ports) (suc m) =
    get-granted grant (suc n) ports m
    ∙ ap (λ k. with_phase (phase_after (bit_at grant k == 1) (get_or ports m resting_port).phase) (get_or ports m resting_port)) (let e : suc n + m ≡ n + suc m = omega arith in e)

length-granted : (grant n : ℕ) (ports : List CorePort) → length (granted_from grant n ports) ≡ length ports
length-granted grant n [] = refl
length-granted grant n (p ∷ ports) = ap (λ (k : ℕ). suc k) (length-granted grant (suc n) ports)

pub port-granted : (grant first : ℕ) (core : Core) (m : ℕ)
    → port (granted grant first core) m ≡ with_phase (phase_after (bit_at grant m == 1) (port core m).phase) (port core m)
port-granted grant first core m =
    get-granted grant 0 core.ports m
    ∙ ap (λ k. with_phase (phase_after (bit_at grant k == 1) (port core m).phase) (port core m)) (let e : 0 + m ≡ m = omega arith in e)

-- ---- its phase

phase_kept : (b : Bool) (ph : Phase) (set : ℕ) → ph ≡ Holds set → phase_after b ph ≡ Holds set
phase_kept b ph set is = ap (phase_after b) is

origin_of : (b : Bool) (ph : Phase) (set : ℕ) → phase_after b ph ≡ Holds set → (ph ≡ Holds set) ⊎ ((b ≡ true) × (ph ≡ Wants set))
origin_of b Idle set is = absurd (let never : Idle ≡ Holds set = is in cc)
origin_of true (Wants s) set is = inr (refl, ap Wants (holds_same s set is))
origin_of false (Wants s) set is = absurd (let never : Wants s ≡ Holds set = is in cc)
origin_of b (Holds s) set is = inl is
origin_of b Leaves set is = absurd (let never : Idle ≡ Holds set = is in cc)

none_goes : (f : Fabric) (set : ℕ) (ps : List Pair) (rs : List Request) → ps ≡ [] → rs ≡ [] → AllGoIn f set (requests_of ps) × AllGoIn f set rs
none_goes f set ps rs no_pairs no_loads =
    (subst (λ xs. AllGoIn f set (requests_of xs)) (sym no_pairs) tt, subst (λ xs. AllGoIn f set xs) (sym no_loads) tt)

stands_after : (f : Fabric) (b : Bool) (ph : Phase) (p : CorePort) → StandsIn f ph p → StandsIn f (phase_after b ph) p
stands_after f b Idle p s = s
stands_after f true (Wants set) p s = none_goes f set p.opened p.loaded s.0 s.1
stands_after f false (Wants set) p s = s
stands_after f b (Holds set) p s = s
stands_after f b Leaves p s = s

pub none_performed : (p : CorePort) → p.opened ≡ [] → p.loaded ≡ [] → performed p ≡ []
none_performed p no_pairs no_loads =
    ap (λ ps. requests_of ps ++ take p.sent p.loaded) no_pairs ∙ ap (λ rs. take p.sent rs) no_loads ∙ take_none p.sent

-- ---- round-robin order

pub record IsTurnOf (t : Turn) (m : ℕ) : Type 0 where
  pub index : ℕ
  pub within : index < t.ports
  pub is : port_at t index ≡ m

pub turn_of : (t : Turn) (m : ℕ) → m < t.ports → t.first < t.ports → IsTurnOf t m
turn_of t m within first = elim (cases_lt m t.first) [
  | inl early ↦
      let past : t.ports ≤ t.first + (m + t.ports - t.first) = omega (arith, early, first) in
      let back : t.first + (m + t.ports - t.first) - t.ports ≡ m = omega (arith, early, first) in
      record { index = m + t.ports - t.first; within = omega (arith, early, first, within); is = cond-false _ _ _ (le-ltb _ t.ports past) ∙ back }
  | inr late ↦
      let here : t.first + (m - t.first) ≡ m = omega (arith, late) in
      let inside : t.first + (m - t.first) < t.ports = omega (arith, late, within) in
      record { index = m - t.first; within = omega (arith, within, late); is = cond-true _ _ _ (lt-ltb _ t.ports inside) ∙ here }
]

-- two ports that are looked at one after the other are two
pub turn_apart : (t : Turn) (j i : ℕ) → j < i → i < t.ports → t.first < t.ports → port_at t j ≡ port_at t i → ⊥
turn_apart t j i earlier within first same = elim (cases_lt (t.first + j) t.ports) [
  | inl j_low ↦
      let at_j : port_at t j ≡ t.first + j = cond-true _ _ _ (lt-ltb _ t.ports j_low) in
      elim (cases_lt (t.first + i) t.ports) [
        | inl i_low ↦
            let at_i : port_at t i ≡ t.first + i = cond-true _ _ _ (lt-ltb _ t.ports i_low) in
            let never : ⊥ = omega (arith, at_j, at_i, same, earlier) in never
        | inr i_high ↦
            let at_i : port_at t i ≡ t.first + i - t.ports = cond-false _ _ _ (le-ltb _ t.ports i_high) in
            let never : ⊥ = omega (arith, at_j, at_i, same, earlier, within, i_high) in never
      ]
  | inr j_high ↦
      let at_j : port_at t j ≡ t.first + j - t.ports = cond-false _ _ _ (le-ltb _ t.ports j_high) in
      let at_i : port_at t i ≡ t.first + i - t.ports = cond-false _ _ _ (le-ltb _ t.ports (let high : t.ports ≤ t.first + i = omega (arith, j_high, earlier) in high)) in
      let never : ⊥ = omega (arith, at_j, at_i, same, earlier, j_high) in never
]

-- ---- the grant

module _ (f : Fabric) (ok : IsFabric f) (old : Core) (s : IsSoundCore f old) (grant first : ℕ) (within : first < f.ports)
    (is : IsGrant (turn f old) (wants old) (held old.ports) grant) where
  bit_of : (m : ℕ) → (bit_at grant m == 1) ≡ true → bit_at grant m ≡ 1
  bit_of m test = eqb-true (bit_at grant m) 1 test

  is_port : (m : ℕ) → bit_at grant m ≡ 1 → m < f.ports
  is_port m bit = elim (cases_lt m f.ports) [
    | inl small ↦ small
    | inr large ↦ absurd (let none : bit_at grant m ≡ 0 = is.above m large in let never : ⊥ = omega (arith, bit, none) in never)
  ]

  -- A port that is granted finds its set free.
  free_of : (m set : ℕ) (t : IsTurnOf (turn f old) m) → bit_at grant m ≡ 1 → (port old m).phase ≡ Wants set → IsFree (turn f old) (wants old) (held old.ports) grant t.index set
  free_of m set t bit waits =
      let asks : wants old (port_at (turn f old) t.index) ≡ Some set = ap (λ k. wants old k) t.is ∙ ap wants_of waits in
      let bit_there : bit_at grant (port_at (turn f old) t.index) ≡ 1 = ap (λ k. bit_at grant k) t.is ∙ bit in
      ((is.decided t.index t.within).waiting set asks).0 bit_there

  -- a port that holds after the grant held before, or was granted what it waited for
  abbrev Origin : ℕ → ℕ → Type 0
  Origin m set = ((port old m).phase ≡ Holds set) ⊎ ((bit_at grant m ≡ 1) × ((port old m).phase ≡ Wants set))

  origin_at : (m set : ℕ) → (port (granted grant first old) m).phase ≡ Holds set → Origin m set
  origin_at m set holds =
      elim (origin_of (bit_at grant m == 1) (port old m).phase set (ap (λ (p : CorePort). p.phase) (sym (port-granted grant first old m)) ∙ holds)) [
        | inl was ↦ inl was
        | inr now ↦ inr (bit_of m now.0, now.1)
      ]

  apart_granted : (m n a b : ℕ) → m ≢ n → bit_at grant m ≡ 1 → (port old m).phase ≡ Wants a → bit_at grant n ≡ 1 → (port old n).phase ≡ Wants b → bit_and a b ≡ 0
  apart_granted m n a b differ bit_m wants_a bit_n wants_b =
      let t = turn_of (turn f old) m (is_port m bit_m) s.first in
      let u = turn_of (turn f old) n (is_port n bit_n) s.first in
      elim (cases_order t.index u.index) [
        | inl same ↦ absurd (differ (sym t.is ∙ ap (port_at (turn f old)) same ∙ u.is))
        | inr order ↦ elim order [
          | inl earlier ↦ (free_of n b u bit_n wants_b).apart t.index a earlier (ap (λ k. bit_at grant k) t.is ∙ bit_m) (ap (λ k. wants old k) t.is ∙ ap wants_of wants_a)
          | inr later ↦ and_comm a b ∙ (free_of m a t bit_m wants_a).apart u.index b later (ap (λ k. bit_at grant k) u.is ∙ bit_n) (ap (λ k. wants old k) u.is ∙ ap wants_of wants_b)
        ]
      ]

  apart_held : (m n a b : ℕ) → (port old m).phase ≡ Holds a → bit_at grant n ≡ 1 → (port old n).phase ≡ Wants b → bit_and a b ≡ 0
  apart_held m n a b holds_a bit_n wants_b =
      let u = turn_of (turn f old) n (is_port n bit_n) s.first in
      held_apart old.ports m a b holds_a (free_of n b u bit_n wants_b).unheld

  apart_by : (m n a b : ℕ) → m ≢ n → Origin m a → Origin n b → bit_and a b ≡ 0
  apart_by m n a b differ (inl x) (inl y) = s.apart m n a b differ x y
  apart_by m n a b differ (inl x) (inr y) = apart_held m n a b x y.0 y.1
  apart_by m n a b differ (inr x) (inl y) = and_comm a b ∙ apart_held n m b a y x.0 x.1
  apart_by m n a b differ (inr x) (inr y) = apart_granted m n a b differ x.0 x.1 y.0 y.1

  stand_at : (m : ℕ) → StandsIn f (port (granted grant first old) m).phase (port (granted grant first old) m)
  stand_at m = subst (λ p. StandsIn f p.phase p) (sym (port-granted grant first old m))
      (stands_same f _ (port old m) (with_phase (phase_after (bit_at grant m == 1) (port old m).phase) (port old m)) refl refl
      (stands_after f (bit_at grant m == 1) (port old m).phase (port old m) (s.stand m)))

  -- a port that waits has performed nothing
  waits_performed : (m set : ℕ) → (port old m).phase ≡ Wants set → performed (port old m) ≡ []
  waits_performed m set waits =
      let stands : StandsIn f (Wants set) (port old m) = subst (λ ph. StandsIn f ph (port old m)) waits (s.stand m) in
      none_performed (port old m) stands.0 stands.1

  origin_kept : (m set : ℕ) → Origin m set → ((port old m).phase ≡ Holds set) ⊎ (((t : ℕ) → (port old m).phase ≡ Holds t → ⊥) × (performed (port old m) ≡ []))
  origin_kept m set (inl was) = inl was
  origin_kept m set (inr now) = inr (λ t holds. (let never : Wants set ≡ Holds t = sym now.1 ∙ holds in cc), waits_performed m set now.1)

  granted_kept : IsKept f ok old (granted grant first old)
  granted_kept = record {
    journal = refl;
    contents = refl;
    operations = λ m. ap performed (port-granted grant first old m);
    replies = λ m. ap answered (port-granted grant first old m);
    kept = λ m set holds. ap (λ (p : CorePort). p.phase) (port-granted grant first old m) ∙ phase_kept (bit_at grant m == 1) (port old m).phase set holds;
    origin = λ m set holds. origin_kept m set (origin_at m set holds);
    apart = λ m n a b differ x y. apart_by m n a b differ (origin_at m a x) (origin_at n b y);
    stand = stand_at;
    queues = λ m. subst (λ p. IsQueue f p) (sym (port-granted grant first old m)) (queue_phase f _ (port old m) (s.queues m));
    ports = length-granted grant 0 old.ports ∙ s.ports;
    first = within;
  }

  -- Steps 1 and 2 keep the core sound.
  pub granted_sound : IsSoundCore f (granted grant first old)
  granted_sound = still_sound f ok old (granted grant first old) s granted_kept
