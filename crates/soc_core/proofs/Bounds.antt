-- When a port has all its answers.
use Rattle.std.proofs.Common.{◌≡◌, ◌≢◌, ◌↔◌, inl, inr, ℕ, zero, suc, ◌+◌, ◌-◌, ◌*◌, ◌<◌, ◌≤◌, ◌==◌, nat_lt, List, [], ◌∷◌, ◌++◌, length, map, drop, Bool, true, false, Option, Some, None, option_to_list, refl, ap, sym, ◌∙◌, subst, arith, mul-suc, mul_comm, bit_and}
use Rattle.std.specs.Int.{bit_at}
use Rattle.std.proofs.lemmas.Bool.{cases_eq, cases_lt, eqb-true, eqb-false, eq-eqb, lt-ltb, and_right, cond-true, cond-false}
use Rattle.wb_signals.specs.Request.{Request}
use Rattle.wb_signals.specs.Content.{Content}
use Rattle.wb_signals.specs.Slave.{Owed, sooner, left, owed_for, owed_after, is_stalled, queue_to}
use Rattle.soc_core.specs.Fabric.{Fabric, IsFabric}
use Rattle.wb_crossbar.specs.Grant.{port_at, IsFree, IsGrant}
use Rattle.soc_core.specs.Core.{Phase, Idle, Wants, Holds, Leaves, CorePort, Core, port, pending, head_of, offered, unless_stalled, sent_now, clocked, with_load, with_phase, phase_after, granted, loaded, raised_of, wants_of, wants, turn, held, CanLoad, IsTick, ticks_owed, ticks_left}
use Rattle.soc_core.specs.Events.{TicksLead}
use Rattle.soc_core.specs.Sound.{AreRising, IsQueue, IsSoundCore}
use Rattle.soc_core.proofs.Queues.{passing, left_by}
use Rattle.soc_core.proofs.Ports.{port_same, none_held}
use Rattle.soc_core.proofs.Clocks.{port-clocked}
use Rattle.soc_core.proofs.Grants.{port-granted, queue_phase, granted_sound, IsTurnOf, turn_of, turn_apart}
use Rattle.soc_core.proofs.Events.{none_long, load_sound}
use Rattle.soc_core.proofs.Ticks.{tick_sound}

-- ---- the ticks until the last owed answer

some_owed : (o : Owed) (os : List Owed) → 1 ≤ ticks_owed (o ∷ os)
some_owed o [] = omega arith
some_owed o (q ∷ os) = some_owed q os

pub none_owed : (os : List Owed) → ticks_owed os ≡ 0 → os ≡ []
none_owed [] is = refl
none_owed (o ∷ os) is = absurd (let some = some_owed o os in let never : ⊥ = omega (arith, some, is) in never)

ticks_owed-snoc : (xs : List Owed) (o : Owed) → ticks_owed (xs ++ o ∷ []) ≡ o.due + 1
ticks_owed-snoc [] o = refl
ticks_owed-snoc (x ∷ []) o = refl
ticks_owed-snoc (x ∷ y ∷ xs) o = ticks_owed-snoc (y ∷ xs) o

ticks_owed-sooner : (o : Owed) (os : List Owed) → AreRising 1 (o ∷ os) → ticks_owed (map sooner (o ∷ os)) + 1 ≡ ticks_owed (o ∷ os)
ticks_owed-sooner o [] rising = omega (arith, rising.0)
ticks_owed-sooner o (q ∷ os) rising =
    ticks_owed-sooner q os (let least : 1 ≤ q.due = omega (arith, rising.1.0) in (least, rising.1.1))

lower_by : (b : Bool) (o : Owed) (os : List Owed) → (o.due == 0) ≡ b → AreRising 0 (o ∷ os) → ticks_owed (left_by b o os) + 1 ≤ ticks_owed (o ∷ os)
lower_by true o [] test rising = omega arith
lower_by true o (q ∷ os) test rising =
    let zero_due : o.due ≡ 0 = eqb-true o.due 0 test in
    let least : 1 ≤ q.due = omega (arith, rising.1.0) in
    let e = ticks_owed-sooner q os (least, rising.1.1) in
    omega (arith, e)
lower_by false o os test rising =
    let some : o.due ≢ 0 = eqb-false o.due 0 test in
    let e = ticks_owed-sooner o os (let least : 1 ≤ o.due = omega (arith, some) in (least, rising.1)) in
    omega (arith, e)

-- Each tick brings the last owed answer a tick nearer.
pub lower_owed : (os : List Owed) → AreRising 0 os → ticks_owed (left os) ≤ ticks_owed os - 1
lower_owed [] rising = omega arith
lower_owed (o ∷ os) rising = let e = lower_by (o.due == 0) o os refl rising in omega (arith, e)

-- ---- the ticks that are left

-- where nothing is owed and an operation is unsent, it passes
head_some : (n : ℕ) (xs : List Request) → n < length xs → (r : Request) × (head_of (drop n xs) ≡ Some r)
head_some n [] within = absurd (let never : ⊥ = omega (arith, within) in never)
head_some zero (x ∷ xs) within = (x, refl)
head_some (suc n) (x ∷ xs) within = head_some n xs (omega (arith, within))

module _ (f : Fabric) (ok : IsFabric f) (p : CorePort) (q : IsQueue f p) where
  passes_free : p.owed ≡ [] → p.sent < length p.loaded → sent_now f p ≡ None → ⊥
  passes_free free unsent none =
      let head = head_some p.sent p.loaded unsent in
      let room : nat_lt (length p.owed) f.depth ≡ true = lt-ltb (length p.owed) f.depth (let l : length p.owed ≡ 0 = ap length free in let d = ok.some_depth in omega (arith, l, d)) in
      let drives : offered f p ≡ Some head.0 = cond-true _ _ _ room ∙ head.1 in
      let clear : is_stalled f.wiring p.owed head.0 ≡ false = ap (λ os. is_stalled f.wiring os head.0) free ∙ and_right (f.wiring.stalls (queue_to f.wiring head.0)) false refl in
      let goes : sent_now f p ≡ Some head.0 = ap (unless_stalled f.wiring p.owed) drives ∙ cond-false _ _ _ clear in
      let never : None ≡ Some head.0 = sym none ∙ goes in cc

  -- the ticks left after a clock in which this request passes, or none
  abbrev left_with : List Content → Option Request → ℕ
  left_with c o = (f.longest + 2) * (length p.loaded - (p.sent + length (option_to_list o))) + ticks_owed (owed_after f.wiring c p.owed o)

  left_none : (c : List Content) → sent_now f p ≡ None → left_with c None ≤ ticks_left f p - 1
  left_none c none =
      let same : (f.longest + 2) * (length p.loaded - (p.sent + 0)) ≡ (f.longest + 2) * (length p.loaded - p.sent)
      = ap (λ n. (f.longest + 2) * n) (let e : length p.loaded - (p.sent + 0) ≡ length p.loaded - p.sent = omega arith in e) in
      let lower = lower_owed p.owed q.rising in
      elim (cases_eq (ticks_owed p.owed) 0) [
        | inl free ↦
            elim (cases_lt p.sent (length p.loaded)) [
              | inl unsent ↦ absurd (passes_free (none_owed p.owed free) unsent none)
              | inr all ↦
                  let zero_left : (f.longest + 2) * (length p.loaded - p.sent) ≡ (f.longest + 2) * 0 = ap (λ n. (f.longest + 2) * n) (let e : length p.loaded - p.sent ≡ 0 = omega (arith, all) in e) in
                  omega (arith, same, zero_left, lower, free)
            ]
        | inr some ↦ omega (arith, same, lower, some)
      ]

  left_some : (c : List Content) (r : Request) → p.sent < length p.loaded → left_with c (Some r) ≤ ticks_left f p - 1
  left_some c r unsent =
      let j : ℕ = length p.loaded - (p.sent + 1) in
      let more : length p.loaded - p.sent ≡ suc j = omega (arith, unsent) in
      let product : (f.longest + 2) * (length p.loaded - p.sent) ≡ (f.longest + 2) * j + (f.longest + 2) = ap (λ n. (f.longest + 2) * n) more ∙ mul-suc (f.longest + 2) j in
      let last = ticks_owed-snoc (left p.owed) (owed_for f.wiring c r) in
      let wait = ok.waits r in
      omega (arith, product, last, wait)

  -- Each tick lowers the ticks that are left, while there are any.
  pub ticks_left-clocked : (c : List Content) → ticks_left f (clocked f c p) ≤ ticks_left f p - 1
  ticks_left-clocked c = elim (passing f p) [
    | inl none ↦ subst (λ o. left_with c o ≤ ticks_left f p - 1) (sym none) (left_none c none)
    | inr some ↦ subst (λ o. left_with c o ≤ ticks_left f p - 1) (sym some.1.is) (left_some c some.0 some.1.within)
  ]

  -- None is left exactly where no operation is pending.
  pub ticks_left-pending : (ticks_left f p ≡ 0) ↔ (pending p ≡ 0)
  ticks_left-pending = (forth, back)
    where
      forth : ticks_left f p ≡ 0 → pending p ≡ 0
      forth none =
          let free : p.owed ≡ [] = none_owed p.owed (omega (arith, none)) in
          let l : length p.owed ≡ 0 = ap length free in
          elim (cases_lt p.sent (length p.loaded)) [
            | inl unsent ↦ absurd (
                let j : ℕ = length p.loaded - (p.sent + 1) in
                let more : length p.loaded - p.sent ≡ suc j = omega (arith, unsent) in
                let product : (f.longest + 2) * (length p.loaded - p.sent) ≡ (f.longest + 2) * j + (f.longest + 2) = ap (λ n. (f.longest + 2) * n) more ∙ mul-suc (f.longest + 2) j in
                let never : ⊥ = omega (arith, product, none) in never)
            | inr all ↦ omega (arith, q.counted, q.sent, l, all)
          ]

      back : pending p ≡ 0 → ticks_left f p ≡ 0
      back none =
          let l : length p.owed ≡ 0 = omega (arith, q.counted, q.sent, none) in
          let t : ticks_owed p.owed ≡ 0 = ap ticks_owed (none_long p.owed l) in
          let zero_left : (f.longest + 2) * (length p.loaded - p.sent) ≡ (f.longest + 2) * 0 = ap (λ n. (f.longest + 2) * n) (let e : length p.loaded - p.sent ≡ 0 = omega (arith, q.counted, q.sent, none) in e) in
          omega (arith, zero_left, t)

-- A load makes it so many.
pub ticks_left-load : (f : Fabric) (ops : List Request) (p : CorePort) → ticks_left f (with_load ops p) ≡ length ops * (f.longest + 2)
ticks_left-load f ops p =
    let whole : (f.longest + 2) * (length ops - 0) ≡ (f.longest + 2) * length ops = ap (λ n. (f.longest + 2) * n) (let e : length ops - 0 ≡ length ops = omega arith in e) in
    let turned = mul_comm (f.longest + 2) (length ops) in
    let total : (f.longest + 2) * (length ops - 0) + 0 ≡ length ops * (f.longest + 2) = omega (arith, whole, turned) in
    total

-- ---- ticks of the core

module _ (f : Fabric) (ok : IsFabric f) where
  -- A port after a tick: its phase as granted, and then one clock.
  pub port-tick : (old new : Core) → IsSoundCore f old → (t : IsTick f old new) → (m : ℕ)
      → port new m ≡ clocked f old.contents (with_phase (phase_after (bit_at t.grant m == 1) (port old m).phase) (port old m))
  port-tick old new s t m =
      ap (λ x. port x m) t.core
      ∙ port-clocked f ok (granted t.grant t.first old) (granted_sound f ok old s t.grant t.first t.is_next.within t.is_grant) m
      ∙ ap (clocked f old.contents) (port-granted t.grant t.first old m)

  -- Each tick lowers the ticks that a port has left, while there are any.
  pub tick_lowers : (old new : Core) → IsSoundCore f old → IsTick f old new → (m : ℕ) → ticks_left f (port new m) ≤ ticks_left f (port old m) - 1
  tick_lowers old new s t m =
      subst (λ x. ticks_left f x ≤ ticks_left f (port old m) - 1) (sym (port-tick old new s t m))
      (ticks_left-clocked f ok (with_phase ph (port old m)) (queue_phase f ph (port old m) (s.queues m)) old.contents)
    where
      ph : Phase
      ph = phase_after (bit_at t.grant m == 1) (port old m).phase

  pub ticks_lower : (n : ℕ) (old new : Core) → IsSoundCore f old → TicksLead f n old new → (m : ℕ) → ticks_left f (port new m) ≤ ticks_left f (port old m) - n
  ticks_lower zero old new s leads m = subst (λ x. ticks_left f (port x m) ≤ ticks_left f (port old m) - 0) (sym leads) (omega arith)
  ticks_lower (suc n) old new s leads m =
      let one = tick_lowers old leads.0 s leads.1 m in
      let more = ticks_lower n leads.0 new (tick_sound f ok old leads.0 s leads.1) leads.2 m in
      omega (arith, one, more)

  -- A load of n operations has all its answers after n times the greatest path wait and 2 ticks.
  pub load_bound : (old new : Core) (m : ℕ) (ops : List Request) → IsSoundCore f old → CanLoad f old m ops
      → TicksLead f (length ops * (f.longest + 2)) (loaded old m ops) new → pending (port new m) ≡ 0
  load_bound old new m ops s can leads =
      let within : m < length old.ports = subst (λ n. m < n) (sym s.ports) can.within in
      let sound = load_sound f ok old s m ops can in
      let began : ticks_left f (port (loaded old m ops) m) ≡ length ops * (f.longest + 2)
      = ap (ticks_left f) (port_same old.ports m (with_load ops (port old m)) within) ∙ ticks_left-load f ops (port old m) in
      let lower = ticks_lower (length ops * (f.longest + 2)) (loaded old m ops) new sound leads m in
      let last = ticks_sound (length ops * (f.longest + 2)) (loaded old m ops) new sound leads in
      (ticks_left-pending f ok (port new m) (last.queues m)).0 (omega (arith, began, lower))
    where
      ticks_sound : (n : ℕ) (old new : Core) → IsSoundCore f old → TicksLead f n old new → IsSoundCore f new
      ticks_sound zero old new s leads = subst (IsSoundCore f) (sym leads) s
      ticks_sound (suc n) old new s leads = ticks_sound n leads.0 new (tick_sound f ok old leads.0 s leads.1) leads.2

  -- ---- a lone port is granted

  -- No other port waits or holds.
  abbrev pub IsAlone : Core → ℕ → Type 0
  IsAlone core m = (n : ℕ) → n ≢ m → raised_of (port core n).phase ≡ None

  -- The arbiter grants a port that waits alone.
  pub alone_bit : (old : Core) (m set grant : ℕ) → IsSoundCore f old → m < f.ports → (port old m).phase ≡ Wants set → IsAlone old m
      → IsGrant (turn f old) (wants old) (held old.ports) grant → (bit_at grant m == 1) ≡ true
  alone_bit old m set grant s within waits alone is_grant = eq-eqb (bit_at grant m) 1 bit_there
    where
      none_holds : (n u : ℕ) → (port old n).phase ≡ Holds u → ⊥
      none_holds n u holds = elim (cases_eq n m) [
        | inl same ↦ (let never : Wants set ≡ Holds u = sym waits ∙ ap (λ i. (port old i).phase) (sym same) ∙ holds in cc)
        | inr other ↦ (let never : None ≡ Some u = sym (alone n other) ∙ ap raised_of holds in cc)
      ]

      at_turn : IsTurnOf (turn f old) m
      at_turn = turn_of (turn f old) m within s.first

      wants_none : (ph : Phase) → raised_of ph ≡ None → wants_of ph ≡ None
      wants_none Idle e = refl
      wants_none (Wants u) e = absurd (let never : Some u ≡ None = e in cc)
      wants_none (Holds u) e = refl
      wants_none Leaves e = refl

      free : IsFree (turn f old) (wants old) (held old.ports) grant at_turn.index set
      free = record {
        unheld = ap (λ x. bit_and x set) (none_held old.ports none_holds);
        apart = λ j other earlier bit asks. elim (cases_eq (port_at (turn f old) j) m) [
          | inl same ↦ absurd (turn_apart (turn f old) j at_turn.index earlier at_turn.within s.first (same ∙ sym at_turn.is))
          | inr differ ↦ absurd (let never : None ≡ Some other = sym (wants_none (port old (port_at (turn f old) j)).phase (alone (port_at (turn f old) j) differ)) ∙ asks in cc)
        ];
      }

      asks_there : wants old (port_at (turn f old) at_turn.index) ≡ Some set
      asks_there = ap (λ k. wants old k) at_turn.is ∙ ap wants_of waits

      bit_there : bit_at grant m ≡ 1
      bit_there = ap (bit_at grant) (sym at_turn.is) ∙ ((is_grant.decided at_turn.index at_turn.within).waiting set asks_there).1 free

  pub alone_granted : (old new : Core) (m set : ℕ) → IsSoundCore f old → m < f.ports → (port old m).phase ≡ Wants set → IsAlone old m → IsTick f old new
      → (port new m).phase ≡ Holds set
  alone_granted old new m set s within waits alone t =
      ap (λ (p : CorePort). p.phase) (port-tick old new s t m) ∙ ap (phase_after (bit_at t.grant m == 1)) waits
      ∙ ap (λ b. phase_after b (Wants set)) (alone_bit old m set t.grant s within waits alone t.is_grant)
