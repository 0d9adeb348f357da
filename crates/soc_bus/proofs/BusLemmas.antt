-- The calls of a bus are the events of its core.
use Rattle.std.proofs.Common.{◌≡◌, ◌≢◌, inl, inr, ℕ, zero, suc, ◌+◌, ◌<◌, ◌≤◌, List, [], ◌∷◌, ◌++◌, length, get_or, set, map, Bool, Result, Ok, Err, OnErr, Option, refl, ap, sym, ◌∙◌, subst, arith, All}
use Rattle.std.proofs.lemmas.List.{map-set, length-map, length-set, get_or-set_other, get_or-set_same, set-get_or, get_or_default}
use Rattle.std.proofs.lemmas.List.Elements.{All-set}
use Rattle.std.proofs.lemmas.Bool.{cases_eq}
use Rattle.eb_base.specs.declared.width.Width.TheVariants.{W32}
use Rattle.soc_desc.specs.declared.description.Description.{Description}
use Rattle.wb_signals.specs.Request.{Request}
use Rattle.wb_signals.specs.Bus.{Child}
use Rattle.wb_signals.specs.Cycles.{paired, made_with}
use Rattle.wb_signals.specs.History.{contents_after}
use Rattle.wb_signals.specs.Slave.{Owed}
use Rattle.wb_signals.specs.declared.port_row.PortRow.{PortRow}
use Rattle.wb_port.specs.Port as engine
use Rattle.wb_crossbar.specs.Grant.{Turn, IsGrant, IsNext}
use Rattle.wb_crossbar.specs.Crossbar.{CrossbarState, wiring_of, rows_after, owed_after_all, after_tick}
use Rattle.wb_crossbar.specs.Crossbar as crossbar
use Rattle.soc_journal.specs.Journal.{JournalState}
use Rattle.soc_core.specs.Fabric.{Fabric, IsFabric}
use Rattle.soc_core.specs.Built.{fabric_of}
use Rattle.soc_core.specs.Core.{Idle, Wants, Leaves, CorePort, Core, port, resting_port, unloaded, with_port, with_phase, with_load, with_taken, raised, loaded, taken, released, turn, wants, held, granted_from, granted, clocked, clocked_core, all_sent, pending, CanRaise, CanLoad, CanTake, CanRelease, IsTick}
use Rattle.soc_core.specs.Sound.{StandsIn, IsSoundCore, HasSpare}
use Rattle.soc_bus.specs.View.{CycleView, states, rooms, with_queue, joined, BusState, bus_state, IsBus, IsMadeOf, wanting}
use Rattle.soc_bus.specs.Clocked.{driven_rows, sampled_all, AreServed}
use Rattle.soc_wave.specs.Shown.{port_row, holders_from, ShowsTick}
use Rattle.soc_core.proofs.Events.{unloaded_is, answered_is, raise_sound, load_sound, take_sound}
use Rattle.soc_core.proofs.Releases.{release_sound}
use Rattle.soc_core.proofs.Grants.{granted_sound}
use Rattle.soc_core.proofs.Ticks.{tick_sound}
use Rattle.soc_core.proofs.Rooms.{busy, one_if, one_if_busy, busy_idle, tick_room, raise_room, load_room, take_room, release_room}
use Rattle.soc_bus.proofs.CycleLists.{length-granted}
use Rattle.soc_bus.proofs.ServedLemmas.{length-sampled, length-rows, length-owed}
use Rattle.soc_bus.proofs.Joined.{joined-set, joined-get, joined-granted, joined-held, joined-wants, joined-clocked, joined-passed, Matches}
use Rattle.soc_bus.proofs.Serving.{served, matching}
use Rattle.soc_bus.proofs.ShownLemmas.{rows_shown, holders_shown}
use Rattle.soc_machine.specs.Described.{described_wiring}

abbrev pub no_cycle : CycleView
no_cycle = record { state = resting_port; room = 0 }

abbrev pub no_engine : engine.PortState
no_engine = record { depth = 0; loaded = []; passed = 0; answers = [] }

pub on_err : {A E : Type 0} (r : Result A E) (P : Type 0) → P → OnErr r P
on_err (Ok x) P p = tt
on_err (Err e) P p = p

others_room : (cs : List CycleView) (m : ℕ) (q : CycleView) (n : ℕ) → n ≢ m → get_or (rooms cs) n 0 ≤ get_or (rooms (set cs m q)) n 0
others_room cs m q n other =
    let same : get_or (rooms (set cs m q)) n 0 ≡ get_or (rooms cs) n 0 =
    ap (λ xs. get_or xs n 0) (map-set (λ (p : CycleView). p.room) cs m q) ∙ get_or-set_other (rooms cs) m n q.room 0 other in
    omega (arith, same)

own_room : (cs : List CycleView) (m : ℕ) (q : CycleView) → m < length cs → get_or (rooms (set cs m q)) m 0 ≡ q.room
own_room cs m q within =
    ap (λ xs. get_or xs m 0) (map-set (λ (p : CycleView). p.room) cs m q)
    ∙ get_or-set_same (rooms cs) m q.room 0 (let l = length-map cs (λ (p : CycleView). p.room) in omega (arith, l, within))

get-rooms : (cs : List CycleView) (m : ℕ) (r : CycleView) → m < length cs → r ≡ get_or cs m r → get_or (rooms cs) m 0 ≡ r.room
get-rooms [] m r within is = absurd (let never : ⊥ = omega (arith, within) in never)
get-rooms (p ∷ cs) zero r within is = ap (λ (x : CycleView). x.room) (sym is)
get-rooms (p ∷ cs) (suc m) r within is = get-rooms cs m r (omega (arith, within)) is

get-states : (cs : List CycleView) (m : ℕ) (r : CycleView) → m < length cs → r ≡ get_or cs m r → get_or (states cs) m resting_port ≡ r.state
get-states [] m r within is = absurd (let never : ⊥ = omega (arith, within) in never)
get-states (p ∷ cs) zero r within is = ap (λ (x : CycleView). x.state) (sym is)
get-states (p ∷ cs) (suc m) r within is = get-states cs m r (omega (arith, within)) is

pub same_engine : (m : ℕ) (ps : List engine.PortState) (a b : engine.PortState) → m < length ps → a ≡ get_or ps m a → b ≡ get_or ps m b → a ≡ b
same_engine m ps a b within is_a is_b = is_a ∙ get_or_default ps m a b within ∙ sym is_b

driven_long : (cs : List CorePort) (ps : List engine.PortState) → length cs ≡ length ps → length (driven_rows cs ps) ≡ length ps
driven_long cs [] h = refl
driven_long [] (p ∷ ps) h = absurd (omega (arith, h))
driven_long (c ∷ cs) (p ∷ ps) h = ap (λ (n : ℕ). suc n) (driven_long cs ps (omega (arith, h)))

deep-sampled : (depth : ℕ) (ps : List engine.PortState) (rows : List PortRow) → All (λ (p : engine.PortState). p.depth ≡ depth) ps → All (λ (p : engine.PortState). p.depth ≡ depth) (sampled_all ps rows)
deep-sampled depth [] rows deep k e l = absurd (let no : ⊥ = omega (arith, l) in no)
deep-sampled depth (p ∷ ps) [] deep k e l = absurd (let no : ⊥ = omega (arith, l) in no)
deep-sampled depth (p ∷ ps) (row ∷ rows) deep zero e l = deep 0 e (omega arith)
deep-sampled depth (p ∷ ps) (row ∷ rows) deep (suc k) e l = deep-sampled depth ps rows (λ i a m. deep (suc i) a (omega (arith, m))) k e (omega (arith, l))

module _ (d : Description) (x : CrossbarState) (cs : List CycleView) (ps : List engine.PortState) (arb : Turn) (j : JournalState)
    (ok : IsBus (bus_state d x cs ps arb j)) (made : IsMadeOf d x cs ps arb) where
  abbrev f : Fabric
  f = fabric_of d

  abbrev core : Core
  core = (bus_state d x cs ps arb j).core

  long_states : length (states cs) ≡ f.ports
  long_states = length-map cs (λ (p : CycleView). p.state) ∙ made.cycles

  long_ports : length ps ≡ length (states cs)
  long_ports = made.ports ∙ sym long_states

  long_owed : length x.owed ≡ length (states cs)
  long_owed = made.owed ∙ sym long_states

  pub holders_now : (n : ℕ) → holders_from (states cs) 0 n ≡ holders_from core.ports 0 n
  holders_now n = holders_shown (states cs) ps x.owed 0 n long_ports long_owed

  abbrev owed_to : ℕ → List Owed
  owed_to m = get_or x.owed m []

  -- A cycle, its engine and the journal's room have changed.
  one_core : (m : ℕ) (q : CycleView) (e : engine.PortState) (p : CorePort) (k : JournalState) → with_queue q.state e (owed_to m) ≡ p → k.entries ≡ j.entries
      → (bus_state d x (set cs m q) (set ps m e) arb k).core ≡ with_port core m p
  one_core m q e p k same entries =
      let ports = ap (λ ss. joined ss (set ps m e) x.owed) (map-set (λ (c : CycleView). c.state) cs m q) ∙ joined-set (states cs) ps x.owed m q.state e
      ∙ ap (λ y. set (joined (states cs) ps x.owed) m y) same in
      λ i. record { ports = ports i; contents = x.contents; first = arb.first; journal = entries i }

  -- what the port was
  pub was : (m : ℕ) (r : CycleView) (e : engine.PortState) → m < f.ports → r ≡ get_or cs m r → e ≡ get_or ps m e → port core m ≡ with_queue r.state e (owed_to m)
  was m r e within is is_e =
      let l = long_states in
      joined-get (states cs) ps x.owed m resting_port e long_ports long_owed (omega (arith, l, within))
      ∙ ap (λ c. with_queue c (get_or ps m e) (owed_to m)) (get-states cs m r (let n = made.cycles in omega (arith, n, within)) is)
      ∙ ap (λ p. with_queue r.state p (owed_to m)) (sym is_e)

  pub cycle_is : (m : ℕ) (r : CycleView) → m < f.ports → r ≡ get_or cs m r → with_queue r.state (get_or ps m no_engine) (owed_to m) ≡ port core m
  cycle_is m r within is =
      sym (was m r (get_or ps m no_engine) within is (get_or_default ps m no_engine (get_or ps m no_engine) (let n = made.ports in omega (arith, n, within))))

  pub engine_is : (m : ℕ) (e : engine.PortState) → m < f.ports → e ≡ get_or ps m e → with_queue (get_or cs m no_cycle).state e (owed_to m) ≡ port core m
  engine_is m e within is =
      sym (was m (get_or cs m no_cycle) e within (get_or_default cs m no_cycle (get_or cs m no_cycle) (let n = made.cycles in omega (arith, n, within))) is)

  pub answered_all : (m : ℕ) (e : engine.PortState) → m < f.ports → e ≡ get_or ps m e → pending (port core m) ≡ 0 → (i : ℕ) → i < length (port core m).loaded → i < length e.answers
  answered_all m e within is none i below =
      let n = answered_is f (port core m) (ok.sound.queues m) none in
      let got : length (port core m).got ≡ length e.answers = ap (λ (p : CorePort). length p.got) (sym (engine_is m e within is)) in
      (let g = n.got in omega (arith, below, g, got))

  made_after : (m : ℕ) (q : CycleView) (e : engine.PortState) → e.depth ≡ d.depth → IsMadeOf d x (set cs m q) (set ps m e) arb
  made_after m q e deep = record {
    width = made.width;
    slaves = made.slaves;
    wiring = made.wiring;
    cycles = length-set cs m q ∙ made.cycles;
    ports = length-set ps m e ∙ made.ports;
    owed = made.owed;
    deep = All-set (λ (p : engine.PortState). p.depth ≡ d.depth) ps m e deep made.deep;
    turn = made.turn;
  }

  deep_at : (m : ℕ) (e : engine.PortState) → m < f.ports → e ≡ get_or ps m e → e.depth ≡ d.depth
  deep_at m e within is = ap (λ (p : engine.PortState). p.depth) is ∙ made.deep m e (let n = made.ports in omega (arith, n, within))

  -- The rest of what is kept, of a core by another name.
  kept : (b : BusState) (new : Core) → b.description ≡ d → b.core ≡ new → IsSoundCore f new → HasSpare new b.room → IsBus b
  kept b new same_d same sound room = record {
    fabric = subst (λ x. IsFabric (fabric_of x)) (sym same_d) ok.fabric;
    few = subst (λ (x : Description). x.masters ≤ 16) (sym same_d) ok.few;
    width = subst (λ (x : Description). (described_wiring x).bus ≡ W32) (sym same_d) ok.width;
    sound = subst (λ x. IsSoundCore (fabric_of x) b.core) (sym same_d) (subst (IsSoundCore f) (sym same) sound);
    room = subst (λ x. HasSpare x b.room) (sym same) room;
  }

  few_cycles : (m : ℕ) → m < f.ports → m < length cs
  few_cycles m within = let n = made.cycles in omega (arith, n, within)

  in_core : (m : ℕ) → m < f.ports → m < length core.ports
  in_core m within = subst (λ n. m < n) (sym ok.sound.ports) within

  -- ---- raise

  module _ (m set_ : ℕ) (r q : CycleView) (k : JournalState) (can : CanRaise f core m set_) (is : r ≡ get_or cs m r)
      (state : q.state ≡ with_phase (Wants set_) r.state) (entries : k.entries ≡ j.entries) where
    abbrev raising : engine.PortState
    raising = get_or ps m no_engine

    raising_is : raising ≡ get_or ps m raising
    raising_is = get_or_default ps m no_engine raising (let n = made.ports in let w = can.within in omega (arith, n, w))

    same_ports : set ps m raising ≡ ps
    same_ports = set-get_or ps m no_engine

    raise_port : with_queue q.state raising (owed_to m) ≡ unloaded (Wants set_) []
    raise_port =
        let idle : StandsIn f Idle (port core m) = subst (λ ph. StandsIn f ph (port core m)) can.idle (ok.sound.stand m) in
        let u = unloaded_is f (port core m) (ok.sound.queues m) idle.1 in
        let w = was m r raising can.within is raising_is in
        let opened : r.state.opened ≡ [] = ap (λ (p : CorePort). p.opened) (sym w) ∙ idle.0 in
        let none : raising.loaded ≡ [] = ap (λ (p : CorePort). p.loaded) (sym w) ∙ idle.1 in
        let sent : raising.passed ≡ 0 = ap (λ (p : CorePort). p.sent) (sym w) ∙ u.sent in
        let got : raising.answers ≡ [] = ap (λ (p : CorePort). p.got) (sym w) ∙ u.got in
        let owed : owed_to m ≡ [] = ap (λ (p : CorePort). p.owed) (sym w) ∙ u.owed in
        ap (λ c. with_queue c raising (owed_to m)) state
        ∙ (λ i. record { phase = Wants set_; opened = opened i; loaded = none i; sent = sent i; got = got i; owed = owed i })

    pub raise_core : (bus_state d x (set cs m q) ps arb k).core ≡ raised core m set_
    raise_core = ap (λ es. (bus_state d x (set cs m q) es arb k).core) (sym same_ports) ∙ one_core m q raising (unloaded (Wants set_) []) k raise_port entries

    pub raise_bus : length cs ≤ k.spare → IsBus (bus_state d x (set cs m q) ps arb k)
    raise_bus enough =
        let sound = raise_sound f ok.fabric core ok.sound m set_ can in
        let not_busy : one_if_busy (port core m) ≡ 0 = ap one_if can.idle in
        let few : busy core.ports + 1 ≤ length core.ports = busy_idle core.ports m (in_core m can.within) not_busy in
        let spare : busy core.ports + 1 ≤ k.spare = (let l = ok.sound.ports in let n = made.cycles in omega (arith, few, l, n, enough)) in
        kept (bus_state d x (set cs m q) ps arb k) (raised core m set_) refl raise_core sound
        (raise_room f core m set_ (bus_state d x cs ps arb j).room (bus_state d x (set cs m q) ps arb k).room ok.sound can ok.room (others_room cs m q) spare)

    pub raise_made : IsMadeOf d x (set cs m q) ps arb
    raise_made = subst (λ es. IsMadeOf d x (set cs m q) es arb) same_ports (made_after m q raising (deep_at m raising can.within raising_is))

  -- ---- load

  pub load_nothing : (m : ℕ) (ops : List Request) (r : CycleView) (e : engine.PortState) → CanLoad f core m ops → r ≡ get_or cs m r → e ≡ get_or ps m e → e.loaded ≡ []
  load_nothing m ops r e can is is_e = ap (λ (p : CorePort). p.loaded) (sym (was m r e can.within is is_e)) ∙ can.nothing

  module _ (m : ℕ) (ops : List Request) (r q : CycleView) (e g : engine.PortState) (can : CanLoad f core m ops) (is : r ≡ get_or cs m r) (is_e : e ≡ get_or ps m e)
      (state : q.state ≡ r.state) (enough : length ops ≤ q.room) (load : g ≡ record { depth = e.depth; loaded = ops; passed = 0; answers = [] }) where
    load_port : with_queue q.state g (owed_to m) ≡ with_load ops (port core m)
    load_port =
        let u = unloaded_is f (port core m) (ok.sound.queues m) can.nothing in
        let w = was m r e can.within is is_e in
        let owed : owed_to m ≡ [] = ap (λ (p : CorePort). p.owed) (sym w) ∙ u.owed in
        ap (λ c. with_queue c g (owed_to m)) state ∙ ap (λ p. with_queue r.state p (owed_to m)) load
        ∙ ap (λ os. with_queue r.state (let p : engine.PortState = record { depth = e.depth; loaded = ops; passed = 0; answers = [] } in p) os) owed
        ∙ ap (with_load ops) (sym w)

    pub load_core : (bus_state d x (set cs m q) (set ps m g) arb j).core ≡ loaded core m ops
    load_core = one_core m q g (with_load ops (port core m)) j load_port refl

    pub load_bus : IsBus (bus_state d x (set cs m q) (set ps m g) arb j)
    load_bus =
        kept (bus_state d x (set cs m q) (set ps m g) arb j) (loaded core m ops) refl load_core (load_sound f ok.fabric core ok.sound m ops can)
        (load_room f core m ops (bus_state d x cs ps arb j).room (bus_state d x (set cs m q) (set ps m g) arb j).room ok.sound can ok.room (others_room cs m q)
        (let own = own_room cs m q (few_cycles m can.within) in omega (arith, own, enough)) (omega arith))

    pub load_made : IsMadeOf d x (set cs m q) (set ps m g) arb
    load_made = made_after m q g (ap (λ (p : engine.PortState). p.depth) load ∙ deep_at m e can.within is_e)

  -- ---- a refused load

  module _ (m : ℕ) (r q : CycleView) (within : m < f.ports) (is : r ≡ get_or cs m r) (state : q.state ≡ r.state) (more : r.room ≤ q.room) where
    abbrev still : engine.PortState
    still = get_or ps m no_engine

    still_is : still ≡ get_or ps m still
    still_is = get_or_default ps m no_engine still (let n = made.ports in omega (arith, n, within))

    still_ports : set ps m still ≡ ps
    still_ports = set-get_or ps m no_engine

    pub same_core : (bus_state d x (set cs m q) ps arb j).core ≡ core
    same_core =
        ap (λ es. (bus_state d x (set cs m q) es arb j).core) (sym still_ports)
        ∙ one_core m q still (port core m) j (ap (λ c. with_queue c still (owed_to m)) state ∙ sym (was m r still within is still_is)) refl
        ∙ ap (λ qs. let c : Core = record { ports = qs; contents = x.contents; first = arb.first; journal = j.entries } in c) (set-get_or core.ports m resting_port)

    pub same_bus : IsBus (bus_state d x (set cs m q) ps arb j)
    same_bus =
        let long_enough : m < length cs = few_cycles m within in
        kept (bus_state d x (set cs m q) ps arb j) core refl same_core ok.sound (record {
          entries = ok.room.entries;
          pairs = λ n. elim (cases_eq n m) [
            | inl here ↦ subst (λ i. length (port core i).loaded ≤ get_or (rooms (set cs m q)) i 0) (sym here)
                (let a = ok.room.pairs m in let b = own_room cs m q long_enough in let e = get-rooms cs m r long_enough is in omega (arith, a, b, e, more))
            | inr other ↦ (let a = ok.room.pairs n in let b = others_room cs m q n other in omega (arith, a, b))
          ];
        })

    pub same_made : IsMadeOf d x (set cs m q) ps arb
    same_made = subst (λ es. IsMadeOf d x (set cs m q) es arb) still_ports (made_after m q still (deep_at m still within still_is))

  -- ---- take

  module _ (m : ℕ) (r : CycleView) (e : engine.PortState) (can : CanTake f core m) (is : r ≡ get_or cs m r) (is_e : e ≡ get_or ps m e) where
    pub take_answered : length e.answers ≡ length e.loaded
    take_answered = (answered_of (was m r e can.within is is_e))
      where
        answered_of : port core m ≡ with_queue r.state e (owed_to m) → length e.answers ≡ length e.loaded
        answered_of w =
            let n = answered_is f (port core m) (ok.sound.queues m) can.none_pending in
            ap (λ (p : CorePort). length p.got) (sym w) ∙ n.got ∙ ap (λ (p : CorePort). length p.loaded) w

    pub take_enough : length e.loaded ≤ r.room
    take_enough =
        let w : length (port core m).loaded ≡ length e.loaded = ap (λ (p : CorePort). length p.loaded) (was m r e can.within is is_e) in
        let a = ok.room.pairs m in let b = get-rooms cs m r (few_cycles m can.within) is in
        omega (arith, a, b, w)

    module _ (q : CycleView) (g : engine.PortState) (state : q.state ≡ unloaded r.state.phase (r.state.opened ++ paired e.loaded e.answers)) (clear : g ≡ engine.idle_port e.depth) where
      take_port : with_queue q.state g (owed_to m) ≡ with_taken (port core m)
      take_port =
          let w = was m r e can.within is is_e in
          let n = answered_is f (port core m) (ok.sound.queues m) can.none_pending in
          let owed : owed_to m ≡ [] = ap (λ (p : CorePort). p.owed) (sym w) ∙ n.owed in
          ap (λ c. with_queue c g (owed_to m)) state
          ∙ ap (λ p. with_queue (unloaded r.state.phase (r.state.opened ++ paired e.loaded e.answers)) p (owed_to m)) clear
          ∙ ap (λ os. with_queue (unloaded r.state.phase (r.state.opened ++ paired e.loaded e.answers)) (engine.idle_port e.depth) os) owed
          ∙ ap with_taken (sym w)

      pub take_core : (bus_state d x (set cs m q) (set ps m g) arb j).core ≡ taken core m
      take_core = one_core m q g (with_taken (port core m)) j take_port refl

      pub take_bus : IsBus (bus_state d x (set cs m q) (set ps m g) arb j)
      take_bus =
          kept (bus_state d x (set cs m q) (set ps m g) arb j) (taken core m) refl take_core (take_sound f ok.fabric core ok.sound m can)
          (take_room f core m (bus_state d x cs ps arb j).room (bus_state d x (set cs m q) (set ps m g) arb j).room ok.sound can ok.room (others_room cs m q) (omega arith))

      pub take_made : IsMadeOf d x (set cs m q) (set ps m g) arb
      take_made = made_after m q g (ap (λ (p : engine.PortState). p.depth) clear ∙ deep_at m e can.within is_e)

  -- ---- release

  module _ (m : ℕ) (cut : Bool) (r q : CycleView) (k : JournalState) (can : CanRelease f core m) (is : r ≡ get_or cs m r)
      (state : q.state ≡ unloaded Leaves []) (entries : k.entries ≡ made_with m cut j.entries r.state.opened) where
    abbrev ending : engine.PortState
    ending = get_or ps m no_engine

    ending_is : ending ≡ get_or ps m ending
    ending_is = get_or_default ps m no_engine ending (let n = made.ports in let w = can.within in omega (arith, n, w))

    ending_ports : set ps m ending ≡ ps
    ending_ports = set-get_or ps m no_engine

    release_port : with_queue q.state ending (owed_to m) ≡ unloaded Leaves []
    release_port =
        let u = unloaded_is f (port core m) (ok.sound.queues m) can.nothing in
        let w = was m r ending can.within is ending_is in
        let none : ending.loaded ≡ [] = ap (λ (p : CorePort). p.loaded) (sym w) ∙ can.nothing in
        let sent : ending.passed ≡ 0 = ap (λ (p : CorePort). p.sent) (sym w) ∙ u.sent in
        let got : ending.answers ≡ [] = ap (λ (p : CorePort). p.got) (sym w) ∙ u.got in
        let owed : owed_to m ≡ [] = ap (λ (p : CorePort). p.owed) (sym w) ∙ u.owed in
        ap (λ c. with_queue c ending (owed_to m)) state
        ∙ (λ i. record { phase = Leaves; opened = []; loaded = none i; sent = sent i; got = got i; owed = owed i })

    pub release_core : (bus_state d x (set cs m q) ps arb k).core ≡ released core m cut
    release_core =
        let ports : joined (states (set cs m q)) ps x.owed ≡ set core.ports m (unloaded Leaves []) =
        ap (λ es. joined (states (set cs m q)) es x.owed) (sym ending_ports)
        ∙ ap (λ ss. joined ss (set ps m ending) x.owed) (map-set (λ (c : CycleView). c.state) cs m q) ∙ joined-set (states cs) ps x.owed m q.state ending
        ∙ ap (λ y. set core.ports m y) release_port in
        let all_entries = entries ∙ ap (λ (p : CorePort). made_with m cut j.entries p.opened) (sym (was m r ending can.within is ending_is)) in
        λ i. record { ports = ports i; contents = x.contents; first = arb.first; journal = all_entries i }

    pub release_bus : j.spare ≤ k.spare + 1 → IsBus (bus_state d x (set cs m q) ps arb k)
    release_bus enough =
        let room = release_room f core m cut (bus_state d x cs ps arb j).room (bus_state d x (set cs m q) ps arb k).room ok.sound can ok.room (others_room cs m q) enough in
        kept (bus_state d x (set cs m q) ps arb k) (released core m cut) refl release_core (release_sound f ok.fabric core ok.sound m cut can)
        (record { entries = room.entries; pairs = room.pairs })

    pub release_made : IsMadeOf d x (set cs m q) ps arb
    release_made = subst (λ es. IsMadeOf d x (set cs m q) es arb) ending_ports (made_after m q ending (deep_at m ending can.within ending_is))

  -- ---- tick

  module _ (grant : ℕ) (cs2 : List CycleView) (arb2 : Turn)
      (is_grant : IsGrant arb (wanting (states cs)) (held (states cs)) grant) (is_next : IsNext arb grant arb2.first) (turn_kept : arb2.ports ≡ arb.ports)
      (stepped : states cs2 ≡ granted_from grant 0 (states cs)) where
    turn_is : arb ≡ turn f core
    turn_is = λ i. record { ports = made.turn i; first = arb.first }

    wants_is : wanting (states cs) ≡ wants core
    wants_is = λ i m. sym (joined-wants (states cs) ps x.owed long_ports long_owed m) i

    held_is : held (states cs) ≡ held core.ports
    held_is = sym (joined-held (states cs) ps x.owed long_ports long_owed)

    grant_is : IsGrant (turn f core) (wants core) (held core.ports) grant
    grant_is =
        subst (λ t. IsGrant t (wants core) (held core.ports) grant) turn_is
        (subst (λ w. IsGrant arb w (held core.ports) grant) wants_is (subst (λ h. IsGrant arb (wanting (states cs)) h grant) held_is is_grant))

    next_is : IsNext (turn f core) grant arb2.first
    next_is = subst (λ t. IsNext t grant arb2.first) turn_is is_next

    abbrev mid : Core
    mid = granted grant arb2.first core

    mid_sound : IsSoundCore f mid
    mid_sound = granted_sound f ok.fabric core ok.sound grant arb2.first next_is.within grant_is

    mid_ports : mid.ports ≡ joined (states cs2) ps x.owed
    mid_ports = sym (joined-granted grant 0 (states cs) ps x.owed) ∙ ap (λ ss. joined ss ps x.owed) (sym stepped)

    long_mid : length (states cs2) ≡ length (states cs)
    long_mid = ap (λ (ss : List CorePort). length ss) stepped ∙ length-granted grant 0 (states cs)

    -- the condition of the clock
    pub tick_served : AreServed x (holders_from (states cs2) 0 (length x.children)) ps
    tick_served = served d x (states cs2) ps mid mid_sound mid_ports (long_ports ∙ sym long_mid) (long_owed ∙ sym long_mid) made.slaves made.wiring

    tick_matches : Matches d.depth ps x.owed
    tick_matches =
        matching d.depth (states cs2) ps x.owed made.deep (long_ports ∙ sym long_mid) (long_owed ∙ sym long_mid)
        (λ m. subst (λ qs. let p = get_or qs m resting_port in length p.got + length p.owed ≡ p.sent) mid_ports ((mid_sound.queues m).counted))

    module _ (ps3 : List engine.PortState) (x3 : CrossbarState) (rows : List PortRow)
        (rows_are : rows ≡ rows_after (wiring_of x) x.owed (driven_rows (states cs2) ps)) (sampled_are : ps3 ≡ sampled_all ps rows)
        (after : x3 ≡ after_tick x (driven_rows (states cs2) ps)) where
      ports_are : joined (states cs2) ps3 x3.owed ≡ map (clocked f core.contents) mid.ports
      ports_are =
          ap (λ es. joined (states cs2) es x3.owed) (sampled_are ∙ ap (sampled_all ps) rows_are)
          ∙ ap (λ (y : CrossbarState). joined (states cs2) (sampled_all ps (rows_after (wiring_of x) x.owed (driven_rows (states cs2) ps))) y.owed) after
          ∙ ap (λ w. joined (states cs2) (sampled_all ps (rows_after w x.owed (driven_rows (states cs2) ps))) (owed_after_all w x.contents x.owed (driven_rows (states cs2) ps))) made.wiring
          ∙ joined-clocked f x.contents (states cs2) ps x.owed tick_matches
          ∙ ap (map (clocked f core.contents)) (sym mid_ports)

      contents_are : x3.contents ≡ contents_after f.wiring core.contents (all_sent f mid.ports)
      contents_are =
          ap (λ (y : CrossbarState). y.contents) after
          ∙ ap (λ w. contents_after w x.contents (crossbar.passed w x.owed (driven_rows (states cs2) ps))) made.wiring
          ∙ ap (contents_after f.wiring x.contents) (sym (joined-passed f (states cs2) ps x.owed (sym (long_ports ∙ sym long_mid)) tick_matches))
          ∙ ap (λ qs. contents_after f.wiring x.contents (all_sent f qs)) (sym mid_ports)

      tick_core : (bus_state d x3 cs2 ps3 arb2 j).core ≡ clocked_core f mid
      tick_core = λ i. record { ports = ports_are i; contents = contents_are i; first = arb2.first; journal = j.entries }

      pub tick_is : IsTick f core (bus_state d x3 cs2 ps3 arb2 j).core
      tick_is = record { grant = grant; first = arb2.first; is_grant = grant_is; is_next = next_is; core = tick_core }

      -- what the clock shows
      tick_rows : rows ≡ map (port_row f) mid.ports
      tick_rows =
          rows_are ∙ ap (λ w. rows_after w x.owed (driven_rows (states cs2) ps)) made.wiring
          ∙ rows_shown f (states cs2) ps x.owed tick_matches (long_ports ∙ sym long_mid) (long_owed ∙ sym long_mid)
          ∙ ap (map (port_row f)) (sym mid_ports)

      tick_holders : holders_from (states cs2) 0 (length x.children) ≡ holders_from mid.ports 0 f.slaves
      tick_holders =
          holders_shown (states cs2) ps x.owed 0 (length x.children) (long_ports ∙ sym long_mid) (long_owed ∙ sym long_mid)
          ∙ ap (λ qs. holders_from qs 0 (length x.children)) (sym mid_ports)
          ∙ ap (λ (children : List Child). holders_from mid.ports 0 (length children)) made.slaves

      pub tick_shows : (holders : List (Option ℕ)) → holders ≡ holders_from (states cs2) 0 (length x.children)
          → ShowsTick f core (bus_state d x3 cs2 ps3 arb2 j).core (record { ports = rows; holders = holders })
      unfolding tick_is
      tick_shows holders are = (tick_is, λ i. record { ports = tick_rows i; holders = (are ∙ tick_holders) i })

      pub tick_bus : rooms cs2 ≡ rooms cs → IsBus (bus_state d x3 cs2 ps3 arb2 j)
      tick_bus same_rooms =
          let new = (bus_state d x3 cs2 ps3 arb2 j).core in
          kept (bus_state d x3 cs2 ps3 arb2 j) new refl refl (tick_sound f ok.fabric core new ok.sound tick_is)
          (subst (λ ns. HasSpare new (record { entries = j.spare; pairs = ns })) (sym same_rooms)
          (tick_room f ok.fabric core new (bus_state d x cs ps arb j).room ok.sound tick_is ok.room))

      pub tick_made : IsMadeOf d x3 cs2 ps3 arb2
      tick_made = record {
        width = ap (λ (y : CrossbarState). y.width) after ∙ made.width;
        slaves = ap (λ (y : CrossbarState). y.children) after ∙ made.slaves;
        wiring = ap (λ (y : CrossbarState). wiring_of y) after ∙ made.wiring;
        cycles = sym (length-map cs2 (λ (p : CycleView). p.state)) ∙ long_mid ∙ long_states;
        ports = ap (λ (es : List engine.PortState). length es) (sampled_are ∙ ap (sampled_all ps) rows_are) ∙ length-sampled ps _ (length-rows (wiring_of x) x.owed _ long_rows ∙ long_owed ∙ sym long_ports) ∙ made.ports;
        owed = ap (λ (y : CrossbarState). length y.owed) after ∙ length-owed (wiring_of x) x.contents x.owed _ long_rows ∙ made.owed;
        deep = subst (λ es. All (λ (p : engine.PortState). p.depth ≡ d.depth) es) (sym sampled_are) (deep-sampled d.depth ps rows made.deep);
        turn = turn_kept ∙ made.turn;
      }
        where
          long_rows : length (driven_rows (states cs2) ps) ≡ length x.owed
          long_rows = driven_long (states cs2) ps (long_mid ∙ sym long_ports) ∙ long_ports ∙ sym long_owed

      -- who holds what goes by the core's ports
      pub tick_held : holders_from (bus_state d x3 cs2 ps3 arb2 j).core.ports 0 f.slaves ≡ holders_from (states cs2) 0 (length x.children)
      tick_held =
          let m = tick_made in
          let long_cs : length (states cs2) ≡ d.masters = length-map cs2 (λ (p : CycleView). p.state) ∙ m.cycles in
          sym (holders_shown (states cs2) ps3 x3.owed 0 f.slaves (m.ports ∙ sym long_cs) (m.owed ∙ sym long_cs))
          ∙ ap (holders_from (states cs2) 0) (sym (ap (λ (children : List Child). length children) made.slaves))
