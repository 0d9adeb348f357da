-- One port of a bus whose other ports are idle.
use Rattle.std.proofs.Common.{◌≡◌, ◌≢◌, inl, inr, ℕ, zero, suc, ◌+◌, ◌^◌, ◌<◌, ◌≤◌, ◌==◌, List, [], ◌∷◌, ◌++◌, length, take, drop, slice_get, Result, Ok, Err, OnOk, OnErr, IsTrue, ◌↔◌, Bool, true, false, Option, Some, None, refl, ap, sym, ◌∙◌, subst, arith}
use Rattle.std.specs.Int.{bit_at}
use Rattle.std.proofs.lemmas.Bool.{cases_eq}
use Rattle.wb_signals.specs.Request.{Request}
use Rattle.std.proofs.lemmas.List.{take_all, take-append-drop, drop-append-le, length-take}
use Rattle.wb_signals.specs.Content.{Content}
use Rattle.wb_signals.specs.History.{Pair, Entry, IsLegal}
use Rattle.soc_core.specs.Built.{fabric_of, one_slave, slaves_asked, set_of_cycle}
use Rattle.soc_bus.specs.View.{BusState, IsBus}
use Rattle.soc_core.proofs.Settled.{settled, legal_rest}
use Rattle.wb_signals.specs.declared.answer.Answer.{Answer}
use Rattle.std.proofs.Common.{pow_pos, mod-lt, bit_or, ◌/◌}
use Rattle.std.proofs.lemmas.Nat.{or_lt}
use Rattle.std.proofs.lemmas.Nat.Bits.{bit_at_ones, bit_at_or, bit_at-pow_same}
use Rattle.std.proofs.Math.Pow.{pow-lt}
use Rattle.eb_base.specs.declared.width.Width.TheVariants.{W32}
use Rattle.wb_signals.specs.Cycles.{AllFitBus, Asks, paired, made_after, opened_after, pairs_added}
use Rattle.wb_signals.proofs.CycleLemmas.{added-some}
use Rattle.soc_core.specs.Fabric.{Fabric, IsFabric, AllGoIn, IsIn}
use Rattle.soc_core.specs.Core.{Idle, Wants, Holds, Leaves, CorePort, Core, port, built_core, unloaded, with_load, with_taken, phase_after, raised, loaded, taken, released, raised_of, pending, CanRaise, CanLoad, CanRelease, IsTick}
use Rattle.soc_core.specs.Sound.{StandsIn, IsSoundCore}
use Rattle.soc_bus.specs.Local.{AllIdle, IsOpen, IsRecorded, IsLocal, MadeLegal, made_since, cycles_since, all_slaves}
use Rattle.soc_core.proofs.Ports.{port_same, port_other}
use Rattle.soc_core.specs.Run.{IsRun}
use Rattle.soc_core.proofs.Bounds.{port-tick, alone_bit}
use Rattle.soc_core.proofs.Events.{raise_sound}
use Rattle.soc_core.proofs.Releases.{release_sound}
use Rattle.soc_core.proofs.Ticks.{each_idle}
use Rattle.soc_core.proofs.BuiltLemmas.{described_fabric}
use Rattle.soc_desc.specs.Accepted.{IsAccepted}
use Rattle.soc_desc.specs.declared.description.Description.{Description}

module _ (f : Fabric) (ok : IsFabric f) (old new : Core) (s : IsSoundCore f old) (t : IsTick f old new) where
  phase-tick : (n : ℕ) → (port new n).phase ≡ phase_after (bit_at t.grant n == 1) (port old n).phase
  phase-tick n = ap (λ (p : CorePort). p.phase) (port-tick f ok old new s t n)

  opened-tick : (n : ℕ) → (port new n).opened ≡ (port old n).opened
  opened-tick n = ap (λ (p : CorePort). p.opened) (port-tick f ok old new s t n)

  loaded-tick : (n : ℕ) → (port new n).loaded ≡ (port old n).loaded
  loaded-tick n = ap (λ (p : CorePort). p.loaded) (port-tick f ok old new s t n)

  journal-tick : new.journal ≡ old.journal
  journal-tick = ap (λ (c : Core). c.journal) t.core

  idle-tick : (n : ℕ) → (port old n).phase ≡ Idle → (port new n).phase ≡ Idle
  idle-tick n idle = phase-tick n ∙ ap (phase_after (bit_at t.grant n == 1)) idle

  leaves-tick : (n : ℕ) → (port old n).phase ≡ Leaves → (port new n).phase ≡ Idle
  leaves-tick n leaves = phase-tick n ∙ ap (phase_after (bit_at t.grant n == 1)) leaves

  holds-tick : (n u : ℕ) → (port old n).phase ≡ Holds u → (port new n).phase ≡ Holds u
  holds-tick n u holds = phase-tick n ∙ ap (phase_after (bit_at t.grant n == 1)) holds

-- ---- lists

pub take_get : {A : Type 0} (xs : List A) (i : ℕ) (x : A) → slice_get xs i ≡ Some x → take (i + 1) xs ≡ take i xs ++ x ∷ []
take_get xs i x is = ap (λ n. take n xs) (let e : i + 1 ≡ suc i = omega arith in e) ∙ by xs i x is
  where
    by : {A : Type 0} (xs : List A) (i : ℕ) (x : A) → slice_get xs i ≡ Some x → take (suc i) xs ≡ take i xs ++ x ∷ []
    by [] i x is = absurd (let never : None ≡ Some x = is in cc)
    by (y ∷ xs) zero x is = ap (λ z. z ∷ []) (let same : Some y ≡ Some x = is in some_is y x same)
      where
        some_is : {A : Type 0} (y x : A) → Some y ≡ Some x → y ≡ x
        some_is y x same = cc
    by (y ∷ xs) (suc i) x is = ap (λ rest. y ∷ rest) (by xs i x is)

append_none : {A : Type 0} (xs ys : List A) → xs ++ ys ≡ [] → xs ≡ []
append_none [] ys e = refl
append_none (x ∷ xs) ys e = absurd (let never : x ∷ (xs ++ ys) ≡ [] = e in cc)

pub paired_some : (ps : List Pair) (ops : List Request) (xs : List Answer) → ops ≢ [] → length xs ≡ length ops → ps ++ paired ops xs ≢ []
paired_some [] [] xs some same = absurd (some refl)
paired_some [] (r ∷ ops) [] some same = absurd (let never : ⊥ = omega (arith, same) in never)
paired_some [] (r ∷ ops) (x ∷ xs) some same = λ e. (let never : record { request = r; answer = x } ∷ paired ops xs ≡ [] = e in cc)
paired_some (p ∷ ps) ops xs some same = λ e. (let never : p ∷ (ps ++ paired ops xs) ≡ [] = e in cc)

-- ---- conditions

pub can_raise : (f : Fabric) (core : Core) (m S : ℕ) → m < f.ports → S < 2 ^ f.slaves → AllIdle core → CanRaise f core m S
can_raise f core m S within below idle = record { within = within; idle = idle m; slaves = below }

pub can_release : (f : Fabric) (core : Core) (m S : ℕ) → m < f.ports → IsOpen core m S → CanRelease f core m
can_release f core m S within open_ = record { within = within; raised = (S, ap raised_of open_.holds); nothing = open_.nothing }

pub can_load : (f : Fabric) → (core : Core) (m S : ℕ) (ops : List Request) → f.wiring.bus ≡ W32 → m < f.ports → IsOpen core m S → AllGoIn f S ops → AllFitBus W32 ops → ops ≢ [] → length ops ≤ 510
    → CanLoad f core m ops
can_load f core m S ops width within open_ go fit some most = record {
  within = within;
  granted = (S, open_.holds, go);
  nothing = open_.nothing;
  some = some;
  most = most;
  fit = subst (λ w. AllFitBus w ops) (sym width) fit;
}

-- ---- the set of a cycle

-- every operation goes in the set of all slaves
all_go : (f : Fabric) → IsFabric f → (ops : List Request) → AllGoIn f (all_slaves f) ops
all_go f ok [] = tt
all_go f ok (r ∷ ops) = (λ slave is. bit_at_ones f.slaves slave (ok.below (f.wiring.route r).place slave (ok.tops r ∙ is)), all_go f ok ops)

bit_most : (a i : ℕ) → bit_at a i ≤ 1
bit_most a i = let two : 0 < 2 = omega arith in let e = mod-lt (a / 2 ^ i) two in omega (arith, e)

in_or_left : (a b k : ℕ) → IsIn a k → IsIn (bit_or a b) k
in_or_left a b k has = let e = bit_at_or a b k in let l = bit_most b k in omega (arith, e, l, has)

in_or_right : (a b k : ℕ) → IsIn b k → IsIn (bit_or a b) k
in_or_right a b k has = let e = bit_at_or a b k in let l = bit_most a k in omega (arith, e, l, has)

go_wider : (f : Fabric) (a b : ℕ) (ops : List Request) → AllGoIn f b ops → AllGoIn f (bit_or a b) ops
go_wider f a b [] go = tt
go_wider f a b (r ∷ ops) go = (λ slave is. in_or_right a b slave (go.0 slave is), go_wider f a b ops go.1)

asked_go : (f : Fabric) (ops : List Request) → AllGoIn f (slaves_asked f.top ops) ops
asked_go f [] = tt
asked_go f (r ∷ ops) = (
  λ slave is. in_or_left (one_slave (f.top r)) (slaves_asked f.top ops) slave (subst (λ o. IsIn (one_slave o) slave) (sym is) (bit_at-pow_same slave)),
  go_wider f (one_slave (f.top r)) (slaves_asked f.top ops) ops (asked_go f ops),
)

one_below : (f : Fabric) → IsFabric f → (r : Request) (o : Option ℕ) → f.top r ≡ o → one_slave o < 2 ^ f.slaves
one_below f ok r None is = pow_pos f.slaves
one_below f ok r (Some k) is = pow-lt (ok.below (f.wiring.route r).place k (ok.tops r ∙ is))

asked_below : (f : Fabric) → IsFabric f → (ops : List Request) → slaves_asked f.top ops < 2 ^ f.slaves
asked_below f ok [] = pow_pos f.slaves
asked_below f ok (r ∷ ops) = or_lt f.slaves (one_slave (f.top r)) (slaves_asked f.top ops) (one_below f ok r (f.top r) refl) (asked_below f ok ops)

pub set_goes : (f : Fabric) → IsFabric f → (ops : List Request) (last : Bool) → AllGoIn f (set_of_cycle f ops last) ops
set_goes f ok ops true = asked_go f ops
set_goes f ok ops false = all_go f ok ops

pub set_below : (f : Fabric) → IsFabric f → (ops : List Request) (last : Bool) → set_of_cycle f ops last < 2 ^ f.slaves
set_below f ok ops true = asked_below f ok ops
set_below f ok ops false = let some : 0 < 2 ^ f.slaves = pow_pos f.slaves in omega (arith, some)

-- ---- a port raises alone and is granted

module _ (f : Fabric) (ok : IsFabric f) (old mid new : Core) (s : IsSoundCore f old) (m S : ℕ) (can : CanRaise f old m S)
    (is : mid ≡ raised old m S) (t : IsTick f mid new) (idle : AllIdle old) where
  within : m < length old.ports
  within = subst (λ n. m < n) (sym s.ports) can.within

  mid_sound : IsSoundCore f mid
  mid_sound = subst (IsSoundCore f) (sym is) (raise_sound f ok old s m S can)

  mine : port mid m ≡ unloaded (Wants S) []
  mine = ap (λ (c : Core). port c m) is ∙ port_same old.ports m (unloaded (Wants S) []) within

  other : (n : ℕ) → n ≢ m → (port mid n).phase ≡ Idle
  other n differ = ap (λ (c : Core). (port c n).phase) is ∙ ap (λ (p : CorePort). p.phase) (port_other old.ports m (unloaded (Wants S) []) n differ) ∙ idle n

  alone : (n : ℕ) → n ≢ m → raised_of (port mid n).phase ≡ None
  alone n differ = ap raised_of (other n differ)

  waits : (port mid m).phase ≡ Wants S
  waits = ap (λ (p : CorePort). p.phase) mine

  pub opened_is : IsOpen new m S
  opened_is = record {
    others = λ n differ. idle-tick f ok mid new mid_sound t n (other n differ);
    holds =
        phase-tick f ok mid new mid_sound t m ∙ ap (phase_after (bit_at t.grant m == 1)) waits
        ∙ ap (λ b. phase_after b (Wants S)) (alone_bit f ok mid m S t.grant mid_sound can.within waits alone t.is_grant);
    nothing = loaded-tick f ok mid new mid_sound t m ∙ ap (λ (p : CorePort). p.loaded) mine;
  }

  pub opened_none : (port new m).opened ≡ []
  opened_none = opened-tick f ok mid new mid_sound t m ∙ ap (λ (p : CorePort). p.opened) mine

  pub opened_journal : new.journal ≡ old.journal
  opened_journal = journal-tick f ok mid new mid_sound t ∙ ap (λ (c : Core). c.journal) is

-- ---- a load is answered by ticks

module _ (f : Fabric) (old mid new : Core) (s : IsSoundCore f old) (m S : ℕ) (ops : List Request) (can : CanLoad f old m ops)
    (is : mid ≡ loaded old m ops) (run : IsRun mid new) (none : pending (port new m) ≡ 0) (now : IsSoundCore f new) (open_ : IsOpen old m S) where
  there : m < length old.ports
  there = subst (λ n. m < n) (sym s.ports) can.within

  full : port mid m ≡ with_load ops (port old m)
  full = ap (λ (c : Core). port c m) is ∙ port_same old.ports m (with_load ops (port old m)) there

  rest : (n : ℕ) → n ≢ m → (port mid n).phase ≡ Idle
  rest n differ = ap (λ (c : Core). (port c n).phase) is ∙ ap (λ (p : CorePort). p.phase) (port_other old.ports m (with_load ops (port old m)) n differ) ∙ open_.others n differ

  pub ran_loaded : (port new m).loaded ≡ ops
  ran_loaded = run.loaded m ∙ ap (λ (p : CorePort). p.loaded) full

  pub ran_got : length (port new m).got ≡ length ops
  ran_got = let q = now.queues m in let l = ap length ran_loaded in omega (arith, q.counted, q.sent, l, none)

  ran_opened : (port new m).opened ≡ (port old m).opened
  ran_opened = run.opened m ∙ ap (λ (p : CorePort). p.opened) full

  ran_journal : new.journal ≡ old.journal
  ran_journal = run.journal ∙ ap (λ (c : Core). c.journal) is

  ran_holds : (port new m).phase ≡ Holds S
  ran_holds = run.holds m S (ap (λ (p : CorePort). p.phase) full ∙ open_.holds)

  ran_others : (n : ℕ) → n ≢ m → (port new n).phase ≡ Idle
  ran_others n differ = run.idle n (rest n differ)

  -- and then its answers are taken
  module _ (last : Core) (took : last ≡ taken new m) where
    now_there : m < length new.ports
    now_there = subst (λ n. m < n) (sym now.ports) can.within

    emptied : port last m ≡ with_taken (port new m)
    emptied = ap (λ (c : Core). port c m) took ∙ port_same new.ports m (with_taken (port new m)) now_there

    pub took_open : IsOpen last m S
    took_open = record {
      others = λ n differ. ap (λ (c : Core). (port c n).phase) took ∙ ap (λ (p : CorePort). p.phase) (port_other new.ports m (with_taken (port new m)) n differ) ∙ ran_others n differ;
      holds = ap (λ (p : CorePort). p.phase) emptied ∙ ran_holds;
      nothing = ap (λ (p : CorePort). p.loaded) emptied;
    }

    pub took_opened : (port last m).opened ≡ (port old m).opened ++ paired ops (port new m).got
    took_opened =
        ap (λ (p : CorePort). p.opened) emptied ∙ ap (λ ps. ps ++ paired (port new m).loaded (port new m).got) ran_opened
        ∙ ap (λ rs. (port old m).opened ++ paired rs (port new m).got) ran_loaded

    pub took_journal : last.journal ≡ old.journal
    took_journal = ap (λ (c : Core). c.journal) took ∙ ran_journal

-- ---- a cycle ends

module _ (f : Fabric) (ok : IsFabric f) (old mid new : Core) (s : IsSoundCore f old) (m S : ℕ) (cut : Bool) (can : CanRelease f old m)
    (is : mid ≡ released old m cut) (t : IsTick f mid new) (open_ : IsOpen old m S) where
  here_in : m < length old.ports
  here_in = subst (λ n. m < n) (sym s.ports) can.within

  after_sound : IsSoundCore f mid
  after_sound = subst (IsSoundCore f) (sym is) (release_sound f ok old s m cut can)

  left_ : port mid m ≡ unloaded Leaves []
  left_ = ap (λ (c : Core). port c m) is ∙ port_same old.ports m (unloaded Leaves []) here_in

  pub closed_idle : AllIdle new
  closed_idle n = elim (cases_eq n m) [
    | inl same ↦ leaves-tick f ok mid new after_sound t n (ap (λ i. (port mid i).phase) same ∙ ap (λ (p : CorePort). p.phase) left_)
    | inr differ ↦ idle-tick f ok mid new after_sound t n
        (ap (λ (c : Core). (port c n).phase) is ∙ ap (λ (p : CorePort). p.phase) (port_other old.ports m (unloaded Leaves []) n differ) ∙ open_.others n differ)
  ]

  pub closed_opened : (port new m).opened ≡ []
  closed_opened = opened-tick f ok mid new after_sound t m ∙ ap (λ (p : CorePort). p.opened) left_

  pub closed_journal : new.journal ≡ (released old m cut).journal
  closed_journal = journal-tick f ok mid new after_sound t ∙ ap (λ (c : Core). c.journal) is

-- ---- a master on a bus

pub local_begins : (b : BusState) (m : ℕ) → IsBus b → m < b.description.masters → AllIdle b.core → IsLocal b b m
local_begins b m kept within idle = record {
  within = within;
  settled = settled (fabric_of b.description) b.core kept.sound (λ n set_ holds. (let never : Idle ≡ Holds set_ = sym (idle n) ∙ holds in cc));
  goes_on = take_all (length b.core.journal) b.core.journal (omega arith);
  ready = record {
    rest = λ none. idle;
    open_ = λ some. absurd (some (subst (λ ph. StandsIn (fabric_of b.description) ph (port b.core m)) (idle m) (kept.sound.stand m)).0);
  };
}

pub local_legal : (began now : BusState) (m : ℕ) → IsBus now → IsLocal began now m → MadeLegal began now
local_legal began now m kept local =
    let f = fabric_of now.description in
    let whole : now.core.journal ≡ began.core.journal ++ made_since began now =
    sym (take-append-drop (length began.core.journal) now.core.journal) ∙ ap (λ es. es ++ made_since began now) local.goes_on in
    subst (λ (cs : List Content). IsLegal f.wiring cs (made_since began now)) (sym local.settled)
    (legal_rest f.wiring f.built began.core.journal (made_since began now) (subst (λ es. IsLegal f.wiring f.built es) whole kept.sound.legal))

-- ---- what it tells

-- after a record, where it was asked something
pub record_told : (began old new : BusState) (m : ℕ) (f : Fabric) (ops : List Request) (answers : List Answer) (last : Bool)
    → take (length began.core.journal) old.core.journal ≡ began.core.journal → Asks (port old.core m).opened ops last
    → IsRecorded f old.core new.core m ops answers last
    → cycles_since began new m ≡ pairs_added m (cycles_since began old m) (paired ops answers) last
record_told began old new m f ops answers last goes_on asks r =
    let pairs : List Pair = (port old.core m).opened ++ paired ops answers in
    (λ i. record { made = drop (length began.core.journal) (r.journal i); opened = r.opened i })
    ∙ ap (λ (es : List Entry). record { made = es; opened = opened_after pairs last }) (made_rest last)
    ∙ added-some m (made_since began old) (port old.core m).opened (paired ops answers) last (some ops refl)
  where
    within : length began.core.journal ≤ length old.core.journal
    within =
        let e : length (take (length began.core.journal) old.core.journal) ≡ length began.core.journal = ap (λ (es : List Entry). length es) goes_on in
        omega (arith, e, length-take (length began.core.journal) old.core.journal)

    made_rest : (end : Bool) → drop (length began.core.journal) (made_after m old.core.journal ((port old.core m).opened ++ paired ops answers) end)
        ≡ made_after m (made_since began old) ((port old.core m).opened ++ paired ops answers) end
    made_rest false = refl
    made_rest true = drop-append-le (length began.core.journal) old.core.journal _ within

    some : (rs : List Request) → rs ≡ ops → (port old.core m).opened ++ paired ops answers ≢ []
    some [] is = λ e. (asks (sym is)).1 (append_none (port old.core m).opened (paired ops answers) e)
    some (q ∷ rs) is = paired_some (port old.core m).opened ops answers (λ e. absurd (let never : q ∷ rs ≡ [] = is ∙ e in cc)) r.count

pub ok_then : {A E P Q : Type 0} (r : Result A E) → (P → Q) → OnOk r P → OnOk r Q
ok_then (Ok x) f p = f p
ok_then (Err e) f p = tt

pub err_then : {A E P Q : Type 0} (r : Result A E) → (P → Q) → OnErr r P → OnErr r Q
err_then (Ok x) f p = tt
err_then (Err e) f p = f p

-- a test that there are pairs, which fails
pub none_of : (b : Bool) (ps : List Pair) → b ≡ false → IsTrue b ↔ (ps ≢ []) → ps ≡ []
none_of b [] fails h = refl
none_of b (p ∷ ps) fails h = absurd (let holds : b ≡ true = h.1 (λ e. absurd (let never : p ∷ ps ≡ [] = e in cc)) in cc)

-- ---- the port of a bus as it is built

-- It has made no entry, and no cycle is open.
pub built_cycles : (d : Description) → IsAccepted d → (began now : BusState) (m : ℕ) → began.core ≡ built_core (fabric_of d) → now.core ≡ built_core (fabric_of d)
    → cycles_since began now m ≡ record { made = []; opened = [] }
built_cycles d accepted began now m was is =
    let none : (port (built_core (fabric_of d)) m).opened ≡ [] =
    each_idle (fabric_of d) (described_fabric d accepted.masters_least accepted.depth_least) (λ (p : CorePort). p.opened ≡ []) refl m in
    let made : made_since began now ≡ [] = ap (λ (c : Core). drop (length c.journal) now.core.journal) was ∙ ap (λ (c : Core). c.journal) is in
    let opened : (port now.core m).opened ≡ [] = ap (λ (c : Core). (port c m).opened) is ∙ none in
    λ i. record { made = made i; opened = opened i }
