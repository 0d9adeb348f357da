-- A port that raises CYC, is loaded or has its answers taken keeps the core sound.
use Rattle.std.proofs.Common.{◌≡◌, inl, ℕ, ◌<◌, List, [], ◌∷◌, ◌++◌, length, set, take, refl, ap, sym, ◌∙◌, subst, arith, append-nil}
use Rattle.std.proofs.lemmas.List.{length-set, take_all}
use Rattle.wb_signals.specs.Request.{Request}
use Rattle.wb_signals.specs.History.{Pair, requests_of, answers_of}
use Rattle.wb_signals.specs.Cycles.{paired}
use Rattle.wb_signals.specs.declared.answer.Answer.{Answer}
use Rattle.wb_signals.proofs.CycleLemmas.{requests_of-append}
use Rattle.wb_signals.specs.Slave.{Owed}
use Rattle.soc_core.specs.Fabric.{Fabric, IsFabric, AllGoIn}
use Rattle.soc_core.specs.Core.{Phase, Idle, Wants, Holds, Leaves, CorePort, Core, port, unloaded, with_port, performed, answered, answers_owed, pending, raised, loaded, taken, with_load, with_taken, CanRaise, CanLoad, CanTake}
use Rattle.soc_core.specs.Sound.{StandsIn, IsQueue, IsSoundCore}
use Rattle.soc_core.proofs.Ports.{each_port}
use Rattle.soc_core.proofs.Keeping.{IsKept, still_sound, answers_of-append}
use Rattle.soc_core.proofs.Grants.{take_none, none_performed}

pub none_long : {A : Type 0} (xs : List A) → length xs ≡ 0 → xs ≡ []
none_long [] is = refl
none_long (x ∷ xs) is = absurd (let never : ⊥ = omega (arith, is) in never)

-- ---- a port with nothing loaded

pub record IsUnloaded (p : CorePort) : Type 0 where
  pub sent : p.sent ≡ 0
  pub got : p.got ≡ []
  pub owed : p.owed ≡ []

pub unloaded_is : (f : Fabric) (p : CorePort) → IsQueue f p → p.loaded ≡ [] → IsUnloaded p
unloaded_is f p q none =
    let long : length p.loaded ≡ 0 = ap length none in
    record {
      sent = omega (arith, q.sent, long);
      got = none_long p.got (omega (arith, q.sent, q.counted, long));
      owed = none_long p.owed (omega (arith, q.sent, q.counted, long));
    }

pub queue_unloaded : (f : Fabric) (ph : Phase) (opened : List Pair) → IsQueue f (unloaded ph opened)
queue_unloaded f ph opened = record {
  sent = omega arith;
  counted = omega arith;
  places = refl;
  most = omega arith;
  one_place = (0, tt);
  rising = tt;
  fit = λ k d lt. absurd (let never : ⊥ = omega (arith, lt) in never);
}

answers_list : (a b : List Answer) (os : List Owed) → b ≡ [] → os ≡ [] → a ++ b ++ answers_owed os ≡ a
answers_list a b os none no_owed =
    ap (λ ys. a ++ ys ++ answers_owed os) none ∙ ap (λ ys. a ++ [] ++ answers_owed ys) no_owed ∙ append-nil (a ++ []) ∙ append-nil a

pub unloaded_answered : (p : CorePort) → IsUnloaded p → answered p ≡ answers_of p.opened
unloaded_answered p u = answers_list (answers_of p.opened) p.got p.owed u.got u.owed

pub unloaded_performed : (p : CorePort) → p.loaded ≡ [] → performed p ≡ requests_of p.opened
unloaded_performed p none =
    ap (λ rs. requests_of p.opened ++ take p.sent rs) none ∙ ap (λ rs. requests_of p.opened ++ rs) (take_none p.sent) ∙ append-nil (requests_of p.opened)

-- ---- a port that is replaced by one with the same operations and answers

pub record IsReplacement (f : Fabric) (old new : CorePort) : Type 0 where
  pub operations : performed new ≡ performed old
  pub replies : answered new ≡ answered old
  pub kept : (set : ℕ) → old.phase ≡ Holds set → new.phase ≡ Holds set
  pub back : (set : ℕ) → new.phase ≡ Holds set → old.phase ≡ Holds set
  pub stand : StandsIn f new.phase new
  pub queue : IsQueue f new

module _ (f : Fabric) (ok : IsFabric f) (core : Core) (s : IsSoundCore f core) (m : ℕ) (within : m < f.ports) where
  inside : m < length core.ports
  inside = subst (λ n. m < n) (sym s.ports) within

  module _ (p : CorePort) (r : IsReplacement f (port core m) p) where
    back_at : (n set : ℕ) → (port (with_port core m p) n).phase ≡ Holds set → (port core n).phase ≡ Holds set
    back_at n = each_port (λ n q. (set : ℕ) → q.phase ≡ Holds set → (port core n).phase ≡ Holds set) core.ports m p inside r.back (λ n other set h. h) n

    replaced_kept : IsKept f ok core (with_port core m p)
    replaced_kept = record {
      journal = refl;
      contents = refl;
      operations = each_port (λ n q. performed q ≡ performed (port core n)) core.ports m p inside r.operations (λ n other. refl);
      replies = each_port (λ n q. answered q ≡ answered (port core n)) core.ports m p inside r.replies (λ n other. refl);
      kept = each_port (λ n q. (set : ℕ) → (port core n).phase ≡ Holds set → q.phase ≡ Holds set) core.ports m p inside r.kept (λ n other set h. h);
      origin = λ n set h. inl (back_at n set h);
      apart = λ a b x y differ h g. s.apart a b x y differ (back_at a x h) (back_at b y g);
      stand = each_port (λ n q. StandsIn f q.phase q) core.ports m p inside r.stand (λ n other. s.stand n);
      queues = each_port (λ n q. IsQueue f q) core.ports m p inside r.queue (λ n other. s.queues n);
      ports = length-set core.ports m p ∙ s.ports;
      first = s.first;
    }

    pub replaced_sound : IsSoundCore f (with_port core m p)
    replaced_sound = still_sound f ok core (with_port core m p) s replaced_kept

-- ---- raise

raise_replaces : (f : Fabric) (p : CorePort) (set : ℕ) → p.phase ≡ Idle → StandsIn f p.phase p → IsQueue f p → IsReplacement f p (unloaded (Wants set) [])
raise_replaces f p set idle stands q =
    let stands_idle : StandsIn f Idle p = subst (λ ph. StandsIn f ph p) idle stands in
    record {
      operations = sym (none_performed p stands_idle.0 stands_idle.1);
      replies = sym (unloaded_answered p (unloaded_is f p q stands_idle.1) ∙ ap answers_of stands_idle.0);
      kept = λ t holds. absurd (let never : Idle ≡ Holds t = sym idle ∙ holds in cc);
      back = λ t holds. absurd (let never : Wants set ≡ Holds t = holds in cc);
      stand = (refl, refl);
      queue = queue_unloaded f (Wants set) [];
    }

pub raise_sound : (f : Fabric) (ok : IsFabric f) (core : Core) → IsSoundCore f core → (m set : ℕ) → CanRaise f core m set → IsSoundCore f (raised core m set)
raise_sound f ok core s m set can =
    replaced_sound f ok core s m can.within (unloaded (Wants set) []) (raise_replaces f (port core m) set can.idle (s.stand m) (s.queues m))

-- ---- load

load_replaces : (f : Fabric) (p : CorePort) (set : ℕ) (ops : List Request) → p.phase ≡ Holds set → AllGoIn f set ops → p.loaded ≡ []
    → StandsIn f p.phase p → IsQueue f p → IsQueue f (with_load ops p) → IsReplacement f p (with_load ops p)
load_replaces f p set ops holds go none stands q new =
    let stands_here : StandsIn f (Holds set) p = subst (λ ph. StandsIn f ph p) holds stands in
    let u : IsUnloaded p = unloaded_is f p q none in
    record {
      operations = append-nil (requests_of p.opened) ∙ sym (unloaded_performed p none);
      replies = append-nil (answers_of p.opened ++ []) ∙ append-nil (answers_of p.opened) ∙ sym (unloaded_answered p u);
      kept = λ t h. h;
      back = λ t h. h;
      stand = subst (λ ph. StandsIn f ph (with_load ops p)) (sym holds) (stands_here.0, go);
      queue = new;
    }

pub load_sound : (f : Fabric) (ok : IsFabric f) (core : Core) → IsSoundCore f core → (m : ℕ) (ops : List Request) → CanLoad f core m ops → IsSoundCore f (loaded core m ops)
load_sound f ok core s m ops can =
    replaced_sound f ok core s m can.within (with_load ops (port core m))
    (load_replaces f (port core m) can.granted.0 ops can.granted.1 can.granted.2 can.nothing (s.stand m) (s.queues m)
    (record {
      sent = omega arith;
      counted = omega arith;
      places = refl;
      most = omega arith;
      one_place = (0, tt);
      rising = tt;
      fit = can.fit;
    }))

-- ---- take

pub requests_of-paired : (rs : List Request) (xs : List Answer) → length xs ≡ length rs → requests_of (paired rs xs) ≡ rs
requests_of-paired [] xs same = refl
requests_of-paired (r ∷ rs) [] same = absurd (let never : ⊥ = omega (arith, same) in never)
requests_of-paired (r ∷ rs) (x ∷ xs) same = ap (λ rest. r ∷ rest) (requests_of-paired rs xs (omega (arith, same)))

pub answers_of-paired : (rs : List Request) (xs : List Answer) → length xs ≡ length rs → answers_of (paired rs xs) ≡ xs
answers_of-paired [] [] same = refl
answers_of-paired [] (x ∷ xs) same = absurd (let never : ⊥ = omega (arith, same) in never)
answers_of-paired (r ∷ rs) [] same = absurd (let never : ⊥ = omega (arith, same) in never)
answers_of-paired (r ∷ rs) (x ∷ xs) same = ap (λ rest. x ∷ rest) (answers_of-paired rs xs (omega (arith, same)))

pub go_append : (f : Fabric) (set : ℕ) (xs ys : List Request) → AllGoIn f set xs → AllGoIn f set ys → AllGoIn f set (xs ++ ys)
go_append f set [] ys go more = more
go_append f set (x ∷ xs) ys go more = (go.0, go_append f set xs ys go.1 more)

-- A port with no operation pending: all were sent and answered.
pub record IsAnswered (p : CorePort) : Type 0 where
  pub got : length p.got ≡ length p.loaded
  pub sent : p.sent ≡ length p.loaded
  pub owed : p.owed ≡ []

pub answered_is : (f : Fabric) (p : CorePort) → IsQueue f p → pending p ≡ 0 → IsAnswered p
answered_is f p q none = record {
  got = omega (arith, q.sent, q.counted, none);
  sent = omega (arith, q.sent, q.counted, none);
  owed = none_long p.owed (omega (arith, q.sent, q.counted, none));
}

taken_requests : (p : CorePort) → IsAnswered p → requests_of (p.opened ++ paired p.loaded p.got) ≡ requests_of p.opened ++ p.loaded
taken_requests p a =
    requests_of-append p.opened (paired p.loaded p.got) ∙ ap (λ rs. requests_of p.opened ++ rs) (requests_of-paired p.loaded p.got a.got)

taken_stands : (f : Fabric) (ph : Phase) (p : CorePort) → IsAnswered p → StandsIn f ph p → StandsIn f ph (with_taken p)
taken_stands f Idle p a s = (ap (λ ps. ps ++ paired p.loaded p.got) s.0 ∙ ap (λ rs. paired rs p.got) s.1, refl)
taken_stands f (Wants set) p a s = (ap (λ ps. ps ++ paired p.loaded p.got) s.0 ∙ ap (λ rs. paired rs p.got) s.1, refl)
taken_stands f (Holds set) p a s =
    (subst (λ rs. AllGoIn f set rs) (sym (taken_requests p a)) (go_append f set (requests_of p.opened) p.loaded s.0 s.1), tt)
taken_stands f Leaves p a s = (ap (λ ps. ps ++ paired p.loaded p.got) s.0 ∙ ap (λ rs. paired rs p.got) s.1, refl)

take_replaces : (f : Fabric) (p : CorePort) → IsAnswered p → StandsIn f p.phase p → IsReplacement f p (with_taken p)
take_replaces f p a stands =
    let whole : take p.sent p.loaded ≡ p.loaded = take_all p.sent p.loaded (omega (arith, a.sent)) in
    record {
      operations =
          append-nil (requests_of (p.opened ++ paired p.loaded p.got)) ∙ taken_requests p a ∙ ap (λ rs. requests_of p.opened ++ rs) (sym whole);
      replies =
          append-nil (answers_of (p.opened ++ paired p.loaded p.got) ++ []) ∙ append-nil (answers_of (p.opened ++ paired p.loaded p.got))
          ∙ answers_of-append p.opened (paired p.loaded p.got)
          ∙ ap (λ ys. answers_of p.opened ++ ys) (answers_of-paired p.loaded p.got a.got)
          ∙ sym (ap (λ os. answers_of p.opened ++ p.got ++ answers_owed os) a.owed ∙ append-nil (answers_of p.opened ++ p.got));
      kept = λ t h. h;
      back = λ t h. h;
      stand = taken_stands f p.phase p a stands;
      queue = queue_unloaded f p.phase (p.opened ++ paired p.loaded p.got);
    }

pub take_sound : (f : Fabric) (ok : IsFabric f) (core : Core) → IsSoundCore f core → (m : ℕ) → CanTake f core m → IsSoundCore f (taken core m)
take_sound f ok core s m can =
    replaced_sound f ok core s m can.within (with_taken (port core m))
    (take_replaces f (port core m) (answered_is f (port core m) (s.queues m) can.none_pending) (s.stand m))
