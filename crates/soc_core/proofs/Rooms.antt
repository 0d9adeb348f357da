-- What there is room for, over the events.
use Rattle.std.proofs.Common.{◌≡◌, ◌≢◌, ℕ, zero, suc, ◌+◌, ◌<◌, ◌≤◌, ◌==◌, List, [], ◌∷◌, length, get_or, set, map, count_by, Bool, true, false, cond, Some, None, refl, ap, sym, ◌∙◌, subst, arith}
use Rattle.std.specs.Int.{bit_at}
use Rattle.std.proofs.lemmas.List.Sums.{sum_by-cons}
use Rattle.wb_signals.specs.Request.{Request}
use Rattle.soc_core.specs.Fabric.{Fabric, IsFabric}
use Rattle.soc_core.specs.Core.{Phase, Idle, Wants, Holds, Leaves, CorePort, Core, port, resting_port, unloaded, with_port, with_load, with_taken, with_phase, phase_after, clocked, granted_from, raised_of, raised, loaded, taken, released, CanRaise, CanLoad, CanTake, CanRelease, IsTick}
use Rattle.soc_core.specs.Sound.{IsSoundCore, Room, HasSpare, is_busy, is_busy_phase}
use Rattle.soc_core.proofs.Ports.{each_port}
use Rattle.soc_core.proofs.Bounds.{port-tick}

abbrev pub one_if : Phase → ℕ
one_if ph = cond (is_busy_phase ph) 1 0

abbrev pub one_if_busy : CorePort → ℕ
one_if_busy p = cond (is_busy p) 1 0

abbrev pub busy : List CorePort → ℕ
busy = count_by is_busy

-- one port replaced
busy_set : (ports : List CorePort) (m : ℕ) (p : CorePort) → m < length ports
    → busy (set ports m p) + one_if_busy (get_or ports m resting_port) ≡ busy ports + one_if_busy p
busy_set [] m p within = absurd (let never : ⊥ = omega (arith, within) in never)
busy_set (q ∷ ports) zero p within =
    let a = sum_by-cons one_if_busy p ports in
    let b = sum_by-cons one_if_busy q ports in
    omega (arith, a, b)
busy_set (q ∷ ports) (suc m) p within =
    let a = sum_by-cons one_if_busy q (set ports m p) in
    let b = sum_by-cons one_if_busy q ports in
    let more = busy_set ports m p (omega (arith, within)) in
    omega (arith, a, b, more)

pub at_most_one : (p : CorePort) → one_if_busy p ≤ 1
at_most_one p = by (is_busy p)
  where
    by : (b : Bool) → cond b 1 0 ≤ 1
    by true = omega arith
    by false = omega arith

-- a port that has raised CYC counts
busy_raised : (p : CorePort) (s : ℕ) → raised_of p.phase ≡ Some s → one_if_busy p ≡ 1
busy_raised p s raises = by p.phase raises
  where
    by : (ph : Phase) → raised_of ph ≡ Some s → one_if ph ≡ 1
    by Idle e = absurd (let never : None ≡ Some s = e in cc)
    by (Wants t) e = refl
    by (Holds t) e = refl
    by Leaves e = absurd (let never : None ≡ Some s = e in cc)

-- ---- a tick

busy_after : (b : Bool) (ph : Phase) → is_busy_phase (phase_after b ph) ≡ is_busy_phase ph
busy_after b Idle = refl
busy_after true (Wants set) = refl
busy_after false (Wants set) = refl
busy_after b (Holds set) = refl
busy_after b Leaves = refl

busy_granted : (grant n : ℕ) (ports : List CorePort) → busy (granted_from grant n ports) ≡ busy ports
busy_granted grant n [] = refl
busy_granted grant n (p ∷ ports) =
    let a = sum_by-cons one_if_busy (with_phase (phase_after (bit_at grant n == 1) p.phase) p) (granted_from grant (suc n) ports) in
    let b = sum_by-cons one_if_busy p ports in
    let c : one_if_busy (with_phase (phase_after (bit_at grant n == 1) p.phase) p) ≡ one_if_busy p = ap (λ t. cond t 1 0) (busy_after (bit_at grant n == 1) p.phase) in
    let more = busy_granted grant (suc n) ports in
    omega (arith, a, b, c, more)

busy_clocked : (f : Fabric) (core : Core) (ports : List CorePort) → busy (map (clocked f core.contents) ports) ≡ busy ports
busy_clocked f core [] = refl
busy_clocked f core (p ∷ ports) =
    let a = sum_by-cons one_if_busy (clocked f core.contents p) (map (clocked f core.contents) ports) in
    let b = sum_by-cons one_if_busy p ports in
    let more = busy_clocked f core ports in
    omega (arith, a, b, more)

-- A tick needs no more room.
pub tick_room : (f : Fabric) → IsFabric f → (old new : Core) (room : Room) → IsSoundCore f old → IsTick f old new → HasSpare old room → HasSpare new room
tick_room f ok old new room s t has = record {
  entries =
      let same : busy new.ports ≡ busy old.ports =
      ap (λ (c : Core). busy c.ports) t.core ∙ busy_clocked f old (granted_from t.grant 0 old.ports) ∙ busy_granted t.grant 0 old.ports in
      omega (arith, same, has.entries);
  pairs = λ m. subst (λ (p : CorePort). length p.loaded ≤ get_or room.pairs m 0) (sym (port-tick f ok old new s t m)) (has.pairs m);
}

-- ---- the events of one port

module _ (f : Fabric) (core : Core) (s : IsSoundCore f core) (m : ℕ) (within : m < f.ports) (p : CorePort) (old new : Room)
    (has : HasSpare core old) (others : (n : ℕ) → n ≢ m → get_or old.pairs n 0 ≤ get_or new.pairs n 0) (own : length p.loaded ≤ get_or new.pairs m 0) where
  inside : m < length core.ports
  inside = subst (λ n. m < n) (sym s.ports) within

  pairs_room : (n : ℕ) → length (get_or (set core.ports m p) n resting_port).loaded ≤ get_or new.pairs n 0
  pairs_room = each_port (λ n q. length q.loaded ≤ get_or new.pairs n 0) core.ports m p inside own (λ n other. let a = has.pairs n in let b = others n other in omega (arith, a, b))

  pub port_room : busy core.ports + one_if_busy p ≤ new.entries + one_if_busy (port core m) → HasSpare (with_port core m p) new
  port_room enough = record {
    entries = let e = busy_set core.ports m p inside in omega (arith, e, enough);
    pairs = pairs_room;
  }

-- A raise wants one more entry of room.
pub raise_room : (f : Fabric) (core : Core) (m set : ℕ) (old new : Room) → IsSoundCore f core → CanRaise f core m set → HasSpare core old
    → ((n : ℕ) → n ≢ m → get_or old.pairs n 0 ≤ get_or new.pairs n 0) → busy core.ports + 1 ≤ new.entries → HasSpare (raised core m set) new
raise_room f core m set old new s can has others enough =
    port_room f core s m can.within (unloaded (Wants set) []) old new has others (omega arith) (omega (arith, enough))

-- A load wants room for its pairs.
pub load_room : (f : Fabric) (core : Core) (m : ℕ) (ops : List Request) (old new : Room) → IsSoundCore f core → CanLoad f core m ops → HasSpare core old
    → ((n : ℕ) → n ≢ m → get_or old.pairs n 0 ≤ get_or new.pairs n 0) → length ops ≤ get_or new.pairs m 0 → old.entries ≤ new.entries → HasSpare (loaded core m ops) new
load_room f core m ops old new s can has others enough entries =
    port_room f core s m can.within (with_load ops (port core m)) old new has others enough (let e = has.entries in omega (arith, e, entries))

-- A take leaves the room of the others.
pub take_room : (f : Fabric) (core : Core) (m : ℕ) (old new : Room) → IsSoundCore f core → CanTake f core m → HasSpare core old
    → ((n : ℕ) → n ≢ m → get_or old.pairs n 0 ≤ get_or new.pairs n 0) → old.entries ≤ new.entries → HasSpare (taken core m) new
take_room f core m old new s can has others entries =
    port_room f core s m can.within (with_taken (port core m)) old new has others (omega arith) (let e = has.entries in omega (arith, e, entries))

-- A release uses one entry of room at most.
pub release_room : (f : Fabric) (core : Core) (m : ℕ) (cut : Bool) (old new : Room) → IsSoundCore f core → CanRelease f core m → HasSpare core old
    → ((n : ℕ) → n ≢ m → get_or old.pairs n 0 ≤ get_or new.pairs n 0) → old.entries ≤ new.entries + 1 → HasSpare (released core m cut) new
release_room f core m cut old new s can has others entries =
    let r = port_room f core s m can.within (unloaded Leaves []) old new has others (omega arith)
    (let e = has.entries in let one = busy_raised (port core m) can.raised.0 can.raised.1 in omega (arith, e, entries, one)) in
    record { entries = r.entries; pairs = r.pairs }

-- Where a port is idle, not all are busy.
pub busy_most : (ports : List CorePort) → busy ports ≤ length ports
busy_most [] = omega arith
busy_most (p ∷ ports) = let a = sum_by-cons one_if_busy p ports in let b = at_most_one p in let more = busy_most ports in omega (arith, a, b, more)

pub busy_idle : (ports : List CorePort) (m : ℕ) → m < length ports → one_if_busy (get_or ports m resting_port) ≡ 0 → busy ports + 1 ≤ length ports
busy_idle [] m within idle = absurd (let never : ⊥ = omega (arith, within) in never)
busy_idle (p ∷ ports) zero within idle = let a = sum_by-cons one_if_busy p ports in let more = busy_most ports in omega (arith, a, idle, more)
busy_idle (p ∷ ports) (suc m) within idle =
    let a = sum_by-cons one_if_busy p ports in
    let b = at_most_one p in
    let more = busy_idle ports m (omega (arith, within)) idle in
    omega (arith, a, b, more)
