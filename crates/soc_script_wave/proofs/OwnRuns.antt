-- What a master does before a tick keeps its own part on its script.
use Rattle.std.proofs.Common.{◌≡◌, ◌≢◌, ℕ, zero, suc, ◌+◌, ◌-◌, ◌<◌, ◌≤◌, ◌==◌, ◌&&◌, Bool, true, false, if◌then◌else◌, List, [], ◌∷◌, ◌++◌, length, map, refl, sym, ap, ◌∙◌, subst, arith, append_assoc, inl, inr, get_or-set_same, get_or-set_other}
use Rattle.std.specs.Prelude.{◌⊎◌, nat_le, slice_index_or, slice_set, Some}
use Rattle.wb_signals.specs.Request.{Request}
use Rattle.wb_signals.specs.History.{Pair, Entry, Group, marked, own, requests_of}
use Rattle.wb_signals.specs.Cycles.{paired, ended}
use Rattle.wb_signals.proofs.CycleLemmas.{requests_of-append}
use Rattle.soc_core.specs.Fabric.{Fabric, IsFabric, AllGoIn}
use Rattle.wb_signals.specs.Cycles.{made_with}
use Rattle.soc_core.specs.Core.{Phase, Idle, Wants, Holds, Leaves, CorePort, Core, port, resting_port, pending, ticks_left, unloaded, with_load, with_taken, raised_of, raised, loaded, taken, released, phase_after, CanRaise, CanLoad, CanTake, CanRelease}
use Rattle.soc_core.specs.Sound.{StandsIn, IsSoundCore}
use Rattle.soc_core.specs.Built.{set_of_cycle}
use Rattle.soc_script.specs.Script.{ScriptLine}
use Rattle.soc_script.specs.Cycles.{ScriptCycle, ops_of_lines}
use Rattle.soc_script_wave.specs.Sets.{IsLine, AllLines, set_of_lines, set_at, mark_at}
use Rattle.soc_script_wave.specs.ScriptWave.{lines_at}
use Rattle.soc_script_wave.specs.ScriptOwn.{asked_by}
use Rattle.soc_script_wave.specs.Work.{line_work, work, after_first, holding_work, work_as, port_work}
use Rattle.soc_script_wave.specs.Runner.{is_loaded, is_through, after_taken, settled_if, settled, left_if, lines_left, load_if, begun_by, begun_if, advanced, prepared}
use Rattle.soc_wave.proofs.Lists.{append-nil}
use Rattle.soc_wave.proofs.PortRows.{true_false}
use Rattle.soc_core.proofs.Bounds.{ticks_left-load}
use Rattle.soc_wave.proofs.Exchanged.{requests_of-paired}
use Rattle.soc_script_wave.proofs.ScriptCycles.{AllCome, lines_from, lines-next, EndsAs, AreCycles, cycle_ends, ends_here, holds_here, ops-append}
use Rattle.soc_script_wave.proofs.CycleSets.{opening_below, line_goes, set_lines}
use Rattle.soc_script_wave.proofs.Preparing.{lines-append, first_line, not_through, through, some_ops, loaded_some}

-- ---- the cycles asked so far

abbrev pub asked_first : ℕ → List ScriptCycle → List Group
asked_first zero cycles = []
asked_first (suc k) [] = []
asked_first (suc k) (c ∷ cycles) = asked_by c ∷ asked_first k cycles

pub asked-next : (k : ℕ) (cycles : List ScriptCycle) → k < length cycles → asked_first (suc k) cycles ≡ asked_first k cycles ++ record { cut = mark_at cycles k; ops = ops_of_lines (lines_at cycles k) } ∷ []
asked-next k [] lt = absurd (omega (arith, lt))
asked-next zero (c ∷ cycles) lt = refl
asked-next (suc k) (c ∷ cycles) lt = ap (λ l. asked_by c ∷ l) (asked-next k cycles (omega (arith, lt)))

pub asked-all : (k : ℕ) (cycles : List ScriptCycle) → length cycles ≤ k → asked_first k cycles ≡ map asked_by cycles
asked-all zero [] le = refl
asked-all (suc k) [] le = refl
asked-all zero (c ∷ cycles) le = absurd (omega (arith, le))
asked-all (suc k) (c ∷ cycles) le = ap (λ l. asked_by c ∷ l) (asked-all k cycles (omega (arith, le)))

-- ---- a port between two ticks, k of its cycles having ended

pub record OwnLine (f : Fabric) (cycles : List ScriptCycle) (p : CorePort) (todo : List ScriptLine) (set k : ℕ) (done : List ScriptLine) (h : ScriptLine) (rest : List ScriptLine) : Type 0 where
  pub below : k < length cycles
  pub named : set ≡ set_at f cycles k
  pub lines : lines_at cycles k ≡ done ++ h ∷ rest
  pub todo_is : todo ≡ h ∷ rest ++ lines_from cycles (suc k)
  pub opened : requests_of p.opened ≡ ops_of_lines done
  pub loaded : (p.loaded ≡ []) ⊎ (p.loaded ≡ h.ops)

abbrev pub OwnAs : Fabric → List ScriptCycle → CorePort → List ScriptLine → ℕ → Phase → Type 0
OwnAs f cycles p todo k Idle = todo ≡ lines_from cycles k
OwnAs f cycles p todo k (Wants set) = (todo ≡ lines_from cycles k) × (k < length cycles) × (set ≡ set_at f cycles k)
OwnAs f cycles p todo k (Holds set) = (done : List ScriptLine) × (h : ScriptLine) × (rest : List ScriptLine) × OwnLine f cycles p todo set k done h rest
OwnAs f cycles p todo k Leaves = todo ≡ lines_from cycles k

-- ---- own parts

abbrev entry_if : Bool → Entry → List Entry → List Entry
entry_if b e entries = if b then e ∷ entries else entries

own_behind : (b : Bool) (e : Entry) (whole xs ys : List Entry) → whole ≡ xs ++ ys → entry_if b e whole ≡ entry_if b e xs ++ ys
own_behind true e whole xs ys is = ap (λ l. e ∷ l) is
own_behind false e whole xs ys is = is

own-both : (m : ℕ) (xs ys : List Entry) → own m (xs ++ ys) ≡ own m xs ++ own m ys
own-both m [] ys = refl
own-both m (e ∷ xs) ys = own_behind (e.master == m) e (own m (xs ++ ys)) (own m xs) (own m ys) (own-both m xs ys)

same_yes : (a : ℕ) → (a == a) ≡ true
same_yes a = grind arith

other_no : (a b : ℕ) → a ≢ b → (a == b) ≡ false
other_no a b other = grind arith

map-both : (xs ys : List Entry) → map marked (xs ++ ys) ≡ map marked xs ++ map marked ys
map-both [] ys = refl
map-both (e ∷ xs) ys = ap (λ l. marked e ∷ l) (map-both xs ys)

-- one more entry of the master
own_ended : (m : ℕ) (cut : Bool) (entries : List Entry) (pairs : List Pair) → map marked (own m (ended m cut entries pairs)) ≡ map marked (own m entries) ++ record { cut = cut; ops = requests_of pairs } ∷ []
own_ended m cut entries pairs =
    let e : Entry = record { master = m; cut = cut; pairs = pairs } in
    ap (λ l. map marked l) (own-both m entries (e ∷ []) ∙ ap (λ b. own m entries ++ entry_if b e []) (same_yes m)) ∙ map-both (own m entries) (e ∷ [])

own_other : (m n : ℕ) (cut : Bool) (entries : List Entry) (pairs : List Pair) → n ≢ m → own n (ended m cut entries pairs) ≡ own n entries
own_other m n cut entries pairs other =
    let e : Entry = record { master = m; cut = cut; pairs = pairs } in
    own-both n entries (e ∷ []) ∙ ap (λ b. own n entries ++ entry_if b e []) (other_no m n (λ same. other (sym same))) ∙ append-nil (own n entries)

own_ended_with : (m n : ℕ) (cut : Bool) (entries : List Entry) (pairs : List Pair) → n ≢ m → own n (made_with m cut entries pairs) ≡ own n entries
own_ended_with m n cut entries [] other = refl
own_ended_with m n cut entries (p ∷ pairs) other = own_other m n cut entries (p ∷ pairs) other

own_some : (m : ℕ) (cut : Bool) (entries : List Entry) (pairs : List Pair) → requests_of pairs ≢ [] → map marked (own m (made_with m cut entries pairs)) ≡ map marked (own m entries) ++ record { cut = cut; ops = requests_of pairs } ∷ []
own_some m cut entries [] some = absurd (some refl)
own_some m cut entries (p ∷ pairs) some = own_ended m cut entries (p ∷ pairs)

some_back : (xs ys : List Request) → ys ≢ [] → xs ++ ys ≢ []
some_back [] ys some none = some none
some_back (x ∷ xs) ys some none = let n : suc (length (xs ++ ys)) ≡ 0 = ap (λ l. length l) none in omega (arith, n)

first_of : (cut : Bool) (lines : List ScriptLine) → EndsAs cut lines → (h : ScriptLine) × (rest : List ScriptLine) × (lines ≡ h ∷ rest)
first_of cut [] ends = absurd ends
first_of cut (l ∷ lines) ends = (l, lines, refl)

-- ---- how a master's work falls

-- a port that has something to do without waiting for others
abbrev pub IsActive : Phase → List ScriptLine → Type 0
IsActive Idle todo = todo ≢ []
IsActive (Wants set) todo = ⊥
IsActive (Holds set) todo = Unit {0}
IsActive Leaves todo = ⊥

-- a port whose work falls in the next tick
abbrev pub WillFall : CorePort → Type 0
WillFall q = (q.phase ≡ Leaves) ⊎ ((set : ℕ) × (q.phase ≡ Holds set) × (is_loaded q.loaded ≡ true) × (pending q ≢ 0))

pub record Works (f : Fabric) (t : ℕ) (p : CorePort) (before : List ScriptLine) (q : CorePort) (todo : List ScriptLine) : Type 0 where
  pub less : port_work f q todo ≤ port_work f p before
  pub acts : AllCome t before → IsActive p.phase before → (port_work f q todo < port_work f p before) ⊎ WillFall q

busy_line : (p : CorePort) (h : ScriptLine) → p.loaded ≡ h.ops → 1 ≤ length h.ops → is_loaded p.loaded ≡ true
busy_line p h ops some = ap is_loaded ops ∙ loaded_some h.ops some

still_pending : (p : CorePort) (h : ScriptLine) → p.loaded ≡ h.ops → 1 ≤ length h.ops → is_through p ≡ false → pending p ≢ 0
still_pending p h ops some not none =
    let through_it : is_through p ≡ true = ap (λ b. b && (pending p == 0)) (busy_line p h ops some) ∙ ap (λ (n : ℕ). n == 0) none in
    true_false (sym through_it ∙ not)

late_by : (a b : ℕ) → nat_le a b ≡ false → a ≤ b → ⊥
late_by a b late le = let gt : b < a = grind (arith, late) in omega (arith, gt, le)

late_never : (t : ℕ) (l : ScriptLine) (lines : List ScriptLine) → nat_le l.clock t ≡ false → AllCome t (l ∷ lines) → ⊥
late_never t l lines late come = let le : l.clock ≤ t = come.0 in late_by l.clock t late le

-- ---- one master

-- What is kept by each event of a port, and makes a core sound.
pub record IsKept (f : Fabric) (I : Core → Type 0) : Type 0 where
  pub sound : (core : Core) → I core → IsSoundCore f core
  pub raise : (core : Core) (m set : ℕ) → I core → CanRaise f core m set → I (raised core m set)
  pub load : (core : Core) (m : ℕ) (ops : List Request) → I core → CanLoad f core m ops → I (loaded core m ops)
  pub take : (core : Core) (m : ℕ) → I core → CanTake f core m → I (taken core m)
  pub release : (core : Core) (m : ℕ) (cut : Bool) → I core → CanRelease f core m → I (released core m cut)

module _ (f : Fabric) (fits : IsFabric f) (I : Core → Type 0) (keeps : IsKept f I) (t m : ℕ) (lt : m < f.ports)
    (cycles : List ScriptCycle) (are : AreCycles cycles) (all : (n : ℕ) → AllLines f (lines_at cycles n)) where
  -- k cycles have ended
  pub record OwnState (core : Core) (todo : List ScriptLine) (k : ℕ) : Type 0 where
    pub kept : I core
    pub follows : OwnAs f cycles (port core m) todo k (port core m).phase
    pub asked : map marked (own m core.journal) ≡ asked_first k cycles

  pub record OwnPrepared (old new : Core) (before todo : List ScriptLine) : Type 0 where
    pub ended_now : ℕ
    pub state : OwnState new todo ended_now
    pub works : Works f t (port old m) before (port new m) todo
    pub others : (n : ℕ) → n ≢ m → port new n ≡ port old n
    pub owns : (n : ℕ) → n ≢ m → own n new.journal ≡ own n old.journal

  set_same : (core : Core) (p : CorePort) → I core → slice_index_or (slice_set core.ports m p) m resting_port ≡ p
  set_same core p i = let within : m < length core.ports = omega (arith, (keeps.sound core i).ports, lt) in get_or-set_same core.ports m p resting_port within

  set_other : (core : Core) (p : CorePort) (n : ℕ) → n ≢ m → slice_index_or (slice_set core.ports m p) n resting_port ≡ port core n
  set_other core p n other = get_or-set_other core.ports m n p resting_port other

  stays : (core : Core) (todo : List ScriptLine) (k : ℕ) → OwnState core todo k → (AllCome t todo → IsActive (port core m).phase todo → WillFall (port core m)) → OwnPrepared core core todo todo
  stays core todo k s acts = record {
    ended_now = k;
    state = s;
    works = record { less = omega arith; acts = λ come active. inr (acts come active) };
    others = λ n other. refl;
    owns = λ n other. refl;
  }

  follows_at : (p q : CorePort) (todo : List ScriptLine) (k : ℕ) → q ≡ p → OwnAs f cycles p todo k p.phase → OwnAs f cycles q todo k q.phase
  follows_at p q todo k is follows = subst (λ (x : CorePort). OwnAs f cycles x todo k x.phase) (sym is) follows

  follows_phase : (p : CorePort) (todo : List ScriptLine) (k : ℕ) (phase : Phase) → p.phase ≡ phase → OwnAs f cycles p todo k phase → OwnAs f cycles p todo k p.phase
  follows_phase p todo k phase is follows = subst (λ ph. OwnAs f cycles p todo k ph) (sym is) follows

  falls_at : (old : CorePort) (before : List ScriptLine) (p q : CorePort) (todo : List ScriptLine) → q ≡ p → port_work f p todo < port_work f old before → Works f t old before q todo
  falls_at old before p q todo is falls =
      let lt : port_work f q todo < port_work f old before = subst (λ (x : CorePort). port_work f x todo < port_work f old before) (sym is) falls in
      record { less = omega (arith, lt); acts = λ come active. inl lt }

  -- the work of a port in a phase
  phase_work : (p : CorePort) (todo : List ScriptLine) (phase : Phase) → p.phase ≡ phase → port_work f p todo ≡ work_as f phase p todo
  phase_work p todo phase is = ap (λ ph. work_as f ph p todo) is

  -- a load: its own steps are done
  load_falls : (p : CorePort) (h : ScriptLine) (todo rest : List ScriptLine) (set : ℕ) → p.phase ≡ Holds set → p.loaded ≡ [] → todo ≡ h ∷ rest → 1 ≤ length h.ops → port_work f (with_load h.ops p) todo < port_work f p todo
  load_falls p h todo rest set is none todo_is some =
      let old : port_work f p todo ≡ work f todo - 2 = phase_work p todo (Holds set) is ∙ ap (λ ops. holding_work f (is_loaded ops) p todo) none in
      let new : port_work f (with_load h.ops p) todo ≡ work f (after_first todo) + 1 + ticks_left f (with_load h.ops p) =
      phase_work (with_load h.ops p) todo (Holds set) is ∙ ap (λ b. holding_work f b (with_load h.ops p) todo) (loaded_some h.ops some) in
      let all : work f todo ≡ line_work f h + work f rest = ap (work f) todo_is in
      let after : work f (after_first todo) ≡ work f rest = ap (λ ls. work f (after_first ls)) todo_is in
      let ticks = ticks_left-load f h.ops p in
      omega (arith, old, new, all, after, ticks)

  loaded_work : (p : CorePort) (h : ScriptLine) (rest : List ScriptLine) (set : ℕ) → p.phase ≡ Holds set → p.loaded ≡ h.ops → 1 ≤ length h.ops → port_work f p (h ∷ rest) ≡ work f rest + 1 + ticks_left f p
  loaded_work p h rest set is ops some = phase_work p (h ∷ rest) (Holds set) is ∙ ap (λ b. holding_work f b p (h ∷ rest)) (busy_line p h ops some)

  released_works : (p : CorePort) (h : ScriptLine) (todo : List ScriptLine) (q : CorePort) (set : ℕ) → q ≡ unloaded Leaves [] → p.phase ≡ Holds set → p.loaded ≡ h.ops → 1 ≤ length h.ops → Works f t p (h ∷ todo) q todo
  released_works p h todo q set here is ops some =
      let old = loaded_work p h todo set is ops some in
      let phase : q.phase ≡ Leaves = ap (λ (x : CorePort). x.phase) here in
      let new = phase_work q todo Leaves phase in
      record { less = omega (arith, old, new); acts = λ come active. inr (inl phase) }

  taken_works : (p mid q : CorePort) (h next : ScriptLine) (rest : List ScriptLine) (set : ℕ) → p.phase ≡ Holds set → p.loaded ≡ h.ops → mid.phase ≡ Holds set → mid.loaded ≡ [] → 1 ≤ length h.ops
      → port_work f q (next ∷ rest) ≤ port_work f mid (next ∷ rest) → Works f t p (h ∷ next ∷ rest) q (next ∷ rest)
  taken_works p mid q h next rest set is ops phase none some le =
      let old = loaded_work p h (next ∷ rest) set is ops some in
      let between : port_work f mid (next ∷ rest) ≡ work f (next ∷ rest) - 2 = phase_work mid (next ∷ rest) (Holds set) phase ∙ ap (λ ops. holding_work f (is_loaded ops) mid (next ∷ rest)) none in
      let lt : port_work f q (next ∷ rest) < port_work f p (h ∷ next ∷ rest) = omega (arith, old, between, le) in
      record { less = omega (arith, lt); acts = λ come active. inl lt }

  -- an event that leaves the journal
  changes : (core new : Core) (todo : List ScriptLine) (k : ℕ) (p : CorePort) → I new → new.ports ≡ slice_set core.ports m p → new.journal ≡ core.journal → I core
      → OwnAs f cycles p todo k p.phase → map marked (own m core.journal) ≡ asked_first k cycles → port_work f p todo < port_work f (port core m) todo → OwnPrepared core new todo todo
  changes core new todo k p kept ports journal i follows asked falls =
      let here : port new m ≡ p = ap (λ l. slice_index_or l m resting_port) ports ∙ set_same core p i in
      record {
        ended_now = k;
        state = record { kept = kept; follows = follows_at p (port new m) todo k here follows; asked = ap (λ l. map marked (own m l)) journal ∙ asked };
        works = falls_at (port core m) todo p (port new m) todo here falls;
        others = λ n other. ap (λ l. slice_index_or l n resting_port) ports ∙ set_other core p n other;
        owns = λ n other. ap (λ l. own n l) journal;
      }

  -- ---- no cycle

  idle_begins : (core : Core) (l : ScriptLine) (todo : List ScriptLine) (k : ℕ) → OwnState core (l ∷ todo) k → (port core m).phase ≡ Idle → l ∷ todo ≡ lines_from cycles k → (b : Bool) → nat_le l.clock t ≡ b → OwnPrepared core (begun_if f b m l core) (l ∷ todo) (l ∷ todo)
  idle_begins core l todo k s is todo_is false late = stays core (l ∷ todo) k s (λ come active. absurd (late_never t l todo late come))
  idle_begins core l todo k s is todo_is true now =
      let first = first_line cycles k are l todo (sym todo_is) in
      let set : ℕ = set_of_cycle f l.ops l.last in
      let can : CanRaise f core m set = record { within = lt; idle = is; slaves = opening_below f fits l.last l.ops } in
      let named : set ≡ set_at f cycles k = sym (set_lines f cycles k ∙ ap (λ ls. set_of_lines f ls) first.2) in
      let whole = changes core (raised core m set) (l ∷ todo) k (unloaded (Wants set) []) (keeps.raise core m set s.kept can) refl refl s.kept (todo_is, first.0, named) s.asked
      (let old = phase_work (port core m) (l ∷ todo) Idle is in omega (arith, old)) in
      subst (λ ph. OwnPrepared core (begun_by f ph m l core) (l ∷ todo) (l ∷ todo)) (sym is) whole

  settles_not : (core : Core) (todo : List ScriptLine) → is_through (port core m) ≡ false → settled m todo core ≡ core
  settles_not core [] not = refl
  settles_not core (l ∷ todo) not = ap (λ b. settled_if b m l todo core) not

  left_not : (p : CorePort) (todo : List ScriptLine) → is_through p ≡ false → lines_left p todo ≡ todo
  left_not p [] not = refl
  left_not p (l ∷ todo) not = ap (λ b. left_if b l todo) not

  prepared_not : (core : Core) (todo : List ScriptLine) → is_through (port core m) ≡ false → OwnPrepared core (advanced f t m todo core) todo todo → OwnPrepared core (prepared f t m todo core) todo (lines_left (port core m) todo)
  prepared_not core todo off p =
      subst (λ l. OwnPrepared core (advanced f t m l (settled m todo core)) todo l) (sym (left_not (port core m) todo off))
      (subst (λ c. OwnPrepared core (advanced f t m todo c) todo todo) (sym (settles_not core todo off)) p)

  prepare_idle : (core : Core) (todo : List ScriptLine) (k : ℕ) → OwnState core todo k → (port core m).phase ≡ Idle → todo ≡ lines_from cycles k → OwnPrepared core (advanced f t m todo core) todo todo
  prepare_idle core [] k s is todo_is = stays core [] k s (λ come active. absurd (subst (λ ph. IsActive ph []) is active refl))
  prepare_idle core (l ∷ todo) k s is todo_is = idle_begins core l todo k s is todo_is (nat_le l.clock t) refl

  -- a port that does nothing
  rests_by : (core : Core) (l : ScriptLine) (phase : Phase) → (port core m).phase ≡ phase → ((c : Core) → begun_by f phase m l c ≡ c) → (b : Bool) → begun_if f b m l core ≡ core
  rests_by core l phase is none true = ap (λ ph. begun_by f ph m l core) is ∙ none core
  rests_by core l phase is none false = refl

  prepare_rest : (core : Core) (todo : List ScriptLine) (k : ℕ) (phase : Phase) → OwnState core todo k → (port core m).phase ≡ phase → ((l : ScriptLine) (c : Core) → begun_by f phase m l c ≡ c) → ((ls : List ScriptLine) → IsActive phase ls → ⊥) → OwnPrepared core (advanced f t m todo core) todo todo
  prepare_rest core [] k phase s is none rests = stays core [] k s (λ come active. absurd (rests [] (subst (λ ph. IsActive ph []) is active)))
  prepare_rest core (l ∷ todo) k phase s is none rests = subst (λ c. OwnPrepared core c (l ∷ todo) (l ∷ todo)) (sym (rests_by core l phase is (none l) (nat_le l.clock t)))
      (stays core (l ∷ todo) k s (λ come active. absurd (rests (l ∷ todo) (subst (λ ph. IsActive ph (l ∷ todo)) is active))))

  -- ---- a cycle that holds its set

  ends_at : (n : ℕ) → n < length cycles → EndsAs (mark_at cycles n) (lines_at cycles n) × (mark_at cycles n ≡ true → lines_from cycles (suc n) ≡ [])
  ends_at n below = cycle_ends cycles n are below

  is_line : (n : ℕ) (done : List ScriptLine) (h : ScriptLine) (rest : List ScriptLine) → lines_at cycles n ≡ done ++ h ∷ rest → IsLine f h
  is_line n done h rest is = (lines-append f done (h ∷ rest) (subst (λ ls. AllLines f ls) is (all n))).1.0

  line_with : (p q : CorePort) (todo : List ScriptLine) (set k : ℕ) (done : List ScriptLine) (h : ScriptLine) (rest : List ScriptLine) → OwnLine f cycles p todo set k done h rest → q.opened ≡ p.opened
      → ((q.loaded ≡ []) ⊎ (q.loaded ≡ h.ops)) → OwnLine f cycles q todo set k done h rest
  line_with p q todo set k done h rest r opened now =
      record { below = r.below; named = r.named; lines = r.lines; todo_is = r.todo_is; opened = ap requests_of opened ∙ r.opened; loaded = now }

  start_line : (core : Core) (todo : List ScriptLine) (set k : ℕ) (done : List ScriptLine) (h : ScriptLine) (rest : List ScriptLine) → I core → map marked (own m core.journal) ≡ asked_first k cycles → (port core m).phase ≡ Holds set → (port core m).loaded ≡ []
      → OwnLine f cycles (port core m) todo set k done h rest → (b : Bool) → nat_le h.clock t ≡ b → OwnPrepared core (begun_if f b m h core) todo todo
  start_line core todo set k done h rest i asked is none r false late =
      stays core todo k (record { kept = i; follows = follows_phase (port core m) todo k (Holds set) is (done, h, rest, r); asked = asked })
      (λ come active. absurd (late_never t h (rest ++ lines_from cycles (suc k)) late (subst (AllCome t) r.todo_is come)))
  start_line core todo set k done h rest i asked is none r true now =
      let line = is_line k done h rest r.lines in
      let p : CorePort = port core m in
      let goes : AllGoIn f set h.ops = subst (λ (s : ℕ). AllGoIn f s h.ops) (sym (r.named ∙ set_lines f cycles k ∙ ap (λ ls. set_of_lines f ls) r.lines))
      (line_goes f fits (mark_at cycles k) done h rest (subst (λ ls. EndsAs (mark_at cycles k) ls) r.lines (ends_at k r.below).0)) in
      let can : CanLoad f core m h.ops = record { within = lt; granted = (set, is, goes); nothing = none; some = some_ops h.ops line.some; most = line.most; fit = line.fit } in
      let runs = line_with p (with_load h.ops p) todo set k done h rest r refl (inr refl) in
      let whole = changes core (loaded core m h.ops) todo k (with_load h.ops p) (keeps.load core m h.ops i can) refl refl i (follows_phase (with_load h.ops p) todo k (Holds set) is (done, h, rest, runs)) asked
      (load_falls p h todo (rest ++ lines_from cycles (suc k)) set is none r.todo_is line.some) in
      let code : begun_by f p.phase m h core ≡ loaded core m h.ops = ap (λ ph. begun_by f ph m h core) is ∙ ap (λ ops. load_if (is_loaded ops) m h core) none in
      subst (λ c. OwnPrepared core c todo todo) (sym code) whole

  goes_on : (core : Core) (todo : List ScriptLine) (set k : ℕ) (done : List ScriptLine) (h : ScriptLine) (rest : List ScriptLine) → OwnState core todo k → (port core m).phase ≡ Holds set → (port core m).loaded ≡ h.ops
      → OwnLine f cycles (port core m) todo set k done h rest → is_through (port core m) ≡ false → (b : Bool) → OwnPrepared core (begun_if f b m h core) todo todo
  goes_on core todo set k done h rest s is ops r not false =
      stays core todo k s (λ come active. inr (set, is, busy_line (port core m) h ops (is_line k done h rest r.lines).some, still_pending (port core m) h ops (is_line k done h rest r.lines).some not))
  goes_on core todo set k done h rest s is ops r not true =
      let line = is_line k done h rest r.lines in
      let code : begun_by f (port core m).phase m h core ≡ core = ap (λ ph. begun_by f ph m h core) is ∙ ap (λ l. load_if (is_loaded l) m h core) ops ∙ ap (λ b. load_if b m h core) (loaded_some h.ops line.some) in
      subst (λ c. OwnPrepared core c todo todo) (sym code)
      (stays core todo k s (λ come active. inr (set, is, busy_line (port core m) h ops line.some, still_pending (port core m) h ops line.some not)))

  goes_by : (core : Core) (todo : List ScriptLine) (set k : ℕ) (done : List ScriptLine) (h : ScriptLine) (rest : List ScriptLine) → OwnState core todo k → (port core m).phase ≡ Holds set
      → OwnLine f cycles (port core m) todo set k done h rest → is_through (port core m) ≡ false → (((port core m).loaded ≡ []) ⊎ ((port core m).loaded ≡ h.ops)) → OwnPrepared core (begun_if f (nat_le h.clock t) m h core) todo todo
  goes_by core todo set k done h rest s is r not (inl none) = start_line core todo set k done h rest s.kept s.asked is none r (nat_le h.clock t) refl
  goes_by core todo set k done h rest s is r not (inr ops) = goes_on core todo set k done h rest s is ops r not (nat_le h.clock t)

  -- ---- a line that is through

  abbrev taken_pairs : Core → List Pair
  taken_pairs core = (port core m).opened ++ paired (port core m).loaded (port core m).got

  taken_here : (core : Core) → I core → port (taken core m) m ≡ with_taken (port core m)
  taken_here core i = set_same core (with_taken (port core m)) i

  taken_requests : (core : Core) (done : List ScriptLine) (h : ScriptLine) → I core → requests_of (port core m).opened ≡ ops_of_lines done → (port core m).loaded ≡ h.ops → pending (port core m) ≡ 0
      → requests_of (taken_pairs core) ≡ ops_of_lines (done ++ h ∷ [])
  taken_requests core done h i opened ops none =
      let p : CorePort = port core m in
      let queue = (keeps.sound core i).queues m in
      let same : length p.loaded ≡ length p.got = omega (arith, queue.sent, queue.counted, none) in
      requests_of-append p.opened (paired p.loaded p.got)
      ∙ ap (λ l. l ++ requests_of (paired p.loaded p.got)) opened
      ∙ ap (λ l. ops_of_lines done ++ l) (requests_of-paired p.loaded p.got same ∙ ops ∙ sym (append-nil h.ops))
      ∙ sym (ops-append done (h ∷ []))

  some_of : (done : List ScriptLine) (h : ScriptLine) → 1 ≤ length h.ops → ops_of_lines (done ++ h ∷ []) ≢ []
  some_of [] h some none = some_ops (h.ops ++ []) (subst (λ l. 1 ≤ length l) (sym (append-nil h.ops)) some) none
  some_of (d ∷ done) h some none = some_back d.ops (ops_of_lines (done ++ h ∷ [])) (some_of done h some) none

  releases : (core : Core) (todo : List ScriptLine) (set k : ℕ) (done : List ScriptLine) (h : ScriptLine) (cut : Bool) → I core → map marked (own m core.journal) ≡ asked_first k cycles → (port core m).phase ≡ Holds set → (port core m).loaded ≡ h.ops → pending (port core m) ≡ 0
      → requests_of (port core m).opened ≡ ops_of_lines done → k < length cycles → lines_at cycles k ≡ done ++ h ∷ [] → IsLine f h → todo ≡ lines_from cycles (suc k) → mark_at cycles k ≡ cut → OwnPrepared core (released (taken core m) m cut) (h ∷ todo) todo
  releases core todo set k done h cut i asked is ops none opened below lines line todo_is mark_is =
      let core1 : Core = taken core m in
      let i1 = keeps.take core m i (record { within = lt; none_pending = none }) in
      let here1 = taken_here core i in
      let raised_is : raised_of (port core1 m).phase ≡ Some set = ap (λ (q : CorePort). raised_of q.phase) here1 ∙ ap raised_of is in
      let can : CanRelease f core1 m = record { within = lt; raised = (set, raised_is); nothing = ap (λ (q : CorePort). q.loaded) here1 } in
      let here2 : port (released core1 m cut) m ≡ unloaded Leaves [] = set_same core1 (unloaded Leaves []) i1 in
      let requests = taken_requests core done h i opened ops none in
      let some : requests_of (taken_pairs core) ≢ [] = λ empty. some_of done h line.some (sym requests ∙ empty) in
      let ops_are : requests_of (taken_pairs core) ≡ ops_of_lines (lines_at cycles k) = requests ∙ ap ops_of_lines (sym lines) in
      let one : record { cut = cut; ops = requests_of (taken_pairs core) } ≡ record { cut = mark_at cycles k; ops = ops_of_lines (lines_at cycles k) } = λ j. record { cut = sym mark_is j; ops = ops_are j } in
      record {
        ended_now = suc k;
        state = record {
          kept = keeps.release core1 m cut i1 can;
          follows = follows_at (unloaded Leaves []) (port (released core1 m cut) m) todo (suc k) here2 todo_is;
          asked = ap (λ (q : CorePort). map marked (own m (made_with m cut core.journal q.opened))) here1
              ∙ own_some m cut core.journal (taken_pairs core) some
              ∙ ap (λ l. l ++ record { cut = cut; ops = requests_of (taken_pairs core) } ∷ []) asked
              ∙ ap (λ (a : Group). asked_first k cycles ++ a ∷ []) one
              ∙ sym (asked-next k cycles below);
        };
        works = released_works (port core m) h todo (port (released core1 m cut) m) set here2 is ops line.some;
        others = λ n other. set_other core1 (unloaded Leaves []) n other ∙ set_other core (with_taken (port core m)) n other;
        owns = λ n other. own_ended_with m n cut core.journal (port core1 m).opened other;
      }

  leaves_by : (core : Core) (todo : List ScriptLine) → (port core m).phase ≡ Leaves → advanced f t m todo core ≡ core
  leaves_by core [] is = refl
  leaves_by core (l ∷ todo) is = rests_by core l Leaves is (λ c. refl) (nat_le l.clock t)

  through_last : (core : Core) (set k : ℕ) (done : List ScriptLine) (h : ScriptLine) (rest more : List ScriptLine) → OwnState core (h ∷ rest ++ more) k → (port core m).phase ≡ Holds set → (port core m).loaded ≡ h.ops → pending (port core m) ≡ 0
      → OwnLine f cycles (port core m) (h ∷ rest ++ more) set k done h rest → more ≡ lines_from cycles (suc k) → (cut : Bool) → rest ≡ [] → mark_at cycles k ≡ cut
      → OwnPrepared core (advanced f t m (rest ++ more) (released (taken core m) m cut)) (h ∷ rest ++ more) (rest ++ more)
  through_last core set k done h rest more s is ops none r more_is cut last mark_is =
      let lines : lines_at cycles k ≡ done ++ h ∷ [] = r.lines ∙ ap (λ ls. done ++ h ∷ ls) last in
      let todo_is : rest ++ more ≡ lines_from cycles (suc k) = ap (λ ls. ls ++ more) last ∙ more_is in
      let p = releases core (rest ++ more) set k done h cut s.kept s.asked is ops none r.opened r.below lines (is_line k done h rest r.lines) todo_is mark_is in
      let i1 = keeps.take core m s.kept (record { within = lt; none_pending = none }) in
      let leaves : (port (released (taken core m) m cut) m).phase ≡ Leaves = ap (λ (q : CorePort). q.phase) (set_same (taken core m) (unloaded Leaves []) i1) in
      subst (λ c. OwnPrepared core c (h ∷ rest ++ more) (rest ++ more)) (sym (leaves_by (released (taken core m) m cut) (rest ++ more) leaves)) p

  through_more : (core : Core) (set k : ℕ) (done : List ScriptLine) (h next : ScriptLine) (rest more : List ScriptLine) → OwnState core (h ∷ (next ∷ rest) ++ more) k → (port core m).phase ≡ Holds set → (port core m).loaded ≡ h.ops → pending (port core m) ≡ 0
      → OwnLine f cycles (port core m) (h ∷ (next ∷ rest) ++ more) set k done h (next ∷ rest) → more ≡ lines_from cycles (suc k)
      → OwnPrepared core (begun_if f (nat_le next.clock t) m next (taken core m)) (h ∷ (next ∷ rest) ++ more) (next ∷ rest ++ more)
  through_more core set k done h next rest more s is ops none r more_is =
      let core1 : Core = taken core m in
      let i1 = keeps.take core m s.kept (record { within = lt; none_pending = none }) in
      let here1 = taken_here core s.kept in
      let phase1 : (port core1 m).phase ≡ Holds set = ap (λ (q : CorePort). q.phase) here1 ∙ is in
      let loaded1 : (port core1 m).loaded ≡ [] = ap (λ (q : CorePort). q.loaded) here1 in
      let requests = taken_requests core done h s.kept r.opened ops none in
      let runs : OwnLine f cycles (port core1 m) (next ∷ rest ++ more) set k (done ++ h ∷ []) next rest = record {
        below = r.below;
        named = r.named;
        lines = r.lines ∙ sym (append_assoc done (h ∷ []) (next ∷ rest));
        todo_is = ap (λ ls. next ∷ rest ++ ls) more_is;
        opened = ap (λ (q : CorePort). requests_of q.opened) here1 ∙ requests;
        loaded = inl loaded1;
      } in
      let p = start_line core1 (next ∷ rest ++ more) set k (done ++ h ∷ []) next rest i1 s.asked phase1 loaded1 runs (nat_le next.clock t) refl in
      record {
        ended_now = p.ended_now;
        state = p.state;
        works = taken_works (port core m) (port core1 m) (port (begun_if f (nat_le next.clock t) m next core1) m) h next (rest ++ more) set is ops phase1 loaded1 (is_line k done h (next ∷ rest) r.lines).some p.works.less;
        others = λ n other. p.others n other ∙ set_other core (with_taken (port core m)) n other;
        owns = λ n other. p.owns n other;
      }

  through_by_last : (core : Core) (set k : ℕ) (done : List ScriptLine) (h : ScriptLine) (rest more : List ScriptLine) → OwnState core (h ∷ rest ++ more) k → (port core m).phase ≡ Holds set → (port core m).loaded ≡ h.ops → pending (port core m) ≡ 0
      → OwnLine f cycles (port core m) (h ∷ rest ++ more) set k done h rest → more ≡ lines_from cycles (suc k) → (b : Bool) → h.last ≡ b
      → OwnPrepared core (advanced f t m (rest ++ more) (after_taken m b (rest ++ more) (taken core m))) (h ∷ rest ++ more) (rest ++ more)
  through_by_last core set k done h rest more s is ops none r more_is true last =
      let e = ends_at k r.below in
      let here = ends_here (mark_at cycles k) done h rest (subst (λ ls. EndsAs (mark_at cycles k) ls) r.lines e.0) last in
      through_last core set k done h rest more s is ops none r more_is false here.0 here.1
  through_by_last core set k done h [] more s is ops none r more_is false last =
      let e = ends_at k r.below in
      let cut = holds_here (mark_at cycles k) done h (subst (λ ls. EndsAs (mark_at cycles k) ls) r.lines e.0) last in
      let over : more ≡ [] = more_is ∙ e.1 cut in
      let p = through_last core set k done h [] more s is ops none r more_is true refl cut in
      subst (λ ls. OwnPrepared core (advanced f t m ls (after_taken m false ls (taken core m))) (h ∷ ls) ls) (sym over) (subst (λ ls. OwnPrepared core (advanced f t m ls (released (taken core m) m true)) (h ∷ ls) ls) over p)
  through_by_last core set k done h (next ∷ rest) more s is ops none r more_is false last = through_more core set k done h next rest more s is ops none r more_is

  loaded_is : (p : CorePort) (h : ScriptLine) → p.loaded ≢ [] → ((p.loaded ≡ []) ⊎ (p.loaded ≡ h.ops)) → p.loaded ≡ h.ops
  loaded_is p h some (inl none) = absurd (some none)
  loaded_is p h some (inr ops) = ops

  prepare_line : (core : Core) (set k : ℕ) (done : List ScriptLine) (h : ScriptLine) (rest more : List ScriptLine) → OwnState core (h ∷ rest ++ more) k → (port core m).phase ≡ Holds set
      → OwnLine f cycles (port core m) (h ∷ rest ++ more) set k done h rest → more ≡ lines_from cycles (suc k) → (b : Bool) → is_through (port core m) ≡ b
      → OwnPrepared core (advanced f t m (left_if b h (rest ++ more)) (settled_if b m h (rest ++ more) core)) (h ∷ rest ++ more) (left_if b h (rest ++ more))
  prepare_line core set k done h rest more s is r more_is false not = goes_by core (h ∷ rest ++ more) set k done h rest s is r not r.loaded
  prepare_line core set k done h rest more s is r more_is true yes_it =
      let both = through (port core m) yes_it in
      through_by_last core set k done h rest more s is (loaded_is (port core m) h both.0 r.loaded) both.1 r more_is h.last refl

  prepare_holds : (core : Core) (todo : List ScriptLine) (set k : ℕ) → OwnState core todo k → (port core m).phase ≡ Holds set → (done : List ScriptLine) (h : ScriptLine) (rest : List ScriptLine) → OwnLine f cycles (port core m) todo set k done h rest
      → OwnPrepared core (prepared f t m todo core) todo (lines_left (port core m) todo)
  prepare_holds core todo set k s is done h rest r =
      let more : List ScriptLine = lines_from cycles (suc k) in
      let s2 = subst (λ l. OwnState core l k) r.todo_is s in
      let r2 = subst (λ l. OwnLine f cycles (port core m) l set k done h rest) r.todo_is r in
      let p = prepare_line core set k done h rest more s2 is r2 refl (is_through (port core m)) refl in
      subst (λ l. OwnPrepared core (prepared f t m l core) l (lines_left (port core m) l)) (sym r.todo_is) p

  not_loaded : (core : Core) (phase : Phase) → I core → (port core m).phase ≡ phase → ((p : CorePort) → StandsIn f phase p → p.loaded ≡ []) → is_through (port core m) ≡ false
  not_loaded core phase i is none = not_through (port core m) (none (port core m) (subst (λ ph. StandsIn f ph (port core m)) is ((keeps.sound core i).stand m)))

  prepare_by : (core : Core) (todo : List ScriptLine) (k : ℕ) (phase : Phase) → OwnState core todo k → (port core m).phase ≡ phase → OwnAs f cycles (port core m) todo k phase
      → OwnPrepared core (prepared f t m todo core) todo (lines_left (port core m) todo)
  prepare_by core todo k Idle s is w = prepared_not core todo (not_loaded core Idle s.kept is (λ p stands. stands.1)) (prepare_idle core todo k s is w)
  prepare_by core todo k (Wants set) s is w = prepared_not core todo (not_loaded core (Wants set) s.kept is (λ p stands. stands.1)) (prepare_rest core todo k (Wants set) s is (λ l c. refl) (λ ls active. active))
  prepare_by core todo k (Holds set) s is w = prepare_holds core todo set k s is w.0 w.1 w.2 w.3
  prepare_by core todo k Leaves s is w = prepared_not core todo (not_loaded core Leaves s.kept is (λ p stands. stands.1)) (prepare_rest core todo k Leaves s is (λ l c. refl) (λ ls active. active))

  pub own_prepare : (core : Core) (todo : List ScriptLine) (k : ℕ) → OwnState core todo k → OwnPrepared core (prepared f t m todo core) todo (lines_left (port core m) todo)
  own_prepare core todo k s = prepare_by core todo k (port core m).phase s refl s.follows

  -- after a tick that keeps the port's pairs and load
  pub own_tick : (p q : CorePort) (todo : List ScriptLine) (k : ℕ) (phase : Phase) (b : Bool) → StandsIn f phase p → q.opened ≡ p.opened → q.loaded ≡ p.loaded → OwnAs f cycles p todo k phase → OwnAs f cycles q todo k (phase_after b phase)
  own_tick p q todo k Idle b stands opened loaded w = w
  own_tick p q todo k (Wants set) false stands opened loaded w = w
  own_tick p q todo k (Wants set) true stands opened loaded w =
      let first = first_of (mark_at cycles k) (lines_at cycles k) (ends_at k w.1).0 in (
        [],
        first.0,
        first.1,
        record {
          below = w.1;
          named = w.2;
          lines = first.2;
          todo_is = w.0 ∙ lines-next cycles k ∙ ap (λ ls. ls ++ lines_from cycles (suc k)) first.2;
          opened = ap requests_of (opened ∙ stands.0);
          loaded = inl (loaded ∙ stands.1);
        },
      )
  own_tick p q todo k (Holds set) b stands opened loaded w = (w.0, w.1, w.2, line_with p q todo set k w.0 w.1 w.2 w.3 opened (loaded_on (w.1) w.3.loaded))
    where
      loaded_on : (h : ScriptLine) → ((p.loaded ≡ []) ⊎ (p.loaded ≡ h.ops)) → ((q.loaded ≡ []) ⊎ (q.loaded ≡ h.ops))
      loaded_on h (inl none) = inl (loaded ∙ none)
      loaded_on h (inr ops) = inr (loaded ∙ ops)
  own_tick p q todo k Leaves b stands opened loaded w = w
