-- A bus that runs a script shows a wave of the script.
use Rattle.std.proofs.Common.{◌≡◌, ℕ, zero, suc, ◌+◌, ◌-◌, ◌<◌, ◌≤◌, ◌==◌, ◌&&◌, not, Bool, true, false, List, [], ◌∷◌, ◌++◌, length, refl, sym, ap, ◌∙◌, subst, arith, append_assoc, inl, inr}
use Rattle.std.specs.Prelude.{slice_index_or}
use Rattle.std.specs.Int.{bit_at}
use Rattle.wb_signals.specs.History.{Entry, IsLegal}
use Rattle.soc_core.specs.Fabric.{Fabric, IsFabric}
use Rattle.soc_core.specs.Core.{Phase, Idle, Wants, Holds, Leaves, CorePort, Core, IsTick, port, resting_port, resting_ports, built_core, offered, phase_after, with_phase, clocked}
use Rattle.soc_core.specs.Sound.{is_busy_phase}
use Rattle.soc_core.specs.Events.{Tick}
use Rattle.wb_signals.specs.declared.port_row.PortRow.{PortRow}
use Rattle.wb_signals.specs.Wave.{WaveRowState}
use Rattle.soc_wave.specs.Rows.{no_port, port_in, column, last_port}
use Rattle.soc_wave.specs.Arbitration.{Course, PortCourse, Arbitration, AreArbitrated, Granting, course_at, arbitration, arbitration_from, arbitrated, no_arbitration}
use Rattle.soc_wave.specs.Pairs.{rises_from, falls_from, ended_on, entries_with, ended_in, history_from, history}
use Rattle.soc_wave.specs.Legal.{InEachClock}
use Rattle.soc_wave.specs.Shown.{port_row}
use Rattle.soc_script.specs.Script.{ScriptLine}
use Rattle.soc_script.specs.Cycles.{ScriptCycle, own_lines, cycles_of, put_if}
use Rattle.soc_script_wave.specs.Sets.{IsLine, AllLines, sets_of, marks_of, mark_at}
use Rattle.soc_script_wave.specs.ScriptWave.{begun, lines_at, may_begin, next_offer, request_on, RisesInTime, FallsInTime, OffersInTime, is_done, all_done_from, all_done, EndsWhere, OnEachMaster}
use Rattle.soc_script_wave.specs.Runner.{lines_left, prepared, prepared_from, left_from, is_over, is_nil, is_released, IsClock, Runs, RunsScript, todos_from}
use Rattle.soc_wave.specs.Laws.{Watched, NamesRaised, watched_from}
use Rattle.soc_script_wave.specs.ScriptLaws.{RanScript, ScriptIsShown}
use Rattle.soc_wave.proofs.Lists.{append-nil, column-snoc, last_port-snoc, length-snoc}
use Rattle.soc_wave.proofs.PortRows.{true_false, false_true}
use Rattle.soc_wave.proofs.Exchanged.{Tells, leaving, ends_tick}
use Rattle.soc_wave.proofs.Arbitrating.{Stands, AllStand}
use Rattle.soc_wave.proofs.Watching.{each-snoc}
use Rattle.soc_wave.proofs.Entering.{added, row_is, new_is}
use Rattle.soc_script_wave.proofs.ScriptCycles.{lines_from, lines-start, lines-next, script-cycles}
use Rattle.soc_script_wave.proofs.Following.{FollowsAs, ReadyAs, AllSome, request_shown, rises_ready, falls_ready, offers_ready, follows_tick, over_ready}
use Rattle.soc_script_wave.proofs.Preparing.{lines-append, prepare}
use Rattle.soc_wave.proofs.Watched.{Keeps, event_keeps, built_keeps}

-- ---- the lines of a script

own_by : (f : Fabric) (b : Bool) (l : ScriptLine) (lines : List ScriptLine) → IsLine f l → AllLines f lines → AllLines f (put_if b l lines)
own_by f true l lines is all = (is, all)
own_by f false l lines is all = all

own_all : (f : Fabric) (m : ℕ) (script : List ScriptLine) → AllLines f script → AllLines f (own_lines m script)
own_all f m [] all = tt
own_all f m (l ∷ script) all = own_by f (l.master == m) l (own_lines m script) all.0 (own_all f m script all.1)

from_all : (f : Fabric) (cycles : List ScriptCycle) → AllLines f (lines_from cycles 0) → (n : ℕ) → AllLines f (lines_from cycles n)
from_all f cycles all zero = all
from_all f cycles all (suc n) = (lines-append f (lines_at cycles n) (lines_from cycles (suc n)) (subst (λ ls. AllLines f ls) (lines-next cycles n) (from_all f cycles all n))).1

pub cycle_lines : (f : Fabric) (m : ℕ) (script : List ScriptLine) → AllLines f script → (n : ℕ) → AllLines f (lines_at (cycles_of m script) n)
cycle_lines f m script all n =
    let cycles : List ScriptCycle = cycles_of m script in
    let start : AllLines f (lines_from cycles 0) = subst (λ ls. AllLines f ls) (sym (lines-start m script)) (own_all f m script all) in
    (lines-append f (lines_at cycles n) (lines_from cycles (suc n)) (subst (λ ls. AllLines f ls) (lines-next cycles n) (from_all f cycles start n))).0

all_some : (f : Fabric) (lines : List ScriptLine) → AllLines f lines → AllSome lines
all_some f [] all = tt
all_some f (l ∷ lines) all = (all.0.some, all_some f lines all.1)

-- ---- phases

abbrev wants_it : Phase → Bool
wants_it Idle = false
wants_it (Wants set) = true
wants_it (Holds set) = false
wants_it Leaves = false

abbrev wanted_of : Phase → ℕ
wanted_of Idle = 0
wanted_of (Wants set) = set
wanted_of (Holds set) = 0
wanted_of Leaves = 0

no_wants : (set : ℕ) → false ≡ true → ⊥
no_wants set e = false_true e

-- ---- a bus before a tick

module _ (f : Fabric) (fits : IsFabric f) (script : List ScriptLine) (all : AllLines f script) (rows : List WaveRowState) (grants : List Granting) (t : ℕ) where
  abbrev bus : Core → Watched
  bus core = record { core = core; rows = rows; grants = grants }

  abbrev cycles : ℕ → List ScriptCycle
  cycles m = cycles_of m script

  -- the entries of the cycles that were released, of n ports from m on
  abbrev ends_from : ℕ → ℕ → Core → List Entry
  ends_from m zero core = []
  ends_from m (suc n) core = entries_with m (mark_at (cycles m) (falls_from no_port (column m rows))) (leaving (port core m).phase (column m rows)) ++ ends_from (suc m) n core

  ends_same : (m n : ℕ) (old new : Core) → ((j : ℕ) → m ≤ j → port new j ≡ port old j) → ends_from m n new ≡ ends_from m n old
  ends_same m zero old new same = refl
  ends_same m (suc n) old new same =
      ap (λ (p : CorePort). entries_with m (mark_at (cycles m) (falls_from no_port (column m rows))) (leaving p.phase (column m rows)) ++ ends_from (suc m) n new) (same m (omega arith))
      ∙ ap (λ es. entries_with m (mark_at (cycles m) (falls_from no_port (column m rows))) (leaving (port old m).phase (column m rows)) ++ es)
      (ends_same (suc m) n old new (λ j le. same j (omega (arith, le))))

  left_same : (m : ℕ) (todos : List (List ScriptLine)) (old new : Core) → ((j : ℕ) → m ≤ j → port new j ≡ port old j) → left_from m todos new ≡ left_from m todos old
  left_same m [] old new same = refl
  left_same m (todo ∷ todos) old new same =
      ap (λ p. lines_left p todo ∷ left_from (suc m) todos new) (same m (omega arith))
      ∙ ap (λ ls. lines_left (port old m) todo ∷ ls) (left_same (suc m) todos old new (λ j le. same j (omega (arith, le))))

  record ArePrepared (m : ℕ) (todos : List (List ScriptLine)) (old new : Core) : Type 0 where
    pub keeps : Keeps f (sets_of f script) (bus new)
    pub ready : (j i : ℕ) → j ≡ m + i → i < length todos → ReadyAs f t (cycles j) (column j rows) (port new j) (slice_index_or (left_from m todos old) i []) (port new j).phase
    pub before : (j : ℕ) → j < m → port new j ≡ port old j
    pub journal : new.journal ≡ old.journal ++ ends_from m (length todos) new

  ready_by : (m : ℕ) (todo : List ScriptLine) (todos : List (List ScriptLine)) (core mid new : Core) (j i : ℕ) → j ≡ m + i → i < suc (length todos) → port new m ≡ port mid m
      → ReadyAs f t (cycles m) (column m rows) (port mid m) (lines_left (port core m) todo) (port mid m).phase
      → left_from (suc m) todos mid ≡ left_from (suc m) todos core
      → ((k i : ℕ) → k ≡ suc m + i → i < length todos → ReadyAs f t (cycles k) (column k rows) (port new k) (slice_index_or (left_from (suc m) todos mid) i []) (port new k).phase)
      → ReadyAs f t (cycles j) (column j rows) (port new j) (slice_index_or (lines_left (port core m) todo ∷ left_from (suc m) todos core) i []) (port new j).phase
  ready_by m todo todos core mid new j zero is below mine one lefts rest =
      let e : m ≡ j = omega (arith, is) in
      let here = subst (λ (p : CorePort). ReadyAs f t (cycles m) (column m rows) p (lines_left (port core m) todo) p.phase) (sym mine) one in
      subst (λ (k : ℕ). ReadyAs f t (cycles k) (column k rows) (port new k) (lines_left (port core m) todo) (port new k).phase) e here
  ready_by m todo todos core mid new j (suc i) is below mine one lefts rest =
      subst (λ ls. ReadyAs f t (cycles j) (column j rows) (port new j) (slice_index_or ls i []) (port new j).phase) lefts (rest j i (omega (arith, is)) (omega (arith, below)))

  prepare_all : (m : ℕ) (todos : List (List ScriptLine)) (core : Core) → m + length todos ≤ f.ports → Keeps f (sets_of f script) (bus core)
      → ((j i : ℕ) → j ≡ m + i → i < length todos → FollowsAs f t (cycles j) (column j rows) (port core j) (slice_index_or todos i []) (port core j).phase)
      → ArePrepared m todos core (prepared_from f t m todos core)
  prepare_all m [] core le k follows = record {
    keeps = k;
    ready = λ j i is below. absurd (omega (arith, below));
    before = λ j below. refl;
    journal = sym (append-nil core.journal);
  }
  prepare_all m (todo ∷ todos) core le k follows =
      let lt : m < f.ports = omega (arith, le) in
      let one = prepare f fits (sets_of f script) rows grants t m lt (cycles m) (script-cycles m script) (cycle_lines f m script all) core todo k (follows m 0 (omega arith) (omega arith)) in
      let mid : Core = prepared f t m todo core in
      let rest = prepare_all (suc m) todos mid (omega (arith, le)) one.keeps (λ j i is below.
      subst (λ p. FollowsAs f t (cycles j) (column j rows) p (slice_index_or todos i []) p.phase) (sym (one.others j (λ same. omega (arith, same, is))))
      (follows j (suc i) (omega (arith, is)) (omega (arith, below)))) in
      let new : Core = prepared_from f t (suc m) todos mid in
      let lefts : left_from (suc m) todos mid ≡ left_from (suc m) todos core = left_same (suc m) todos core mid (λ j above. one.others j (λ same. omega (arith, same, above))) in
      let mine : port new m ≡ port mid m = rest.before m (omega arith) in
      record {
        keeps = rest.keeps;
        ready = λ j i is below. ready_by m todo todos core mid new j i is below mine one.ready lefts rest.ready;
        before = λ j below. rest.before j (omega (arith, below)) ∙ one.others j (λ same. omega (arith, same, below));
        journal = rest.journal
            ∙ ap (λ es. es ++ ends_from (suc m) (length todos) new) one.journal
            ∙ append_assoc core.journal (entries_with m (mark_at (cycles m) (falls_from no_port (column m rows))) (leaving (port mid m).phase (column m rows))) (ends_from (suc m) (length todos) new)
            ∙ ap (λ (p : CorePort). core.journal ++ (entries_with m (mark_at (cycles m) (falls_from no_port (column m rows))) (leaving p.phase (column m rows)) ++ ends_from (suc m) (length todos) new)) (sym mine);
      }

-- ---- lists that grow at their end

pub each-map : (P Q : List WaveRowState → WaveRowState → Type 0) (bound : ℕ) → ((before : List WaveRowState) (row : WaveRowState) → length before < bound → P before row → Q before row)
    → (before rows : List WaveRowState) → length before + length rows ≤ bound → InEachClock P before rows → InEachClock Q before rows
each-map P Q bound step before [] le each = tt
each-map P Q bound step before (row ∷ rows) le each = (
  step before row (omega (arith, le)) each.0,
  each-map P Q bound step (before ++ row ∷ []) rows (omega (arith, le, length-snoc before row)) each.1,
)

arbitration-more : (named : ℕ → ℕ → ℕ) (a : Arbitration) (grants more : List Granting) (rows : List WaveRowState) → length rows ≤ length grants → arbitration_from named a (grants ++ more) rows ≡ arbitration_from named a grants rows
arbitration-more named a [] [] [] le = refl
arbitration-more named a [] (g ∷ more) [] le = refl
arbitration-more named a [] more (row ∷ rows) le = absurd (omega (arith, le))
arbitration-more named a (g ∷ grants) more [] le = refl
arbitration-more named a (g ∷ grants) more (row ∷ rows) le = arbitration-more named (arbitrated named g row a) grants more rows (omega (arith, le))

as-many : (f : Fabric) (named : ℕ → ℕ → ℕ) (a : Arbitration) (grants : List Granting) (rows : List WaveRowState) → AreArbitrated f named a grants rows → length grants ≡ length rows
as-many f named a [] [] are = refl
as-many f named a [] (row ∷ rows) are = absurd are
as-many f named a (g ∷ grants) [] are = absurd are
as-many f named a (g ∷ grants) (row ∷ rows) are = ap (λ (n : ℕ). suc n) (as-many f named (arbitrated named g row a) grants rows are.1)

history-snoc : (n : ℕ) (marks : ℕ → ℕ → Bool) (before rows : List WaveRowState) (row : WaveRowState) → history_from n marks before (rows ++ row ∷ []) ≡ history_from n marks before rows ++ ended_in 0 n marks (before ++ rows) row
history-snoc n marks before [] row = append-nil (ended_in 0 n marks before row) ∙ ap (λ l. ended_in 0 n marks l row) (sym (append-nil before))
history-snoc n marks before (r ∷ rows) row =
    ap (λ es. ended_in 0 n marks before r ++ es) (history-snoc n marks (before ++ r ∷ []) rows row)
    ∙ sym (append_assoc (ended_in 0 n marks before r) (history_from n marks (before ++ r ∷ []) rows) (ended_in 0 n marks ((before ++ r ∷ []) ++ rows) row))
    ∙ ap (λ l. (ended_in 0 n marks before r ++ history_from n marks (before ++ r ∷ []) rows) ++ ended_in 0 n marks l row) (append_assoc before (r ∷ []) rows)

over_all : (script : List ScriptLine) (m : ℕ) (todos : List (List ScriptLine)) (core : Core) (rows : List WaveRowState)
    → ((j i : ℕ) → j ≡ m + i → i < length todos → (is_nil (slice_index_or todos i []) && is_released (port core j).phase) ≡ is_done (cycles_of j script) (column j rows))
    → is_over m todos core ≡ all_done_from m (length todos) script rows
over_all script m [] core rows each = refl
over_all script m (todo ∷ todos) core rows each =
    ap (λ b. b && is_over (suc m) todos core) (each m 0 (omega arith) (omega arith))
    ∙ ap (λ b. is_done (cycles_of m script) (column m rows) && b) (over_all script (suc m) todos core rows (λ j i is lt. each j (suc i) (omega (arith, is)) (omega (arith, lt))))

pub length-left : (m : ℕ) (todos : List (List ScriptLine)) (core : Core) → length (left_from m todos core) ≡ length todos
length-left m [] core = refl
length-left m (todo ∷ todos) core = ap (λ (n : ℕ). suc n) (length-left (suc m) todos core)

course_stands : (m : ℕ) (ports : List CorePort) (courses : List PortCourse) → AllStand ports courses → m < length ports → Stands (slice_index_or ports m resting_port).phase (course_at courses m)
course_stands m [] courses stand lt = absurd (omega (arith, lt))
course_stands m (p ∷ ports) [] stand lt = absurd stand
course_stands zero (p ∷ ports) (c ∷ courses) stand lt = stand.0
course_stands (suc m) (p ∷ ports) (c ∷ courses) stand lt = course_stands m ports courses stand.1 (omega (arith, lt))

-- ---- a clock

pub record Follows (f : Fabric) (script : List ScriptLine) (t : ℕ) (todos : List (List ScriptLine)) (w : Watched) : Type 0 where
  pub keeps : Keeps f (sets_of f script) w
  pub clock : length w.rows ≡ t
  pub count : length todos ≡ f.ports
  pub ports : (m : ℕ) → m < f.ports → FollowsAs f t (cycles_of m script) (column m w.rows) (port w.core m) (slice_index_or todos m []) (port w.core m).phase
  pub journal : history f.ports (marks_of script) w.rows ≡ w.core.journal
  pub rises : OnEachMaster f script w.grants (λ t cycles course before p. RisesInTime t cycles before p) w.rows
  pub falls : OnEachMaster f script w.grants (λ t cycles course before p. FallsInTime cycles before p) w.rows
  pub offers : OnEachMaster f script w.grants (λ t cycles course before p. OffersInTime f t cycles course before p) w.rows

module _ (f : Fabric) (fits : IsFabric f) (script : List ScriptLine) (all : AllLines f script) (t : ℕ) (todos : List (List ScriptLine)) (old new : Watched) (s : Follows f script t todos old) (c : IsClock f t todos old new) where
  abbrev named : ℕ → ℕ → ℕ
  named = sets_of f script

  abbrev cycle_of : ℕ → List ScriptCycle
  cycle_of m = cycles_of m script

  abbrev pub ready : Core
  ready = prepared_from f t 0 todos old.core

  abbrev pub lefts : List (List ScriptLine)
  lefts = left_from 0 todos old.core

  abbrev now : Watched
  now = record { core = ready; rows = old.rows; grants = old.grants }

  prep : ArePrepared f fits script all old.rows old.grants t 0 todos old.core ready
  prep = prepare_all f fits script all old.rows old.grants t 0 todos old.core (omega (arith, s.count)) s.keeps (λ j i is lt.
      let e : j ≡ i = omega (arith, is) in
      subst (λ (k : ℕ). FollowsAs f t (cycle_of j) (column j old.rows) (port old.core j) (slice_index_or todos k []) (port old.core j).phase) e (s.ports j (omega (arith, e, lt, s.count))))

  ready_at : (m : ℕ) → m < f.ports → ReadyAs f t (cycle_of m) (column m old.rows) (port ready m) (slice_index_or lefts m []) (port ready m).phase
  ready_at m lt = prep.ready m m (omega arith) (omega (arith, lt, s.count))

  names_by : (m set : ℕ) (phase : Phase) → ReadyAs f t (cycle_of m) (column m old.rows) (port ready m) (slice_index_or lefts m []) phase → phase ≡ Wants set → (last_port (column m old.rows)).cyc ≡ false
      → named m (rises_from no_port (column m old.rows)) ≡ set
  names_by m set Idle r is down = absurd (no_wants set (ap wants_it is))
  names_by m set (Wants x) (inl r) is down = sym r.named ∙ ap wanted_of is
  names_by m set (Wants x) (inr w) is down = absurd (true_false (sym w.1.up ∙ down))
  names_by m set (Holds x) r is down = absurd (no_wants set (ap wants_it is))
  names_by m set Leaves r is down = absurd (no_wants set (ap wants_it is))

  names : NamesRaised f named now
  names m set lt wants down = names_by m set (port ready m).phase (ready_at m lt) wants down

  kept : Keeps f named new
  kept = event_keeps f fits named Tick now new prep.keeps names c.adds

  abbrev tick : IsTick f ready new.core
  tick = c.adds.tick

  abbrev row : WaveRowState
  row = added f old.rows ready new.core prep.keeps.sound tick prep.keeps.enters

  abbrev bit : ℕ → Bool
  bit m = bit_at tick.grant m == 1

  port_is : (m : ℕ) → m < f.ports → port_in m row ≡ port_row f (with_phase (phase_after (bit m) (port ready m).phase) (port ready m))
  port_is m lt = row_is f old.rows ready new.core prep.keeps.sound tick prep.keeps.enters m lt

  after_is : (m : ℕ) → m < f.ports → port new.core m ≡ clocked f ready.contents (with_phase (phase_after (bit m) (port ready m).phase) (port ready m))
  after_is m lt = new_is f old.rows ready new.core prep.keeps.sound tick prep.keeps.enters m lt

  cyc_at : (m : ℕ) → m < f.ports → (port_in m row).cyc ≡ is_busy_phase (phase_after (bit m) (port ready m).phase)
  cyc_at m lt = ap (λ (p : PortRow). p.cyc) (port_is m lt)

  abbrev rows_now : List WaveRowState
  rows_now = old.rows ++ row ∷ []

  follows_now : (m : ℕ) → m < f.ports → FollowsAs f (suc t) (cycle_of m) (column m rows_now) (port new.core m) (slice_index_or lefts m []) (port new.core m).phase
  follows_now m lt =
      let q : CorePort = clocked f ready.contents (with_phase (phase_after (bit m) (port ready m).phase) (port ready m)) in
      let next = follows_tick f t (cycle_of m) (column m old.rows) (port_in m row) (port ready m) q (slice_index_or lefts m []) refl refl (port ready m).phase (bit m) (ready_at m lt) (prep.keeps.sound.stand m) (cyc_at m lt) in
      subst (λ (p : CorePort). FollowsAs f (suc t) (cycle_of m) (column m rows_now) p (slice_index_or lefts m []) p.phase) (sym (after_is m lt))
      (subst (λ ps. FollowsAs f (suc t) (cycle_of m) ps q (slice_index_or lefts m []) q.phase) (sym (column-snoc m old.rows row)) next)

  tells_at : (m : ℕ) → m < f.ports → Tells (column m old.rows) (port ready m)
  tells_at m lt = prep.keeps.enters.tells m lt

  rises_now : (m : ℕ) → m < f.ports → RisesInTime (length old.rows) (cycle_of m) (column m old.rows) (port_in m row)
  rises_now m lt down =
      let here = rises_ready f t (cycle_of m) (column m old.rows) (port ready m) (slice_index_or lefts m []) (port ready m).phase (bit m) (ready_at m lt) down in
      cyc_at m lt ∙ here ∙ ap (λ (k : ℕ). may_begin k (lines_at (cycle_of m) (begun (column m old.rows)))) (sym s.clock)

  some_at : (m n : ℕ) → AllSome (lines_at (cycle_of m) n)
  some_at m n = all_some f (lines_at (cycle_of m) n) (cycle_lines f m script all n)

  falls_now : (m : ℕ) → m < f.ports → FallsInTime (cycle_of m) (column m old.rows) (port_in m row)
  falls_now m lt up =
      cyc_at m lt ∙ falls_ready f t (cycle_of m) (column m old.rows) (port ready m) (slice_index_or lefts m []) (port ready m).phase (bit m) (ready_at m lt)
      (tells_at m lt).cycle (prep.keeps.sound.stand m) (prep.keeps.sound.queues m) (some_at m) up

  course_now : (m : ℕ) → m < f.ports → Stands (port ready m).phase (course_at (arbitration f named old.grants old.rows).ports m)
  course_now m lt = course_stands m ready.ports (arbitration f named old.grants old.rows).ports prep.keeps.watches.stand (omega (arith, lt, prep.keeps.sound.ports))

  offers_now : (m : ℕ) → m < f.ports → OffersInTime f (length old.rows) (cycle_of m) (course_at (arbitration f named old.grants old.rows).ports m) (column m old.rows) (port_in m row)
  offers_now m lt =
      let course : Course = course_at (arbitration f named old.grants old.rows).ports m in
      let here = offers_ready f t (cycle_of m) (column m old.rows) (port ready m) (slice_index_or lefts m []) (port ready m).phase course (ready_at m lt) (tells_at m lt).cycle
      (prep.keeps.sound.stand m) (prep.keeps.sound.queues m) (prep.keeps.watches.ports m lt).owing (course_now m lt) in
      ap request_on (port_is m lt)
      ∙ request_shown f (is_busy_phase (phase_after (bit m) (port ready m).phase)) (port ready m).owed (offered f (port ready m))
      ∙ here ∙ ap (λ (k : ℕ). next_offer f k (lines_at (cycle_of m) (begun (column m old.rows) - 1)) course (column m old.rows)) (sym s.clock)

  -- the entries of the cycles that end in the row are those that were released before its tick
  ends_now : (m n : ℕ) → m + n ≤ f.ports → ends_from f fits script all old.rows old.grants t m n ready ≡ ended_in m n (marks_of script) old.rows row
  ends_now m zero le = refl
  ends_now m (suc n) le =
      let lt : m < f.ports = omega (arith, le) in
      let ps : List PortRow = column m old.rows in
      let mark : Bool = mark_at (cycle_of m) (falls_from no_port ps) in
      let here : leaving (port ready m).phase ps ≡ ended_on ps (port_in m row) =
      ends_tick f ps (port ready m) (port ready m).phase (bit m) (prep.keeps.sound.stand m) (prep.keeps.sound.queues m) (tells_at m lt).cycle (tells_at m lt).quiet
      ∙ ap (λ p. ended_on ps p) (sym (port_is m lt)) in
      ap (λ pairs. entries_with m mark pairs ++ ends_from f fits script all old.rows old.grants t (suc m) n ready) here
      ∙ ap (λ es. entries_with m mark (ended_on ps (port_in m row)) ++ es) (ends_now (suc m) n (omega (arith, le)))

  journal_now : history f.ports (marks_of script) rows_now ≡ new.core.journal
  journal_now =
      let n : length todos ≡ f.ports = s.count in
      let ends : ends_from f fits script all old.rows old.grants t 0 (length todos) ready ≡ ended_in 0 f.ports (marks_of script) old.rows row =
      ap (λ (k : ℕ). ends_from f fits script all old.rows old.grants t 0 k ready) n ∙ ends_now 0 f.ports (omega arith) in
      history-snoc f.ports (marks_of script) [] old.rows row
      ∙ ap (λ es. es ++ ended_in 0 f.ports (marks_of script) old.rows row) s.journal
      ∙ ap (λ es. old.core.journal ++ es) (sym ends)
      ∙ sym prep.journal
      ∙ sym (ap (λ (core : Core). core.journal) tick.core)

  over_at : (j i : ℕ) → j ≡ 0 + i → i < length lefts → (is_nil (slice_index_or lefts i []) && is_released (port ready j).phase) ≡ is_done (cycle_of j) (column j rows_now)
  over_at j i is below =
      let e : i ≡ j = omega (arith, is) in
      let lt : j < f.ports = omega (arith, e, below, s.count, length-left 0 todos old.core) in
      let ps : List PortRow = column j old.rows in
      let p : PortRow = port_in j row in
      let here = over_ready f t (cycle_of j) ps p (port ready j) (slice_index_or lefts j []) (port ready j).phase (bit j) (script-cycles j script) (ready_at j lt) (cyc_at j lt) in
      let shown : (not p.cyc && (begun (ps ++ p ∷ []) == length (cycle_of j))) ≡ is_done (cycle_of j) (column j rows_now) =
      ap (λ (q : PortRow). not q.cyc && (begun (ps ++ p ∷ []) == length (cycle_of j))) (sym (last_port-snoc ps p)) ∙ ap (λ l. is_done (cycle_of j) l) (sym (column-snoc j old.rows row)) in
      ap (λ (k : ℕ). is_nil (slice_index_or lefts k []) && is_released (port ready j).phase) e ∙ here ∙ shown

  over_now : is_over 0 lefts ready ≡ all_done f script rows_now
  over_now =
      over_all script 0 lefts ready rows_now over_at
      ∙ ap (λ (n : ℕ). all_done_from 0 n script rows_now) (length-left 0 todos old.core ∙ s.count)

  grants_as : length old.grants ≡ length old.rows
  grants_as = as-many f named (no_arbitration f) old.grants old.rows s.keeps.watches.legal.granted

  -- what is said of the earlier clocks, with one more grant
  abbrev OffersAt : List Granting → List WaveRowState → WaveRowState → Type 0
  OffersAt grants before r = (m : ℕ) → m < f.ports → OffersInTime f (length before) (cycle_of m) (course_at (arbitration f named grants before).ports m) (column m before) (port_in m r)

  offers_step : (grants : List Granting) (before : List WaveRowState) (r : WaveRowState) → length before ≤ length old.grants → OffersAt old.grants before r → OffersAt (old.grants ++ grants) before r
  offers_step more before r le each m lt =
      subst (λ a. OffersInTime f (length before) (cycle_of m) (course_at a.ports m) (column m before) (port_in m r)) (sym (arbitration-more named (no_arbitration f) old.grants more before le)) (each m lt)

  abbrev granting : Granting
  granting = record { ports = tick.grant; first = tick.first }

  offers_all : InEachClock (OffersAt (old.grants ++ granting ∷ [])) [] rows_now
  offers_all =
      each-snoc (OffersAt (old.grants ++ granting ∷ [])) [] old.rows row
      (each-map (OffersAt old.grants) (OffersAt (old.grants ++ granting ∷ [])) (length old.rows)
      (λ before r lt each. offers_step (granting ∷ []) before r (omega (arith, lt, grants_as)) each) [] old.rows (omega arith) s.offers)
      (offers_step (granting ∷ []) old.rows row (omega (arith, grants_as)) offers_now)

  -- After the clock the bus follows the script again.
  pub follows_clock : Follows f script (suc t) lefts new
  follows_clock =
      let rows_are : rows_now ≡ new.rows = sym c.adds.rows in
      record {
        keeps = kept;
        clock = ap (λ l. length l) c.adds.rows ∙ length-snoc old.rows row ∙ ap (λ (n : ℕ). suc n) s.clock;
        count = length-left 0 todos old.core ∙ s.count;
        ports = λ m lt. subst (λ l. FollowsAs f (suc t) (cycle_of m) (column m l) (port new.core m) (slice_index_or lefts m []) (port new.core m).phase) rows_are (follows_now m lt);
        journal = ap (λ l. history f.ports (marks_of script) l) c.adds.rows ∙ journal_now;
        rises = subst (λ l. OnEachMaster f script new.grants (λ t cycles course before p. RisesInTime t cycles before p) l) rows_are
            (each-snoc (λ before r. (m : ℕ) → m < f.ports → RisesInTime (length before) (cycle_of m) (column m before) (port_in m r)) [] old.rows row s.rises rises_now);
        falls = subst (λ l. OnEachMaster f script new.grants (λ t cycles course before p. FallsInTime cycles before p) l) rows_are
            (each-snoc (λ before r. (m : ℕ) → m < f.ports → FallsInTime (cycle_of m) (column m before) (port_in m r)) [] old.rows row s.falls falls_now);
        offers = subst (λ l. InEachClock (OffersAt new.grants) [] l) rows_are (subst (λ g. InEachClock (OffersAt g) [] rows_now) (sym c.adds.grants) offers_all);
      }

  pub over_shown : is_over 0 lefts ready ≡ all_done f script new.rows
  over_shown = over_now ∙ ap (λ l. all_done f script l) (sym c.adds.rows)

  pub adds_row : (r : WaveRowState) × (new.rows ≡ old.rows ++ r ∷ [])
  adds_row = (row, c.adds.rows)

-- ---- the whole run

abbrev GoesOn : Fabric → List ScriptLine → List WaveRowState → WaveRowState → Type 0
GoesOn f script before row = all_done f script (before ++ row ∷ []) ≡ false

ends-snoc : (over : List WaveRowState → Bool) (before rows : List WaveRowState) (end : WaveRowState) → InEachClock (λ b r. over (b ++ r ∷ []) ≡ false) before rows → over (before ++ (rows ++ end ∷ [])) ≡ true → EndsWhere over before (rows ++ end ∷ [])
ends-snoc over before [] end each last = last
ends-snoc over before (r ∷ []) end each last = (each.0, subst (λ l. over l ≡ true) (sym (append_assoc before (r ∷ []) (end ∷ []))) last)
ends-snoc over before (r ∷ q ∷ rows) end each last =
    (each.0, ends-snoc over (before ++ r ∷ []) (q ∷ rows) end each.1 (subst (λ l. over l ≡ true) (sym (append_assoc before (r ∷ []) ((q ∷ rows) ++ end ∷ []))) last))

module _ (f : Fabric) (fits : IsFabric f) (script : List ScriptLine) (all : AllLines f script) where
  runs_on : (n t : ℕ) (todos : List (List ScriptLine)) (old new : Watched) → Follows f script t todos old → InEachClock (GoesOn f script) [] old.rows → Runs f n t todos old new → RanScript f script new
  runs_on zero t todos old new s goes run =
      let next = follows_clock f fits script all t todos old new s run.1 in
      let shown = over_shown f fits script all t todos old new s run.1 in
      let added = adds_row f fits script all t todos old new s run.1 in
      let rows = added.1 in
      let last : all_done f script new.rows ≡ true = sym shown ∙ run.0 in
      record {
        wave = record {
          legal = next.keeps.watches.legal;
          rises = next.rises;
          falls = next.falls;
          offers = next.offers;
          ends = subst (λ l. EndsWhere (all_done f script) [] l) (sym rows)
              (ends-snoc (all_done f script) [] old.rows added.0 goes (ap (λ l. all_done f script l) (sym rows) ∙ last));
          history = subst (λ es. IsLegal f.wiring f.built es) (sym next.journal) next.keeps.sound.legal;
        };
        journal = next.journal;
      }
  runs_on (suc n) t todos old new s goes run =
      let next = follows_clock f fits script all t todos old run.0 s run.2 in
      let shown = over_shown f fits script all t todos old run.0 s run.2 in
      let added = adds_row f fits script all t todos old run.0 s run.2 in
      let rows = added.1 in
      let not_over : all_done f script run.0.rows ≡ false = sym shown ∙ run.1 in
      runs_on n (suc t) (left_from 0 todos old.core) run.0 new next
      (subst (λ l. InEachClock (GoesOn f script) [] l) (sym rows) (each-snoc (GoesOn f script) [] old.rows added.0 goes (ap (λ l. all_done f script l) (sym rows) ∙ not_over)))
      run.3

  todo_at : (m k n : ℕ) → m ≡ k + n → (c : ℕ) → n < c → slice_index_or (todos_from script k c) n [] ≡ own_lines m script
  todo_at m k n is zero lt = absurd (omega (arith, lt))
  todo_at m k zero is (suc c) lt = let e : k ≡ m = omega (arith, is) in ap (λ (j : ℕ). own_lines j script) e
  todo_at m k (suc n) is (suc c) lt = todo_at m (suc k) n (omega (arith, is)) c (omega (arith, lt))

  length-todos : (k c : ℕ) → length (todos_from script k c) ≡ c
  length-todos k zero = refl
  length-todos k (suc c) = ap (λ (n : ℕ). suc n) (length-todos (suc k) c)

  idle_at : (n m : ℕ) → slice_index_or (resting_ports n) m resting_port ≡ resting_port
  idle_at zero m = refl
  idle_at (suc n) zero = refl
  idle_at (suc n) (suc m) = idle_at n m

  follows_start : Follows f script 0 (todos_from script 0 f.ports) (watched_from (built_core f))
  follows_start = record {
    keeps = built_keeps f fits (sets_of f script);
    clock = refl;
    count = length-todos 0 f.ports;
    ports = λ m lt. subst (λ (p : CorePort). FollowsAs f 0 (cycles_of m script) [] p (slice_index_or (todos_from script 0 f.ports) m []) p.phase) (sym (idle_at f.ports m))
        (record { todo_is = todo_at m 0 m (omega arith) f.ports lt ∙ sym (lines-start m script); down = refl; most = omega arith });
    journal = refl;
    rises = tt;
    falls = tt;
    offers = tt;
  }

  -- A bus that runs a script shows a wave of the script, whose history is its journal.
  pub script_shown : (n : ℕ) (new : Watched) → RunsScript f script n new → RanScript f script new
  script_shown n new run = runs_on n 0 (todos_from script 0 f.ports) (watched_from (built_core f)) new follows_start tt run

pub script_is_shown : ScriptIsShown
script_is_shown f fits script all n new run = script_shown f fits script all n new run
