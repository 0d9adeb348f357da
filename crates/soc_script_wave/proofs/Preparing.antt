-- What a master does before a tick keeps its port on its lines.
use Rattle.std.proofs.Common.{◌≡◌, ◌≢◌, ℕ, zero, suc, ◌+◌, ◌<◌, ◌≤◌, ◌==◌, ◌&&◌, not, Bool, true, false, List, [], ◌∷◌, ◌++◌, length, refl, sym, ap, ◌∙◌, subst, arith, append_assoc, inl, inr, get_or-set_same, get_or-set_other}
use Rattle.std.specs.Prelude.{◌⊎◌, fold, nat_le, slice_index_or, slice_set, Some}
use Rattle.wb_signals.specs.Request.{Request}
use Rattle.wb_signals.specs.History.{Pair, Entry, requests_of, answers_of}
use Rattle.wb_signals.specs.Cycles.{paired}
use Rattle.soc_core.specs.Fabric.{Fabric, IsFabric, AllGoIn}
use Rattle.wb_signals.specs.Cycles.{made_with}
use Rattle.soc_core.specs.Core.{Phase, Idle, Wants, Holds, Leaves, CorePort, Core, port, resting_port, pending, unloaded, with_load, with_taken, raised_of, raised, loaded, taken, released, CanRaise, CanLoad, CanTake, CanRelease}
use Rattle.soc_core.specs.Sound.{StandsIn}
use Rattle.soc_core.specs.Events.{Raise, Load, Take, Release}
use Rattle.wb_signals.specs.declared.port_row.PortRow.{PortRow}
use Rattle.wb_signals.specs.Wave.{WaveRowState}
use Rattle.soc_wave.specs.Rows.{no_port, column, last_port}
use Rattle.soc_wave.specs.Requests.{one_if}
use Rattle.soc_wave.specs.Arbitration.{Granting}
use Rattle.soc_wave.specs.Pairs.{Exchange, exchange, pairs_of, is_some_pairs, rises_from, falls_from, entries_with}
use Rattle.soc_core.specs.Built.{set_of_cycle}
use Rattle.soc_script.specs.Script.{ScriptLine}
use Rattle.soc_script.specs.Cycles.{ScriptCycle, ops_of_lines, put_if}
use Rattle.soc_script_wave.specs.Sets.{IsLine, AllLines, set_of_lines, mark_at}
use Rattle.soc_script_wave.specs.ScriptWave.{begun, lines_at, may_begin}
use Rattle.soc_script_wave.specs.Runner.{is_loaded, is_through, after_taken, settled_if, settled, left_if, lines_left, load_if, begun_by, begun_if, advanced, prepared}
use Rattle.soc_wave.specs.Laws.{Watched}
use Rattle.soc_wave.proofs.Lists.{append-nil}
use Rattle.soc_wave.proofs.PortRows.{true_false, false_true}
use Rattle.soc_wave.proofs.Exchanged.{TellsAs, told, leaving, pairs-again, told_taken, requests_of-paired}
use Rattle.wb_signals.proofs.CycleLemmas.{requests_of-append}
use Rattle.soc_script_wave.proofs.ScriptCycles.{all_lines, lines_from, lines-next, EndsAs, AreCycles, cycle_ends, ends_here, holds_here, come-more, ops-append}
use Rattle.soc_script_wave.proofs.CycleSets.{opening_below, line_goes, set_lines}
use Rattle.soc_script_wave.proofs.Following.{WaitsForLine, WaitsForGrant, RisesNext, RunsLine, Runs, HasEnded, FollowsAs, IsAtWork, ReadyAs}
use Rattle.soc_wave.proofs.Watched.{Keeps, event_keeps}

pub lines-append : (f : Fabric) (xs ys : List ScriptLine) → AllLines f (xs ++ ys) → AllLines f xs × AllLines f ys
lines-append f [] ys all = (tt, all)
lines-append f (l ∷ xs) ys all = let rest = lines-append f xs ys all.1 in ((all.0, rest.0), rest.1)

-- ---- lists

some_line : (l : ScriptLine) (lines : List ScriptLine) → l ∷ lines ≡ [] → ⊥
some_line l lines e = let n : suc (length lines) ≡ 0 = ap (λ ls. length ls) e in omega (arith, n)

nothing_both : (xs ys : List ScriptLine) → xs ++ ys ≡ [] → (xs ≡ []) × (ys ≡ [])
nothing_both [] ys is = (refl, is)
nothing_both (x ∷ xs) ys is = absurd (some_line x (xs ++ ys) is)

abbrev line_or : ScriptLine → List ScriptLine → ScriptLine
line_or d [] = d
line_or d (l ∷ lines) = l

abbrev rest_of : List ScriptLine → List ScriptLine
rest_of [] = []
rest_of (l ∷ lines) = lines

front_line : (cut : Bool) (lines more : List ScriptLine) (l : ScriptLine) (rest : List ScriptLine) → EndsAs cut lines → lines ++ more ≡ l ∷ rest → (ls : List ScriptLine) × (lines ≡ l ∷ ls)
front_line cut [] more l rest ends is = absurd ends
front_line cut (k ∷ ls) more l rest ends is = let same : k ≡ l = ap (line_or l) is in (ls, ap (λ x. x ∷ ls) same)

-- the first line to come is the first of the next cycle
pub first_line : (cycles : List ScriptCycle) (n : ℕ) → AreCycles cycles → (l : ScriptLine) (rest : List ScriptLine) → lines_from cycles n ≡ l ∷ rest → (n < length cycles) × (ls : List ScriptLine) × (lines_at cycles n ≡ l ∷ ls)
first_line [] n are l rest is = absurd (some_line l rest (sym is))
first_line (c ∷ cycles) zero are l rest is = let r = front_line c.cut c.lines (all_lines cycles) l rest are.0 is in (omega arith, r.0, r.1)
first_line (c ∷ cycles) (suc n) are l rest is = let r = first_line cycles n are.2 l rest is in (omega (arith, r.0), r.1, r.2)

pub no_line : (cycles : List ScriptCycle) (n : ℕ) → lines_from cycles n ≡ [] → lines_at cycles n ≡ []
no_line cycles n is = (nothing_both (lines_at cycles n) (lines_from cycles (suc n)) (sym (lines-next cycles n) ∙ is)).0

-- ---- whether a line is through

pub not_through : (p : CorePort) → p.loaded ≡ [] → is_through p ≡ false
not_through p none = ap (λ ops. is_loaded ops && (pending p == 0)) none

not_zero : (n : ℕ) → (n == 0) ≡ false → 1 ≤ n
not_zero zero is = absurd (true_false is)
not_zero (suc n) is = omega arith

never : (n : ℕ) → (suc n == 0) ≡ false
never n = grind arith

is_zero : (n : ℕ) → (n == 0) ≡ true → n ≡ 0
is_zero zero is = refl
is_zero (suc n) is = absurd (let e : (suc n == 0) ≡ false = never n in true_false (sym is ∙ e))

at_work : (p : CorePort) (ops : List Request) → p.loaded ≡ ops → 1 ≤ length ops → is_through p ≡ false → length p.got < length p.loaded
at_work p [] is some not = absurd (omega (arith, some))
at_work p (r ∷ ops) is some not =
    let here : (pending p == 0) ≡ false = ap (λ l. is_loaded l && (pending p == 0)) (sym is) ∙ not in
    let more = not_zero (pending p) here in
    omega (arith, more)

some_request : (r : Request) (ops : List Request) → r ∷ ops ≡ [] → ⊥
some_request r ops e = let n : suc (length ops) ≡ 0 = ap (λ l. length l) e in omega (arith, n)

through_by : (ops : List Request) (n : ℕ) → (is_loaded ops && (n == 0)) ≡ true → (ops ≢ []) × (n ≡ 0)
through_by [] n is = absurd (false_true is)
through_by (r ∷ ops) n is = ((λ e. some_request r ops e), is_zero n is)

pub through : (p : CorePort) → is_through p ≡ true → (p.loaded ≢ []) × (pending p ≡ 0)
through p is = through_by p.loaded (pending p) is

pub loaded_some : (ops : List Request) → 1 ≤ length ops → is_loaded ops ≡ true
loaded_some [] some = absurd (omega (arith, some))
loaded_some (r ∷ ops) some = refl

pub some_ops : (ops : List Request) → 1 ≤ length ops → ops ≢ []
some_ops [] some none = omega (arith, some)
some_ops (r ∷ ops) some none = some_request r ops none

yes_le : (a b : ℕ) → nat_le a b ≡ true → a ≤ b
yes_le a b h = grind (arith, h)

-- ---- how often CYC fell

fall_balance : (a b : Bool) (r f l : ℕ) → r + one_if b 0 ≡ f + l → one_if (not a && b) r + one_if a 0 ≡ one_if (a && not b) f + l
fall_balance true true r f l is = is
fall_balance true false r f l is = omega (arith, is)
fall_balance false true r f l is = omega (arith, is)
fall_balance false false r f l is = is

falls_count : (old : PortRow) (rows : List PortRow) → rises_from old rows + one_if old.cyc 0 ≡ falls_from old rows + one_if (fold (λ (q r : PortRow). r) old rows).cyc 0
falls_count old [] = refl
falls_count old (p ∷ rows) = fall_balance old.cyc p.cyc (rises_from p rows) (falls_from p rows) (one_if (fold (λ (q r : PortRow). r) p rows).cyc 0) (falls_count p rows)

falls_is : (rows : List PortRow) (n : ℕ) → begun rows ≡ suc n → (last_port rows).cyc ≡ true → falls_from no_port rows ≡ n
falls_is rows n nth up =
    let all = falls_count no_port rows in
    let one : one_if (last_port rows).cyc 0 ≡ 1 = ap (λ b. one_if b 0) up in
    omega (arith, all, one, nth)

same_length : (pairs : List Pair) → length (answers_of pairs) ≡ length (requests_of pairs)
same_length [] = refl
same_length (p ∷ pairs) = ap (λ (n : ℕ). suc n) (same_length pairs)

-- ---- the entry of a cycle

entry_ended : (m : ℕ) (cut : Bool) (entries : List Entry) (pairs : List Pair) → made_with m cut entries pairs ≡ entries ++ entries_with m cut (put_if (is_some_pairs pairs) pairs [])
entry_ended m cut entries [] = sym (append-nil entries)
entry_ended m cut entries (p ∷ pairs) = refl

-- ---- one master

module _ (f : Fabric) (fits : IsFabric f) (named : ℕ → ℕ → ℕ) (rows : List WaveRowState) (grants : List Granting) (t m : ℕ) (lt : m < f.ports)
    (cycles : List ScriptCycle) (are : AreCycles cycles) (all : (n : ℕ) → AllLines f (lines_at cycles n)) where
  abbrev ps : List PortRow
  ps = column m rows

  abbrev bus : Core → Watched
  bus core = record { core = core; rows = rows; grants = grants }

  abbrev pub mark : Bool
  mark = mark_at cycles (falls_from no_port ps)

  -- What a master leaves before a tick: its port is ready, the others are as they were, and the journal has the entry of a
  -- cycle that it released.
  pub record IsPrepared (old new : Core) (todo : List ScriptLine) : Type 0 where
    pub keeps : Keeps f named (bus new)
    pub ready : ReadyAs f t cycles ps (port new m) todo (port new m).phase
    pub others : (n : ℕ) → n ≢ m → port new n ≡ port old n
    pub journal : new.journal ≡ old.journal ++ entries_with m mark (leaving (port new m).phase ps)

  -- the port that an event changes, and the others
  set_same : (core : Core) (p : CorePort) → length core.ports ≡ f.ports → slice_index_or (slice_set core.ports m p) m resting_port ≡ p
  set_same core p n = let within : m < length core.ports = omega (arith, n, lt) in get_or-set_same core.ports m p resting_port within

  set_other : (core : Core) (p : CorePort) (n : ℕ) → n ≢ m → slice_index_or (slice_set core.ports m p) n resting_port ≡ port core n
  set_other core p n other = get_or-set_other core.ports m n p resting_port other

  keeps_raise : (core : Core) (set : ℕ) → Keeps f named (bus core) → CanRaise f core m set → Keeps f named (bus (raised core m set))
  keeps_raise core set k can = event_keeps f fits named (Raise m set) (bus core) (bus (raised core m set)) k tt ((can, refl), record { rows = refl; grants = refl })

  keeps_load : (core : Core) (ops : List Request) → Keeps f named (bus core) → CanLoad f core m ops → Keeps f named (bus (loaded core m ops))
  keeps_load core ops k can = event_keeps f fits named (Load m ops) (bus core) (bus (loaded core m ops)) k tt ((can, refl), record { rows = refl; grants = refl })

  keeps_take : (core : Core) → Keeps f named (bus core) → CanTake f core m → Keeps f named (bus (taken core m))
  keeps_take core k can = event_keeps f fits named (Take m) (bus core) (bus (taken core m)) k tt ((can, refl), record { rows = refl; grants = refl })

  keeps_release : (core : Core) (cut : Bool) → Keeps f named (bus core) → CanRelease f core m → Keeps f named (bus (released core m cut))
  keeps_release core cut k can = event_keeps f fits named (Release m cut) (bus core) (bus (released core m cut)) k tt ((can, refl), record { rows = refl; grants = refl })

  none_more : (entries : List Entry) (phase : Phase) → ((x : List (List Pair)) → leaving phase ps ≡ x → x ≡ []) → entries ≡ entries ++ entries_with m mark (leaving phase ps)
  none_more entries phase none = sym (ap (λ l. entries ++ entries_with m mark l) (none (leaving phase ps) refl) ∙ append-nil entries)

  -- a core that stays as it is
  stays : (core : Core) (todo : List ScriptLine) → Keeps f named (bus core) → ReadyAs f t cycles ps (port core m) todo (port core m).phase → leaving (port core m).phase ps ≡ [] → IsPrepared core core todo
  stays core todo k ready none = record {
    keeps = k;
    ready = ready;
    others = λ n other. refl;
    journal = sym (ap (λ l. core.journal ++ entries_with m mark l) none ∙ append-nil core.journal);
  }

  ready_at : (p q : CorePort) (todo : List ScriptLine) → q ≡ p → ReadyAs f t cycles ps p todo p.phase → ReadyAs f t cycles ps q todo q.phase
  ready_at p q todo is ready = subst (λ (x : CorePort). ReadyAs f t cycles ps x todo x.phase) (sym is) ready

  -- ---- no cycle

  idle_none : (core : Core) → (port core m).phase ≡ Idle → leaving (port core m).phase ps ≡ []
  idle_none core is = ap (λ ph. leaving ph ps) is

  wants_none : (core : Core) (set : ℕ) → (port core m).phase ≡ Wants set → leaving (port core m).phase ps ≡ []
  wants_none core set is = ap (λ ph. leaving ph ps) is

  holds_none : (core : Core) (set : ℕ) → (port core m).phase ≡ Holds set → leaving (port core m).phase ps ≡ []
  holds_none core set is = ap (λ ph. leaving ph ps) is

  idle_waits : (core : Core) (todo : List ScriptLine) → Keeps f named (bus core) → (port core m).phase ≡ Idle → WaitsForLine cycles ps todo → may_begin t (lines_at cycles (begun ps)) ≡ false
      → IsPrepared core core todo
  idle_waits core todo k is w late = stays core todo k (subst (λ ph. ReadyAs f t cycles ps (port core m) todo ph) (sym is) (w, late)) (idle_none core is)

  idle_begins : (core : Core) (l : ScriptLine) (todo : List ScriptLine) → Keeps f named (bus core) → (port core m).phase ≡ Idle → WaitsForLine cycles ps (l ∷ todo)
      → (b : Bool) → nat_le l.clock t ≡ b → IsPrepared core (begun_if f b m l core) (l ∷ todo)
  idle_begins core l todo k is w false late =
      let first = first_line cycles (begun ps) are l todo (sym w.todo_is) in
      idle_waits core (l ∷ todo) k is w (ap (λ ls. may_begin t ls) first.2 ∙ late)
  idle_begins core l todo k is w true come =
      let first = first_line cycles (begun ps) are l todo (sym w.todo_is) in
      let set : ℕ = set_of_cycle f l.ops l.last in
      let can : CanRaise f core m set = record { within = lt; idle = is; slaves = opening_below f fits l.last l.ops } in
      let next : Core = raised core m set in
      let here : port next m ≡ unloaded (Wants set) [] = set_same core (unloaded (Wants set) []) k.sound.ports in
      let rises : RisesNext f t cycles ps (l ∷ todo) set = record {
        below = first.0;
        todo_is = w.todo_is;
        down = w.down;
        came = ap (λ ls. may_begin t ls) first.2 ∙ come;
        named = sym (set_lines f cycles (begun ps) ∙ ap (λ ls. set_of_lines f ls) first.2);
      } in
      let whole : IsPrepared core next (l ∷ todo) = record {
        keeps = keeps_raise core set k can;
        ready = ready_at (unloaded (Wants set) []) (port next m) (l ∷ todo) here (inl rises);
        others = λ n other. set_other core (unloaded (Wants set) []) n other;
        journal = sym (ap (λ (q : CorePort). core.journal ++ entries_with m mark (leaving q.phase ps)) here ∙ append-nil core.journal);
      } in
      subst (λ ph. IsPrepared core (begun_by f ph m l core) (l ∷ todo)) (sym is) whole

  settles_not : (core : Core) (todo : List ScriptLine) → is_through (port core m) ≡ false → settled m todo core ≡ core
  settles_not core [] not = refl
  settles_not core (l ∷ todo) not = ap (λ b. settled_if b m l todo core) not

  left_not : (p : CorePort) (todo : List ScriptLine) → is_through p ≡ false → lines_left p todo ≡ todo
  left_not p [] not = refl
  left_not p (l ∷ todo) not = ap (λ b. left_if b l todo) not

  -- where no line is through, only the second step is made
  prepared_not : (core : Core) (todo : List ScriptLine) → is_through (port core m) ≡ false → IsPrepared core (advanced f t m todo core) todo → IsPrepared core (prepared f t m todo core) (lines_left (port core m) todo)
  prepared_not core todo not p =
      let lefts = left_not (port core m) todo not in
      subst (λ l. IsPrepared core (advanced f t m l (settled m todo core)) l) (sym lefts)
      (subst (λ c. IsPrepared core (advanced f t m todo c) todo) (sym (settles_not core todo not)) p)

  stands_idle : (core : Core) → Keeps f named (bus core) → (port core m).phase ≡ Idle → (port core m).loaded ≡ []
  stands_idle core k is = (subst (λ ph. StandsIn f ph (port core m)) is (k.sound.stand m)).1

  stands_wants : (core : Core) (set : ℕ) → Keeps f named (bus core) → (port core m).phase ≡ Wants set → (port core m).loaded ≡ []
  stands_wants core set k is = (subst (λ ph. StandsIn f ph (port core m)) is (k.sound.stand m)).1

  prepare_idle : (core : Core) (todo : List ScriptLine) → Keeps f named (bus core) → (port core m).phase ≡ Idle → WaitsForLine cycles ps todo → IsPrepared core (advanced f t m todo core) todo
  prepare_idle core [] k is w = idle_waits core [] k is w (ap (λ ls. may_begin t ls) (no_line cycles (begun ps) (sym w.todo_is)))
  prepare_idle core (l ∷ todo) k is w = idle_begins core l todo k is w (nat_le l.clock t) refl

  -- ---- a cycle that waits

  wants_stays : (core : Core) (todo : List ScriptLine) (set : ℕ) → Keeps f named (bus core) → (port core m).phase ≡ Wants set → (w : (n : ℕ) × WaitsForGrant f t cycles ps todo set n) → IsPrepared core core todo
  wants_stays core todo set k is w = stays core todo k (subst (λ ph. ReadyAs f t cycles ps (port core m) todo ph) (sym is) (inr w)) (wants_none core set is)

  wants_by : (core : Core) (l : ScriptLine) (todo : List ScriptLine) (set : ℕ) → (port core m).phase ≡ Wants set → (b : Bool) → begun_if f b m l core ≡ core
  wants_by core l todo set is true = ap (λ ph. begun_by f ph m l core) is
  wants_by core l todo set is false = refl

  prepare_wants : (core : Core) (todo : List ScriptLine) (set : ℕ) → Keeps f named (bus core) → (port core m).phase ≡ Wants set → (w : (n : ℕ) × WaitsForGrant f t cycles ps todo set n) → IsPrepared core (advanced f t m todo core) todo
  prepare_wants core [] set k is w = wants_stays core [] set k is w
  prepare_wants core (l ∷ todo) set k is w = subst (λ c. IsPrepared core c (l ∷ todo)) (sym (wants_by core l todo set is (nat_le l.clock t))) (wants_stays core (l ∷ todo) set k is w)

  -- ---- a cycle that holds its set

  ends_at : (n : ℕ) → n < length cycles → EndsAs (mark_at cycles n) (lines_at cycles n) × (mark_at cycles n ≡ true → lines_from cycles (suc n) ≡ [])
  ends_at n below = cycle_ends cycles n are below

  is_line : (n : ℕ) (done : List ScriptLine) (h : ScriptLine) (rest : List ScriptLine) → lines_at cycles n ≡ done ++ h ∷ rest → IsLine f h
  is_line n done h rest is = (lines-append f done (h ∷ rest) (subst (λ ls. AllLines f ls) is (all n))).1.0

  abbrev with_loaded : CorePort → (todo : List ScriptLine) → (set n : ℕ) (done : List ScriptLine) (h : ScriptLine) (rest : List ScriptLine) → Type 0
  with_loaded p todo set n done h rest = RunsLine f t cycles ps p todo set n done h rest

  -- the same lines at a port with the same open pairs
  runs_with : (p q : CorePort) (todo : List ScriptLine) (set n : ℕ) (done : List ScriptLine) (h : ScriptLine) (rest : List ScriptLine) → RunsLine f t cycles ps p todo set n done h rest → q.opened ≡ p.opened
      → ((q.loaded ≡ []) ⊎ ((q.loaded ≡ h.ops) × (h.clock ≤ t))) → RunsLine f t cycles ps q todo set n done h rest
  runs_with p q todo set n done h rest r opened now = record {
    nth = r.nth;
    below = r.below;
    up = r.up;
    named = r.named;
    lines = r.lines;
    todo_is = r.todo_is;
    opened = ap requests_of opened ∙ r.opened;
    come = r.come;
    first = r.first;
    loaded = now;
  }

  ready_holds : (p : CorePort) (todo : List ScriptLine) (set n : ℕ) (done : List ScriptLine) (h : ScriptLine) (rest : List ScriptLine) → p.phase ≡ Holds set → RunsLine f t cycles ps p todo set n done h rest → IsAtWork t p h
      → ReadyAs f t cycles ps p todo p.phase
  ready_holds p todo set n done h rest is r work = subst (λ ph. ReadyAs f t cycles ps p todo ph) (sym is) ((n, done, h, rest, r), work)

  -- a line is loaded, if its clock has come
  start_line : (core : Core) (todo : List ScriptLine) (set n : ℕ) (done : List ScriptLine) (h : ScriptLine) (rest : List ScriptLine) → Keeps f named (bus core) → (port core m).phase ≡ Holds set → (port core m).loaded ≡ []
      → RunsLine f t cycles ps (port core m) todo set n done h rest → (b : Bool) → nat_le h.clock t ≡ b → IsPrepared core (begun_if f b m h core) todo
  start_line core todo set n done h rest k is none r false late = stays core todo k (ready_holds (port core m) todo set n done h rest is r (inl (none, late))) (holds_none core set is)
  start_line core todo set n done h rest k is none r true come =
      let line = is_line n done h rest r.lines in
      let le : h.clock ≤ t = yes_le h.clock t come in
      let p : CorePort = port core m in
      let goes : AllGoIn f set h.ops = subst (λ (s : ℕ). AllGoIn f s h.ops) (sym (r.named ∙ set_lines f cycles n ∙ ap (λ ls. set_of_lines f ls) r.lines))
      (line_goes f fits (mark_at cycles n) done h rest (subst (λ ls. EndsAs (mark_at cycles n) ls) r.lines (ends_at n r.below).0)) in
      let can : CanLoad f core m h.ops = record { within = lt; granted = (set, is, goes); nothing = none; some = some_ops h.ops line.some; most = line.most; fit = line.fit } in
      let next : Core = loaded core m h.ops in
      let here : port next m ≡ with_load h.ops p = set_same core (with_load h.ops p) k.sound.ports in
      let runs = runs_with p (with_load h.ops p) todo set n done h rest r refl (inr (refl, le)) in
      let ready = ready_holds (with_load h.ops p) todo set n done h rest is runs (inr (refl, le, omega (arith, line.some))) in
      let whole : IsPrepared core next todo = record {
        keeps = keeps_load core h.ops k can;
        ready = ready_at (with_load h.ops p) (port next m) todo here ready;
        others = λ j other. set_other core (with_load h.ops p) j other;
        journal = sym (ap (λ (q : CorePort). core.journal ++ entries_with m mark (leaving q.phase ps)) here
            ∙ ap (λ ph. core.journal ++ entries_with m mark (leaving ph ps)) is ∙ append-nil core.journal);
      } in
      let code : begun_by f p.phase m h core ≡ next = ap (λ ph. begun_by f ph m h core) is ∙ ap (λ ops. load_if (is_loaded ops) m h core) none in
      subst (λ c. IsPrepared core c todo) (sym code) whole

  -- a line that is loaded and not through
  goes_on : (core : Core) (todo : List ScriptLine) (set n : ℕ) (done : List ScriptLine) (h : ScriptLine) (rest : List ScriptLine) → Keeps f named (bus core) → (port core m).phase ≡ Holds set → (port core m).loaded ≡ h.ops → h.clock ≤ t
      → RunsLine f t cycles ps (port core m) todo set n done h rest → is_through (port core m) ≡ false → (b : Bool) → IsPrepared core (begun_if f b m h core) todo
  goes_on core todo set n done h rest k is ops le r not false =
      let line = is_line n done h rest r.lines in
      stays core todo k (ready_holds (port core m) todo set n done h rest is r (inr (ops, le, at_work (port core m) h.ops ops line.some not))) (holds_none core set is)
  goes_on core todo set n done h rest k is ops le r not true =
      let line = is_line n done h rest r.lines in
      let same = stays core todo k (ready_holds (port core m) todo set n done h rest is r (inr (ops, le, at_work (port core m) h.ops ops line.some not))) (holds_none core set is) in
      let code : begun_by f (port core m).phase m h core ≡ core = ap (λ ph. begun_by f ph m h core) is ∙ ap (λ l. load_if (is_loaded l) m h core) ops ∙ ap (λ b. load_if b m h core) (loaded_some h.ops line.some) in
      subst (λ c. IsPrepared core c todo) (sym code) same

  goes_by : (core : Core) (todo : List ScriptLine) (set n : ℕ) (done : List ScriptLine) (h : ScriptLine) (rest : List ScriptLine) → Keeps f named (bus core) → (port core m).phase ≡ Holds set
      → RunsLine f t cycles ps (port core m) todo set n done h rest → is_through (port core m) ≡ false
      → (((port core m).loaded ≡ []) ⊎ (((port core m).loaded ≡ h.ops) × (h.clock ≤ t))) → IsPrepared core (begun_if f (nat_le h.clock t) m h core) todo
  goes_by core todo set n done h rest k is r not (inl none) = start_line core todo set n done h rest k is none r (nat_le h.clock t) refl
  goes_by core todo set n done h rest k is r not (inr ops) = goes_on core todo set n done h rest k is ops.0 ops.1 r not (nat_le h.clock t)

  -- what comes after another change of the same port
  after_change : (old mid new : Core) (todo : List ScriptLine) → ((j : ℕ) → j ≢ m → port mid j ≡ port old j) → mid.journal ≡ old.journal → IsPrepared mid new todo → IsPrepared old new todo
  after_change old mid new todo others journal p = record {
    keeps = p.keeps;
    ready = p.ready;
    others = λ j other. p.others j other ∙ others j other;
    journal = p.journal ∙ ap (λ es. es ++ entries_with m mark (leaving (port new m).phase ps)) journal;
  }

  -- ---- a line that is through

  abbrev taken_pairs : Core → List Pair
  taken_pairs core = (port core m).opened ++ paired (port core m).loaded (port core m).got

  taken_here : (core : Core) → Keeps f named (bus core) → port (taken core m) m ≡ with_taken (port core m)
  taken_here core k = set_same core (with_taken (port core m)) k.sound.ports

  taken_others : (core : Core) (j : ℕ) → j ≢ m → port (taken core m) j ≡ port core j
  taken_others core j other = set_other core (with_taken (port core m)) j other

  -- its requests are those of the lines that are done then
  taken_requests : (core : Core) (done : List ScriptLine) (h : ScriptLine) → Keeps f named (bus core) → requests_of (port core m).opened ≡ ops_of_lines done → (port core m).loaded ≡ h.ops → pending (port core m) ≡ 0
      → requests_of (taken_pairs core) ≡ ops_of_lines (done ++ h ∷ [])
  taken_requests core done h k opened ops none =
      let p : CorePort = port core m in
      let queue = k.sound.queues m in
      let same : length p.loaded ≡ length p.got = omega (arith, queue.sent, queue.counted, none) in
      requests_of-append p.opened (paired p.loaded p.got)
      ∙ ap (λ l. l ++ requests_of (paired p.loaded p.got)) opened
      ∙ ap (λ l. ops_of_lines done ++ l) (requests_of-paired p.loaded p.got same ∙ ops ∙ sym (append-nil h.ops))
      ∙ sym (ops-append done (h ∷ []))

  holds_told : (core : Core) (set : ℕ) → Keeps f named (bus core) → (port core m).phase ≡ Holds set → exchange ps ≡ told (port core m)
  holds_told core set k is = subst (λ ph. TellsAs ph ps (port core m)) is (k.enters.tells m lt).cycle

  -- the rows show the whole cycle
  shown_whole : (core : Core) (set : ℕ) → Keeps f named (bus core) → (port core m).phase ≡ Holds set → pending (port core m) ≡ 0
      → exchange ps ≡ record { requests = requests_of (taken_pairs core); answers = answers_of (taken_pairs core) }
  shown_whole core set k is none =
      let answered : length (port core m).loaded ≤ length (port core m).got = omega (arith, none) in
      holds_told core set k is ∙ told_taken f (port core m) (k.sound.queues m) answered

  -- its cycle is released
  releases : (core : Core) (todo : List ScriptLine) (set n : ℕ) (done : List ScriptLine) (h : ScriptLine) (cut : Bool) → Keeps f named (bus core) → (port core m).phase ≡ Holds set → (port core m).loaded ≡ h.ops → pending (port core m) ≡ 0
      → requests_of (port core m).opened ≡ ops_of_lines done → begun ps ≡ suc n → n < length cycles → (last_port ps).cyc ≡ true → lines_at cycles n ≡ done ++ h ∷ [] → todo ≡ lines_from cycles (suc n) → mark_at cycles n ≡ cut
      → IsPrepared core (released (taken core m) m cut) todo
  releases core todo set n done h cut k is ops none opened nth below up lines todo_is mark_is =
      let core1 : Core = taken core m in
      let can_take : CanTake f core m = record { within = lt; none_pending = none } in
      let k1 = keeps_take core k can_take in
      let here1 = taken_here core k in
      let raised_is : raised_of (port core1 m).phase ≡ Some set = ap (λ (q : CorePort). raised_of q.phase) here1 ∙ ap raised_of is in
      let can : CanRelease f core1 m = record { within = lt; raised = (set, raised_is); nothing = ap (λ (q : CorePort). q.loaded) here1 } in
      let core2 : Core = released core1 m cut in
      let here2 : port core2 m ≡ unloaded Leaves [] = set_same core1 (unloaded Leaves []) k1.sound.ports in
      let shown = shown_whole core set k is none in
      let requests = taken_requests core done h k opened ops none in
      let total : length (requests_of (taken_pairs core)) ≡ length (ops_of_lines (lines_at cycles n)) = ap (λ l. length l) requests ∙ ap (λ ls. length (ops_of_lines ls)) (sym lines) in
      let ended_now : HasEnded cycles ps todo n = record {
        nth = nth;
        below = below;
        up = up;
        todo_is = todo_is;
        answers = ap (λ (x : Exchange). length x.answers) shown ∙ same_length (taken_pairs core) ∙ total;
        requests = ap (λ (x : Exchange). length x.requests) shown ∙ total;
      } in
      let pairs_are : pairs_of (exchange ps) ≡ taken_pairs core = ap pairs_of shown ∙ pairs-again (taken_pairs core) in
      let mark_here : mark ≡ cut = ap (λ (j : ℕ). mark_at cycles j) (falls_is ps n nth up) ∙ mark_is in
      record {
        keeps = keeps_release core1 cut k1 can;
        ready = ready_at (unloaded Leaves []) (port core2 m) todo here2 (n, ended_now);
        others = λ j other. set_other core1 (unloaded Leaves []) j other ∙ taken_others core j other;
        journal = ap (λ (q : CorePort). made_with m cut core.journal q.opened) here1
            ∙ entry_ended m cut core.journal (taken_pairs core)
            ∙ ap (λ pairs. core.journal ++ entries_with m cut (put_if (is_some_pairs pairs) pairs [])) (sym pairs_are)
            ∙ ap (λ b. core.journal ++ entries_with m b (leaving Leaves ps)) (sym mark_here)
            ∙ ap (λ (q : CorePort). core.journal ++ entries_with m mark (leaving q.phase ps)) (sym here2);
      }

  leaves_if : (b : Bool) (core : Core) (l : ScriptLine) → (port core m).phase ≡ Leaves → begun_if f b m l core ≡ core
  leaves_if true core l is = ap (λ ph. begun_by f ph m l core) is
  leaves_if false core l is = refl

  -- a port that was released does nothing more
  leaves_by : (core : Core) (todo : List ScriptLine) → (port core m).phase ≡ Leaves → advanced f t m todo core ≡ core
  leaves_by core [] is = refl
  leaves_by core (l ∷ todo) is = leaves_if (nat_le l.clock t) core l is

  -- after the last line of a cycle
  through_last : (core : Core) (set n : ℕ) (done : List ScriptLine) (h : ScriptLine) (rest more : List ScriptLine) → Keeps f named (bus core) → (port core m).phase ≡ Holds set → (port core m).loaded ≡ h.ops → pending (port core m) ≡ 0
      → RunsLine f t cycles ps (port core m) (h ∷ rest ++ more) set n done h rest → more ≡ lines_from cycles (suc n) → (cut : Bool) → rest ≡ [] → mark_at cycles n ≡ cut
      → IsPrepared core (advanced f t m (rest ++ more) (released (taken core m) m cut)) (rest ++ more)
  through_last core set n done h rest more k is ops none r more_is cut last mark_is =
      let core2 : Core = released (taken core m) m cut in
      let lines : lines_at cycles n ≡ done ++ h ∷ [] = r.lines ∙ ap (λ ls. done ++ h ∷ ls) last in
      let todo_is : rest ++ more ≡ lines_from cycles (suc n) = ap (λ ls. ls ++ more) last ∙ more_is in
      let p = releases core (rest ++ more) set n done h cut k is ops none r.opened r.nth r.below r.up lines todo_is mark_is in
      let core1_n : length (taken core m).ports ≡ f.ports = (keeps_take core k (record { within = lt; none_pending = none })).sound.ports in
      let leaves : (port core2 m).phase ≡ Leaves = ap (λ (q : CorePort). q.phase) (set_same (taken core m) (unloaded Leaves []) core1_n) in
      subst (λ c. IsPrepared core c (rest ++ more)) (sym (leaves_by core2 (rest ++ more) leaves)) p

  -- after another line the next is loaded, if its clock has come
  through_more : (core : Core) (set n : ℕ) (done : List ScriptLine) (h next : ScriptLine) (rest more : List ScriptLine) → Keeps f named (bus core) → (port core m).phase ≡ Holds set → (port core m).loaded ≡ h.ops → h.clock ≤ t → pending (port core m) ≡ 0
      → RunsLine f t cycles ps (port core m) (h ∷ (next ∷ rest) ++ more) set n done h (next ∷ rest) → more ≡ lines_from cycles (suc n)
      → IsPrepared core (begun_if f (nat_le next.clock t) m next (taken core m)) (next ∷ rest ++ more)
  through_more core set n done h next rest more k is ops le none r more_is =
      let core1 : Core = taken core m in
      let k1 = keeps_take core k (record { within = lt; none_pending = none }) in
      let here1 = taken_here core k in
      let phase1 : (port core1 m).phase ≡ Holds set = ap (λ (q : CorePort). q.phase) here1 ∙ is in
      let loaded1 : (port core1 m).loaded ≡ [] = ap (λ (q : CorePort). q.loaded) here1 in
      let requests = taken_requests core done h k r.opened ops none in
      let runs : RunsLine f t cycles ps (port core1 m) (next ∷ rest ++ more) set n (done ++ h ∷ []) next rest = record {
        nth = r.nth;
        below = r.below;
        up = r.up;
        named = r.named;
        lines = r.lines ∙ sym (append_assoc done (h ∷ []) (next ∷ rest));
        todo_is = ap (λ ls. next ∷ rest ++ ls) more_is;
        opened = ap (λ (q : CorePort). requests_of q.opened) here1 ∙ requests;
        come = come-more t done h r.come le;
        first = λ empty. absurd (some_line h [] ((nothing_both done (h ∷ []) empty).1));
        loaded = inl loaded1;
      } in
      after_change core core1 (begun_if f (nat_le next.clock t) m next core1) (next ∷ rest ++ more) (λ j other. taken_others core j other) refl
      (start_line core1 (next ∷ rest ++ more) set n (done ++ h ∷ []) next rest k1 phase1 loaded1 runs (nat_le next.clock t) refl)

  through_by_last : (core : Core) (set n : ℕ) (done : List ScriptLine) (h : ScriptLine) (rest more : List ScriptLine) → Keeps f named (bus core) → (port core m).phase ≡ Holds set → (port core m).loaded ≡ h.ops → h.clock ≤ t → pending (port core m) ≡ 0
      → RunsLine f t cycles ps (port core m) (h ∷ rest ++ more) set n done h rest → more ≡ lines_from cycles (suc n) → (b : Bool) → h.last ≡ b
      → IsPrepared core (advanced f t m (rest ++ more) (after_taken m b (rest ++ more) (taken core m))) (rest ++ more)
  through_by_last core set n done h rest more k is ops le none r more_is true last =
      let e = ends_at n r.below in
      let here = ends_here (mark_at cycles n) done h rest (subst (λ ls. EndsAs (mark_at cycles n) ls) r.lines e.0) last in
      through_last core set n done h rest more k is ops none r more_is false here.0 here.1
  through_by_last core set n done h [] more k is ops le none r more_is false last =
      let e = ends_at n r.below in
      let cut = holds_here (mark_at cycles n) done h (subst (λ ls. EndsAs (mark_at cycles n) ls) r.lines e.0) last in
      let over : more ≡ [] = more_is ∙ e.1 cut in
      let p = through_last core set n done h [] more k is ops none r more_is true refl cut in
      subst (λ ls. IsPrepared core (advanced f t m ls (after_taken m false ls (taken core m))) ls) (sym over) (subst (λ ls. IsPrepared core (advanced f t m ls (released (taken core m) m true)) ls) over p)
  through_by_last core set n done h (next ∷ rest) more k is ops le none r more_is false last = through_more core set n done h next rest more k is ops le none r more_is

  loaded_is : (p : CorePort) (h : ScriptLine) → p.loaded ≢ [] → ((p.loaded ≡ []) ⊎ ((p.loaded ≡ h.ops) × (h.clock ≤ t))) → (p.loaded ≡ h.ops) × (h.clock ≤ t)
  loaded_is p h some (inl none) = absurd (some none)
  loaded_is p h some (inr ops) = ops

  -- whether its line is through or not
  prepare_line : (core : Core) (set n : ℕ) (done : List ScriptLine) (h : ScriptLine) (rest more : List ScriptLine) → Keeps f named (bus core) → (port core m).phase ≡ Holds set
      → RunsLine f t cycles ps (port core m) (h ∷ rest ++ more) set n done h rest → more ≡ lines_from cycles (suc n) → (b : Bool) → is_through (port core m) ≡ b
      → IsPrepared core (advanced f t m (left_if b h (rest ++ more)) (settled_if b m h (rest ++ more) core)) (left_if b h (rest ++ more))
  prepare_line core set n done h rest more k is r more_is false not = goes_by core (h ∷ rest ++ more) set n done h rest k is r not r.loaded
  prepare_line core set n done h rest more k is r more_is true yes_it =
      let both = through (port core m) yes_it in
      let ops = loaded_is (port core m) h both.0 r.loaded in
      through_by_last core set n done h rest more k is ops.0 ops.1 both.1 r more_is h.last refl

  prepare_holds : (core : Core) (todo : List ScriptLine) (set : ℕ) → Keeps f named (bus core) → (port core m).phase ≡ Holds set → Runs f t cycles ps (port core m) todo set
      → IsPrepared core (prepared f t m todo core) (lines_left (port core m) todo)
  prepare_holds core todo set k is runs =
      let n : ℕ = runs.0 in
      let more : List ScriptLine = lines_from cycles (suc n) in
      let r = subst (λ l. RunsLine f t cycles ps (port core m) l set n runs.1 runs.2 runs.3) runs.4.todo_is runs.4 in
      let p = prepare_line core set n runs.1 runs.2 runs.3 more k is r refl (is_through (port core m)) refl in
      subst (λ l. IsPrepared core (prepared f t m l core) (lines_left (port core m) l)) (sym runs.4.todo_is) p

  prepare_by : (core : Core) (todo : List ScriptLine) (phase : Phase) → Keeps f named (bus core) → (port core m).phase ≡ phase → FollowsAs f t cycles ps (port core m) todo phase
      → IsPrepared core (prepared f t m todo core) (lines_left (port core m) todo)
  prepare_by core todo Idle k is w = prepared_not core todo (not_through (port core m) (stands_idle core k is)) (prepare_idle core todo k is w)
  prepare_by core todo (Wants set) k is w = prepared_not core todo (not_through (port core m) (stands_wants core set k is)) (prepare_wants core todo set k is w)
  prepare_by core todo (Holds set) k is w = prepare_holds core todo set k is w
  prepare_by core todo Leaves k is w = absurd w

  -- Before a tick a master's port gets ready.
  pub prepare : (core : Core) (todo : List ScriptLine) → Keeps f named (bus core) → FollowsAs f t cycles ps (port core m) todo (port core m).phase
      → IsPrepared core (prepared f t m todo core) (lines_left (port core m) todo)
  prepare core todo k w = prepare_by core todo (port core m).phase k refl w
