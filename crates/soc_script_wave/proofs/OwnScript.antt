-- After a script each master's own part is what the script asks of it.
use Rattle.std.proofs.Common.{◌≡◌, ◌≢◌, ℕ, zero, suc, ◌+◌, ◌-◌, ◌<◌, ◌≤◌, ◌==◌, ◌&&◌, not, Bool, true, false, List, [], ◌∷◌, length, map, refl, sym, ap, ◌∙◌, subst, arith, inl, inr}
use Rattle.std.specs.Prelude.{◌⊎◌, nat_lt, nat_le, max, Some, None, slice_index_or}
use Rattle.std.proofs.lemmas.Bool.{cases_eq}
use Rattle.std.specs.Int.{bit_at}
use Rattle.wb_signals.specs.History.{own, marked}
use Rattle.soc_core.specs.Fabric.{Fabric, IsFabric}
use Rattle.soc_core.specs.Core.{Phase, Idle, Wants, Holds, Leaves, CorePort, Core, port, resting_port, resting_ports, built_core, turn, wants, wants_of, held, ticks_left, phase_after, raised, loaded, taken, released, IsTick}
use Rattle.wb_crossbar.specs.Grant.{port_at, IsGranted, IsGrant}
use Rattle.soc_core.specs.Sound.{StandsIn, IsSoundCore}
use Rattle.soc_core.specs.Events.{Raise, Load, Take, Release}
use Rattle.soc_script.specs.Script.{ScriptLine}
use Rattle.soc_script.specs.Cycles.{ScriptCycle, own_lines, cycles_of, put_if}
use Rattle.soc_script_wave.specs.Sets.{AllLines}
use Rattle.soc_script_wave.specs.ScriptOwn.{asked_by, OwnIsAsked, ScriptIsRun}
use Rattle.soc_script_wave.specs.Work.{work, port_work, all_work, latest, ScriptEnds}
use Rattle.soc_script_wave.specs.Runner.{is_through, settled, settled_if, left_if, begun_by, begun_if, advanced, RunsOn, lines_left, prepared, prepared_from, left_from, is_over, is_nil, is_released, RunsCore, CoreRunsScript, todos_from}
use Rattle.soc_wave.proofs.PortRows.{true_false, false_true}
use Rattle.soc_script_wave.proofs.ScriptCycles.{AllCome, lines_from, lines-start, script-cycles}
use Rattle.soc_script_wave.proofs.Following.{some_from}
use Rattle.soc_script_wave.proofs.Scripted.{cycle_lines, length-left}
use Rattle.soc_script_wave.proofs.RunEnds.{PortMoves, tick_less, tick_falls, tick_grants, some_granted, looked_before, some_true}
use Rattle.soc_script_wave.proofs.Preparing.{not_through}
use Rattle.soc_core.proofs.Ports.{none_held}
use Rattle.soc_script_wave.proofs.OwnRuns.{Works, IsActive, IsKept, OwnAs, asked_first, asked-all, own_prepare, own_tick}
use Rattle.soc_core.proofs.Ticks.{built_sound, event_sound, tick_sound}
use Rattle.soc_core.proofs.Bounds.{port-tick, tick_lowers, ticks_left-pending}

-- What a tick leaves of each port: its pairs and its load, and the phase after the grants. It leaves the journal.
pub record Moves (f : Fabric) (old new : Core) : Type 0 where
  pub grant : ℕ
  pub phase : (m : ℕ) → m < f.ports → (port new m).phase ≡ phase_after (bit_at grant m == 1) (port old m).phase
  pub opened : (m : ℕ) → m < f.ports → (port new m).opened ≡ (port old m).opened
  pub loaded : (m : ℕ) → m < f.ports → (port new m).loaded ≡ (port old m).loaded
  pub journal : new.journal ≡ old.journal
  pub ticks : (m : ℕ) → m < f.ports → ticks_left f (port new m) ≤ ticks_left f (port old m) - 1
  pub is_grant : IsGrant (turn f old) (wants old) (held old.ports) grant

and_parts : (a b : Bool) → (a && b) ≡ true → (a ≡ true) × (b ≡ true)
and_parts true b is = (refl, is)
and_parts false b is = absurd (false_true is)

over_at : (m : ℕ) (todos : List (List ScriptLine)) (core : Core) → is_over m todos core ≡ true → (j i : ℕ) → j ≡ m + i → i < length todos → (is_nil (slice_index_or todos i []) ≡ true) × (is_released (port core j).phase ≡ true)
over_at m [] core over j i is lt = absurd (omega (arith, lt))
over_at m (todo ∷ todos) core over j zero is lt =
    let e : m ≡ j = omega (arith, is) in
    let here = and_parts (is_nil todo && is_released (port core m).phase) (is_over (suc m) todos core) over in
    let both = and_parts (is_nil todo) (is_released (port core m).phase) here.0 in
    (both.0, ap (λ (k : ℕ). is_released (port core k).phase) (sym e) ∙ both.1)
over_at m (todo ∷ todos) core over j (suc i) is lt =
    let rest = and_parts (is_nil todo && is_released (port core m).phase) (is_over (suc m) todos core) over in
    over_at (suc m) todos core rest.1 j i (omega (arith, is)) (omega (arith, lt))

nil_is : (todo : List ScriptLine) → is_nil todo ≡ true → todo ≡ []
nil_is [] is = refl
nil_is (l ∷ todo) is = absurd (false_true is)

left_again : (m : ℕ) (todos : List (List ScriptLine)) (old new : Core) → ((j : ℕ) → m ≤ j → port new j ≡ port old j) → left_from m todos new ≡ left_from m todos old
left_again m [] old new same = refl
left_again m (todo ∷ todos) old new same =
    ap (λ p. lines_left p todo ∷ left_from (suc m) todos new) (same m (omega arith))
    ∙ ap (λ ls. lines_left (port old m) todo ∷ ls) (left_again (suc m) todos old new (λ j le. same j (omega (arith, le))))

some_line : (l : ScriptLine) (lines : List ScriptLine) → l ∷ lines ≡ [] → ⊥
some_line l lines e = let n : suc (length lines) ≡ 0 = ap (λ ls. length ls) e in omega (arith, n)

abbrev leaves_it : Phase → Bool
leaves_it Idle = false
leaves_it (Wants set) = false
leaves_it (Holds set) = false
leaves_it Leaves = true

idle_leaves : Idle ≡ Leaves → ⊥
idle_leaves e = false_true (ap leaves_it e)

come_from : (a b : ℕ) (lines : List ScriptLine) → a ≤ b → AllCome a lines → AllCome b lines
come_from a b [] le come = tt
come_from a b (l ∷ lines) le come = (omega (arith, le, come.0), come_from a b lines le come.1)

come_if : (b : Bool) (a : ℕ) (l : ScriptLine) (todo : List ScriptLine) → AllCome a (l ∷ todo) → AllCome a (left_if b l todo)
come_if true a l todo come = come.1
come_if false a l todo come = come

come_left : (a : ℕ) (p : CorePort) (todo : List ScriptLine) → AllCome a todo → AllCome a (lines_left p todo)
come_left a p [] come = tt
come_left a p (l ∷ todo) come = come_if (is_through p) a l todo come

left_at : (m i j : ℕ) (todos : List (List ScriptLine)) (core : Core) → j ≡ m + i → i < length todos → slice_index_or (left_from m todos core) i [] ≡ lines_left (port core j) (slice_index_or todos i [])
left_at m i j [] core is lt = absurd (omega (arith, lt))
left_at m zero j (todo ∷ todos) core is lt = let e : m ≡ j = omega (arith, is) in ap (λ (k : ℕ). lines_left (port core k) todo) e
left_at m (suc i) j (todo ∷ todos) core is lt = left_at (suc m) i j todos core (omega (arith, is)) (omega (arith, lt))

come_put : (b : Bool) (a : ℕ) (l : ScriptLine) (lines : List ScriptLine) → l.clock ≤ a → AllCome a lines → AllCome a (put_if b l lines)
come_put true a l lines now come = (now, come)
come_put false a l lines now come = come

own_come : (m : ℕ) (script : List ScriptLine) → AllCome (latest script) (own_lines m script)
own_come m [] = tt
own_come m (l ∷ script) = come_put (l.master == m) (max l.clock (latest script)) l (own_lines m script) (omega arith) (come_from (latest script) (max l.clock (latest script)) (own_lines m script) (omega arith) (own_come m script))

ends_step : (n t last old mid : ℕ) → n ≤ last - suc t + mid → mid ≤ old → (last ≤ t → mid < old) → (b : Bool) → nat_lt t last ≡ b → suc n ≤ last - t + old
ends_step n t last old mid later less falls true early = let lt : t < last = grind (arith, early) in omega (arith, later, less, lt)
ends_step n t last old mid later less falls false late = let le : last ≤ t = grind (arith, late) in let lt = falls le in omega (arith, later, lt, le)

some_work : (f : Fabric) (todo : List ScriptLine) → is_nil todo ≡ false → 2 ≤ work f todo
some_work f [] is = absurd (true_false is)
some_work f (l ∷ todo) is = omega arith

past_ports : (ports : List CorePort) (m : ℕ) → length ports ≤ m → slice_index_or ports m resting_port ≡ resting_port
past_ports [] m le = refl
past_ports (p ∷ ports) zero le = absurd (omega (arith, le))
past_ports (p ∷ ports) (suc m) le = past_ports ports m (omega (arith, le))

abbrev holds_it : Phase → Bool
holds_it Idle = false
holds_it (Wants set) = false
holds_it (Holds set) = true
holds_it Leaves = false

idle_holds : (set : ℕ) → Idle ≡ Holds set → ⊥
idle_holds set e = false_true (ap holds_it e)

never_leaves : (phase : Phase) (b : Bool) → phase_after b phase ≡ Leaves → ⊥
never_leaves Idle b e = false_true (ap leaves_it e)
never_leaves (Wants set) true e = false_true (ap leaves_it e)
never_leaves (Wants set) false e = false_true (ap leaves_it e)
never_leaves (Holds set) b e = false_true (ap leaves_it e)
never_leaves Leaves b e = false_true (ap leaves_it e)

module _ (f : Fabric) (fits : IsFabric f) (script : List ScriptLine) (all : AllLines f script) (I : Core → Type 0) (keeps : IsKept f I)
    (tick_keeps : (old new : Core) → I old → IsTick f old new → I new) (tick_moves : (old new : Core) → I old → IsTick f old new → Moves f old new) where
  abbrev cycles : ℕ → List ScriptCycle
  cycles m = cycles_of m script

  -- what is so of the master m
  abbrev Seen : ℕ → Core → List ScriptLine → Type 0
  Seen m core todo = (k : ℕ) × OwnAs f (cycles m) (port core m) todo k (port core m).phase × (map marked (own m core.journal) ≡ asked_first k (cycles m))

  seen_again : (m : ℕ) (old new : Core) (todo : List ScriptLine) → port new m ≡ port old m → own m new.journal ≡ own m old.journal → Seen m old todo → Seen m new todo
  seen_again m old new todo same owns s =
      (s.0, subst (λ (p : CorePort). OwnAs f (cycles m) p todo s.0 p.phase) (sym same) s.1, ap (λ l. map marked l) owns ∙ s.2)

  record AllSeen (t m : ℕ) (todos : List (List ScriptLine)) (old new : Core) : Type 0 where
    pub kept : I new
    pub seen : (j i : ℕ) → j ≡ m + i → i < length todos → Seen j new (slice_index_or (left_from m todos old) i [])
    pub works : (j i : ℕ) → j ≡ m + i → i < length todos → Works f t (port old j) (slice_index_or todos i []) (port new j) (slice_index_or (left_from m todos old) i [])
    pub before : (j : ℕ) → j < m → (port new j ≡ port old j) × (own j new.journal ≡ own j old.journal)

  seen_by : (t m : ℕ) (todo : List ScriptLine) (todos : List (List ScriptLine)) (core mid new : Core) (j i : ℕ) → j ≡ m + i → i < suc (length todos)
      → Seen m new (lines_left (port core m) todo) → left_from (suc m) todos mid ≡ left_from (suc m) todos core
      → ((l i : ℕ) → l ≡ suc m + i → i < length todos → Seen l new (slice_index_or (left_from (suc m) todos mid) i []))
      → Seen j new (slice_index_or (lines_left (port core m) todo ∷ left_from (suc m) todos core) i [])
  seen_by t m todo todos core mid new j zero is lt one lefts rest = let e : m ≡ j = omega (arith, is) in subst (λ (l : ℕ). Seen l new (lines_left (port core m) todo)) e one
  seen_by t m todo todos core mid new j (suc i) is lt one lefts rest = subst (λ ls. Seen j new (slice_index_or ls i [])) lefts (rest j i (omega (arith, is)) (omega (arith, lt)))

  works_by : (t m : ℕ) (todo : List ScriptLine) (todos : List (List ScriptLine)) (core mid new : Core) (j i : ℕ) → j ≡ m + i → i < suc (length todos)
      → Works f t (port core m) todo (port new m) (lines_left (port core m) todo) → left_from (suc m) todos mid ≡ left_from (suc m) todos core
      → ((l i : ℕ) → l ≡ suc m + i → i < length todos → Works f t (port core l) (slice_index_or todos i []) (port new l) (slice_index_or (left_from (suc m) todos mid) i []))
      → Works f t (port core j) (slice_index_or (todo ∷ todos) i []) (port new j) (slice_index_or (lines_left (port core m) todo ∷ left_from (suc m) todos core) i [])
  works_by t m todo todos core mid new j zero is lt one lefts rest =
      let e : m ≡ j = omega (arith, is) in subst (λ (l : ℕ). Works f t (port core l) todo (port new l) (lines_left (port core m) todo)) e one
  works_by t m todo todos core mid new j (suc i) is lt one lefts rest =
      subst (λ ls. Works f t (port core j) (slice_index_or todos i []) (port new j) (slice_index_or ls i [])) lefts (rest j i (omega (arith, is)) (omega (arith, lt)))

  see_all : (t m : ℕ) (todos : List (List ScriptLine)) (core : Core) → m + length todos ≤ f.ports → I core → ((j i : ℕ) → j ≡ m + i → i < length todos → Seen j core (slice_index_or todos i []))
      → AllSeen t m todos core (prepared_from f t m todos core)
  see_all t m [] core le i seen = record { kept = i; seen = λ j n is lt. absurd (omega (arith, lt)); works = λ j n is lt. absurd (omega (arith, lt)); before = λ j lt. (refl, refl) }
  see_all t m (todo ∷ todos) core le i seen =
      let lt : m < f.ports = omega (arith, le) in
      let s = seen m 0 (omega arith) (omega arith) in
      let one = own_prepare f fits I keeps t m lt (cycles m) (script-cycles m script) (cycle_lines f m script all) core todo s.0 (record { kept = i; follows = s.1; asked = s.2 }) in
      let mid : Core = prepared f t m todo core in
      let rest = see_all t (suc m) todos mid (omega (arith, le)) one.state.kept (λ j n is below.
      let other : j ≢ m = λ same. omega (arith, same, is) in
      seen_again j core mid (slice_index_or todos n []) (one.others j other) (one.owns j other) (seen j (suc n) (omega (arith, is)) (omega (arith, below)))) in
      let new : Core = prepared_from f t (suc m) todos mid in
      let mine = rest.before m (omega arith) in
      let here = seen_again m mid new (lines_left (port core m) todo) mine.0 mine.1 (one.ended_now, one.state.follows, one.state.asked) in
      let lefts : left_from (suc m) todos mid ≡ left_from (suc m) todos core = left_again (suc m) todos core mid (λ j above. one.others j (λ same. omega (arith, same, above))) in
      record {
        kept = rest.kept;
        seen = λ j n is below. seen_by t m todo todos core mid new j n is below here lefts rest.seen;
        works = λ j n is below. works_by t m todo todos core mid new j n is below (subst (λ p. Works f t (port core m) todo p (lines_left (port core m) todo)) (sym mine.0) one.works) lefts
            (λ l n is below. subst (λ p. Works f t p (slice_index_or todos n []) (port new l) (slice_index_or (left_from (suc m) todos mid) n [])) (one.others l (λ same. omega (arith, same, is))) (rest.works l n is below));
        before = λ j below.
            let other : j ≢ m = λ same. omega (arith, same, below) in
            let later = rest.before j (omega (arith, below)) in
            (later.0 ∙ one.others j other, later.1 ∙ one.owns j other);
      }

  -- a clock
  seen_tick : (old new : Core) (m : ℕ) (todo : List ScriptLine) → m < f.ports → I old → IsTick f old new → Seen m old todo → Seen m new todo
  seen_tick old new m todo lt i tick s =
      let moves = tick_moves old new i tick in
      let next = own_tick f fits I keeps 0 m lt (cycles m) (script-cycles m script) (cycle_lines f m script all) (port old m) (port new m) todo s.0 (port old m).phase (bit_at moves.grant m == 1)
      ((keeps.sound old i).stand m) (moves.opened m lt) (moves.loaded m lt) s.1 in
      (s.0, subst (λ ph. OwnAs f (cycles m) (port new m) todo s.0 ph) (sym (moves.phase m lt)) next, ap (λ l. map marked (own m l)) moves.journal ∙ s.2)

  -- when all is over
  all_asked_by : (m k : ℕ) → lines_from (cycles m) k ≡ [] → (b : Bool) → nat_lt k (length (cycles m)) ≡ b → asked_first k (cycles m) ≡ map asked_by (cycles m)
  all_asked_by m k none true below =
      let lt : k < length (cycles m) = grind (arith, below) in
      absurd (true_false (ap is_nil (sym none) ∙ some_from (cycles m) k (script-cycles m script) lt))
  all_asked_by m k none false above = let le : length (cycles m) ≤ k = grind (arith, above) in asked-all k (cycles m) le

  all_asked : (m k : ℕ) → lines_from (cycles m) k ≡ [] → asked_first k (cycles m) ≡ map asked_by (cycles m)
  all_asked m k none = all_asked_by m k none (nat_lt k (length (cycles m))) refl

  over_asked : (m k : ℕ) (p : CorePort) (todo : List ScriptLine) (phase : Phase) → OwnAs f (cycles m) p todo k phase → is_nil todo ≡ true → is_released phase ≡ true → asked_first k (cycles m) ≡ map asked_by (cycles m)
  over_asked m k p todo Idle w none over = all_asked m k (sym w ∙ nil_is todo none)
  over_asked m k p todo (Wants set) w none over = absurd (false_true over)
  over_asked m k p todo (Holds set) w none over = absurd (false_true over)
  over_asked m k p todo Leaves w none over = all_asked m k (sym w ∙ nil_is todo none)

  own_runs : (n t : ℕ) (todos : List (List ScriptLine)) (old new : Core) → length todos ≡ f.ports → I old → ((m : ℕ) → m < f.ports → Seen m old (slice_index_or todos m [])) → RunsCore f n t todos old new → OwnIsAsked f script new
  own_runs zero t todos old new count i seen run = λ m lt.
      let ready : Core = prepared_from f t 0 todos old in
      let p = see_all t 0 todos old (omega (arith, count)) i (λ j n is below. let e : j ≡ n = omega (arith, is) in subst (λ (l : ℕ). Seen j old (slice_index_or todos l [])) e (seen j (omega (arith, e, below, count)))) in
      let s = p.seen m m (omega arith) (omega (arith, lt, count)) in
      let over = over_at 0 (left_from 0 todos old) ready run.0 m m (omega arith) (omega (arith, lt, count, length-left 0 todos old)) in
      ap (λ l. map marked (own m l)) (tick_moves ready new p.kept run.1).journal ∙ s.2 ∙ over_asked m s.0 (port ready m) (slice_index_or (left_from 0 todos old) m []) (port ready m).phase s.1 over.0 over.1
  own_runs (suc n) t todos old new count i seen run =
      let ready : Core = prepared_from f t 0 todos old in
      let p = see_all t 0 todos old (omega (arith, count)) i (λ j n is below. let e : j ≡ n = omega (arith, is) in subst (λ (l : ℕ). Seen j old (slice_index_or todos l [])) e (seen j (omega (arith, e, below, count)))) in
      own_runs n (suc t) (left_from 0 todos old) run.0 new (length-left 0 todos old ∙ count) (tick_keeps ready run.0 p.kept run.2)
      (λ m lt. seen_tick ready run.0 m (slice_index_or (left_from 0 todos old) m []) lt p.kept run.2 (p.seen m m (omega arith) (omega (arith, lt, count)))) run.3

  -- ---- the work that is left

  abbrev todo_of : List (List ScriptLine) → ℕ → List ScriptLine
  todo_of todos j = slice_index_or todos j []

  -- n masters from m on
  abbrev total : ℕ → ℕ → List (List ScriptLine) → Core → ℕ
  total m zero todos core = 0
  total m (suc n) todos core = port_work f (port core m) (todo_of todos m) + total (suc m) n todos core

  total_less : (m n : ℕ) (todos lefts : List (List ScriptLine)) (old new : Core) → ((j : ℕ) → j < m + n → port_work f (port new j) (todo_of lefts j) ≤ port_work f (port old j) (todo_of todos j)) → total m n lefts new ≤ total m n todos old
  total_less m zero todos lefts old new each = omega arith
  total_less m (suc n) todos lefts old new each =
      omega (arith, each m (omega arith), total_less (suc m) n todos lefts old new (λ j lt. each j (omega (arith, lt))))

  total_by : (m n : ℕ) (todos lefts : List (List ScriptLine)) (old new : Core) → ((j : ℕ) → j < m + suc n → port_work f (port new j) (todo_of lefts j) ≤ port_work f (port old j) (todo_of todos j))
      → (k : ℕ) → m ≤ k → k < m + suc n → port_work f (port new k) (todo_of lefts k) < port_work f (port old k) (todo_of todos k) → (k ≡ m) ⊎ (k ≢ m)
      → (suc m ≤ k → total (suc m) n lefts new < total (suc m) n todos old) → total m (suc n) lefts new < total m (suc n) todos old
  total_by m n todos lefts old new each k le lt falls (inl here) more =
      let mine : port_work f (port new m) (todo_of lefts m) < port_work f (port old m) (todo_of todos m) = subst (λ (j : ℕ). port_work f (port new j) (todo_of lefts j) < port_work f (port old j) (todo_of todos j)) here falls in
      omega (arith, mine, total_less (suc m) n todos lefts old new (λ j below. each j (omega (arith, below))))
  total_by m n todos lefts old new each k le lt falls (inr other) more =
      let later = more (omega (arith, le, other)) in
      omega (arith, each m (omega arith), later)

  total_falls : (m n : ℕ) (todos lefts : List (List ScriptLine)) (old new : Core) → ((j : ℕ) → j < m + n → port_work f (port new j) (todo_of lefts j) ≤ port_work f (port old j) (todo_of todos j))
      → (k : ℕ) → m ≤ k → k < m + n → port_work f (port new k) (todo_of lefts k) < port_work f (port old k) (todo_of todos k) → total m n lefts new < total m n todos old
  total_falls m zero todos lefts old new each k le lt falls = absurd (omega (arith, le, lt))
  total_falls m (suc n) todos lefts old new each k le lt falls = total_by m n todos lefts old new each k le lt falls (cases_eq k m)
      (λ above. total_falls (suc m) n todos lefts old new (λ j below. each j (omega (arith, below))) k above (omega (arith, lt)) falls)

  -- a master that has something to do, or none has
  abbrev is_active : Phase → List ScriptLine → Bool
  is_active Idle todo = not (is_nil todo)
  is_active (Wants set) todo = false
  is_active (Holds set) todo = true
  is_active Leaves todo = true

  active_is : (phase : Phase) (todo : List ScriptLine) → (phase ≡ Leaves → ⊥) → is_active phase todo ≡ true → IsActive phase todo
  active_is Idle [] none is = absurd (false_true is)
  active_is Idle (l ∷ todo) none is = λ e. some_line l todo e
  active_is (Wants set) todo none is = absurd (false_true is)
  active_is (Holds set) todo none is = tt
  active_is Leaves todo none is = absurd (none refl)

  none_by : (todos : List (List ScriptLine)) (core : Core) (n j : ℕ) → is_active (port core n).phase (todo_of todos n) ≡ false → ((k : ℕ) → k < n → is_active (port core k).phase (todo_of todos k) ≡ false) → j < suc n → (j ≡ n) ⊎ (j ≢ n)
      → is_active (port core j).phase (todo_of todos j) ≡ false
  none_by todos core n j here none lt (inl same) = subst (λ (k : ℕ). is_active (port core k).phase (todo_of todos k) ≡ false) (sym same) here
  none_by todos core n j here none lt (inr other) = none j (omega (arith, lt, other))

  search_by : (todos : List (List ScriptLine)) (core : Core) (n : ℕ) (b : Bool) → is_active (port core n).phase (todo_of todos n) ≡ b
      → (((j : ℕ) × (j < n) × (is_active (port core j).phase (todo_of todos j) ≡ true)) ⊎ ((j : ℕ) → j < n → is_active (port core j).phase (todo_of todos j) ≡ false))
      → ((j : ℕ) × (j < suc n) × (is_active (port core j).phase (todo_of todos j) ≡ true)) ⊎ ((j : ℕ) → j < suc n → is_active (port core j).phase (todo_of todos j) ≡ false)
  search_by todos core n true here rest = inl (n, omega arith, here)
  search_by todos core n false here (inl found) = inl (found.0, omega (arith, found.1), found.2)
  search_by todos core n false here (inr none) = inr (λ j lt. none_by todos core n j here none lt (cases_eq j n))

  search_active : (todos : List (List ScriptLine)) (core : Core) (n : ℕ) → ((j : ℕ) × (j < n) × (is_active (port core j).phase (todo_of todos j) ≡ true)) ⊎ ((j : ℕ) → j < n → is_active (port core j).phase (todo_of todos j) ≡ false)
  search_active todos core zero = inr (λ j lt. absurd (omega (arith, lt)))
  search_active todos core (suc n) = search_by todos core n (is_active (port core n).phase (todo_of todos n)) refl (search_active todos core n)

  -- ---- where none has, nothing is done before the tick

  idle_loaded : (core : Core) (m : ℕ) (todo : List ScriptLine) → I core → (phase : Phase) → (port core m).phase ≡ phase → is_active phase todo ≡ false → (port core m).loaded ≡ []
  idle_loaded core m todo i Idle is off = (subst (λ ph. StandsIn f ph (port core m)) is ((keeps.sound core i).stand m)).1
  idle_loaded core m todo i (Wants set) is off = (subst (λ ph. StandsIn f ph (port core m)) is ((keeps.sound core i).stand m)).1
  idle_loaded core m todo i (Holds set) is off = absurd (true_false off)
  idle_loaded core m todo i Leaves is off = absurd (true_false off)

  rest_left : (p : CorePort) (todo : List ScriptLine) → is_through p ≡ false → lines_left p todo ≡ todo
  rest_left p [] off = refl
  rest_left p (l ∷ todo) off = ap (λ b. left_if b l todo) off

  rest_settled : (m : ℕ) (core : Core) (todo : List ScriptLine) → is_through (port core m) ≡ false → settled m todo core ≡ core
  rest_settled m core [] off = refl
  rest_settled m core (l ∷ todo) off = ap (λ b. settled_if b m l todo core) off

  wants_by : (b : Bool) (m : ℕ) (core : Core) (l : ScriptLine) (set : ℕ) → (port core m).phase ≡ Wants set → begun_if f b m l core ≡ core
  wants_by true m core l set is = ap (λ ph. begun_by f ph m l core) is
  wants_by false m core l set is = refl

  rest_advanced : (t m : ℕ) (core : Core) (todo : List ScriptLine) (phase : Phase) → (port core m).phase ≡ phase → is_active phase todo ≡ false → advanced f t m todo core ≡ core
  rest_advanced t m core [] phase is off = refl
  rest_advanced t m core (l ∷ todo) Idle is off = absurd (true_false off)
  rest_advanced t m core (l ∷ todo) (Wants set) is off = wants_by (nat_le l.clock t) m core l set is
  rest_advanced t m core (l ∷ todo) (Holds set) is off = absurd (true_false off)
  rest_advanced t m core (l ∷ todo) Leaves is off = absurd (true_false off)

  rest_one : (t m : ℕ) (core : Core) (todo : List ScriptLine) → I core → is_active (port core m).phase todo ≡ false → (prepared f t m todo core ≡ core) × (lines_left (port core m) todo ≡ todo)
  rest_one t m core todo i off =
      let free = idle_loaded core m todo i (port core m).phase refl off in
      let not_it = not_through (port core m) free in
      let lefts = rest_left (port core m) todo not_it in (
        ap (λ l. advanced f t m l (settled m todo core)) lefts ∙ ap (λ c. advanced f t m todo c) (rest_settled m core todo not_it) ∙ rest_advanced t m core todo (port core m).phase refl off,
        lefts,
      )

  rest_all : (t m : ℕ) (todos : List (List ScriptLine)) (core : Core) → I core → ((j i : ℕ) → j ≡ m + i → i < length todos → is_active (port core j).phase (todo_of todos i) ≡ false)
      → (prepared_from f t m todos core ≡ core) × (left_from m todos core ≡ todos)
  rest_all t m [] core i off = (refl, refl)
  rest_all t m (todo ∷ todos) core i off =
      let one = rest_one t m core todo i (off m 0 (omega arith) (omega arith)) in
      let rest = rest_all t (suc m) todos core i (λ j n is lt. off j (suc n) (omega (arith, is)) (omega (arith, lt))) in (
        ap (λ c. prepared_from f t (suc m) todos c) one.0 ∙ rest.0,
        ap (λ l. l ∷ left_from (suc m) todos core) one.1 ∙ ap (λ ls. todo ∷ ls) rest.1,
      )

  -- ---- a clock

  abbrev NoneLeaves : Core → Type 0
  NoneLeaves core = (j : ℕ) → j < f.ports → (port core j).phase ≡ Leaves → ⊥

  waits_at : (m : ℕ) (todo : List ScriptLine) (todos : List (List ScriptLine)) (core : Core) (phase : Phase) → (port core m).phase ≡ phase → is_active (port core m).phase todo ≡ false → is_over m (todo ∷ todos) core ≡ false
      → (is_over (suc m) todos core ≡ false → (j : ℕ) × (j < m + suc (length todos)) × (set : ℕ) × ((port core j).phase ≡ Wants set)) → (j : ℕ) × (j < m + suc (length todos)) × (set : ℕ) × ((port core j).phase ≡ Wants set)
  waits_at m [] todos core Idle is off over later = later (sym (ap (λ ph. (true && is_released ph) && is_over (suc m) todos core) is) ∙ over)
  waits_at m (l ∷ todo) todos core Idle is off over later = absurd (true_false (sym (ap (λ ph. is_active ph (l ∷ todo)) is) ∙ off))
  waits_at m todo todos core (Wants set) is off over later = (m, omega arith, set, is)
  waits_at m todo todos core (Holds set) is off over later = absurd (true_false (sym (ap (λ ph. is_active ph todo) is) ∙ off))
  waits_at m todo todos core Leaves is off over later = absurd (true_false (sym (ap (λ ph. is_active ph todo) is) ∙ off))

  -- a port that waits, where all is not over and none has anything to do
  over_waits : (m : ℕ) (todos : List (List ScriptLine)) (core : Core) → is_over m todos core ≡ false → ((j i : ℕ) → j ≡ m + i → i < length todos → is_active (port core j).phase (todo_of todos i) ≡ false)
      → (j : ℕ) × (j < m + length todos) × (set : ℕ) × ((port core j).phase ≡ Wants set)
  over_waits m [] core over off = absurd (true_false over)
  over_waits m (todo ∷ todos) core over off =
      waits_at m todo todos core (port core m).phase refl (off m 0 (omega arith) (omega arith)) over
      (λ later. let r = over_waits (suc m) todos core later (λ j i is lt. off j (suc i) (omega (arith, is)) (omega (arith, lt))) in (r.0, omega (arith, r.1), r.2, r.3))

  module _ (t : ℕ) (todos : List (List ScriptLine)) (old new : Core) (count : length todos ≡ f.ports) (i : I old) (seen : (m : ℕ) → m < f.ports → Seen m old (todo_of todos m))
      (none : NoneLeaves old) (tick : IsTick f (prepared_from f t 0 todos old) new) where
    abbrev ready : Core
    ready = prepared_from f t 0 todos old

    abbrev lefts : List (List ScriptLine)
    lefts = left_from 0 todos old

    p : AllSeen t 0 todos old ready
    p = see_all t 0 todos old (omega (arith, count)) i (λ j n is below. let e : j ≡ n = omega (arith, is) in subst (λ (l : ℕ). Seen j old (slice_index_or todos l [])) e (seen j (omega (arith, e, below, count))))

    moves : Moves f ready new
    moves = tick_moves ready new p.kept tick

    abbrev bit : ℕ → Bool
    bit j = bit_at moves.grant j == 1

    sound : IsSoundCore f ready
    sound = keeps.sound ready p.kept

    port_moves : (j : ℕ) → j < f.ports → PortMoves f (port ready j) (port new j) (bit j)
    port_moves j lt = record { phase = moves.phase j lt; loaded = moves.loaded j lt; ticks = moves.ticks j lt }

    works : (j : ℕ) → j < f.ports → Works f t (port old j) (todo_of todos j) (port ready j) (todo_of lefts j)
    works j lt = p.works j j (omega arith) (omega (arith, lt, count))

    tick_le : (j : ℕ) → j < f.ports → port_work f (port new j) (todo_of lefts j) ≤ port_work f (port ready j) (todo_of lefts j)
    tick_le j lt = tick_less f (port ready j) (port new j) (todo_of lefts j) (bit j) (port ready j).phase (port_moves j lt) refl (sound.stand j)

    clock_le : (j : ℕ) → j < 0 + f.ports → port_work f (port new j) (todo_of lefts j) ≤ port_work f (port old j) (todo_of todos j)
    clock_le j below = let lt : j < f.ports = omega (arith, below) in omega (arith, tick_le j lt, (works j lt).less)

    clock_less : total 0 f.ports lefts new ≤ total 0 f.ports todos old
    clock_less = total_less 0 f.ports todos lefts old new clock_le

    -- one that has something to do
    active_falls : (j : ℕ) → j < f.ports → AllCome t (todo_of todos j) → IsActive (port old j).phase (todo_of todos j) → port_work f (port new j) (todo_of lefts j) < port_work f (port old j) (todo_of todos j)
    active_falls j lt come active = elim ((works j lt).acts come active) [
      | inl falls ↦ omega (arith, falls, tick_le j lt)
      | inr will ↦
          let strict = tick_falls f (port ready j) (port new j) (todo_of lefts j) (bit j) (port_moves j lt) (ticks_left-pending f fits (port ready j) (sound.queues j)).0 will in
          omega (arith, strict, (works j lt).less)
    ]

    -- one that is granted
    granted_falls : (j : ℕ) → j < f.ports → (set : ℕ) → (port ready j).phase ≡ Wants set → IsGranted moves.grant j → port_work f (port new j) (todo_of lefts j) < port_work f (port old j) (todo_of todos j)
    granted_falls j lt set is granted =
        let s = p.seen j j (omega arith) (omega (arith, lt, count)) in
        let w = subst (λ ph. OwnAs f (cycles j) (port ready j) (todo_of lefts j) s.0 ph) is s.1 in
        let some : 2 ≤ work f (todo_of lefts j) = some_work f (todo_of lefts j) (ap is_nil w.0 ∙ some_from (cycles j) s.0 (script-cycles j script) w.1) in
        let strict = tick_grants f (port ready j) (port new j) (todo_of lefts j) (bit j) set (port_moves j lt) is (subst (λ ph. StandsIn f ph (port ready j)) is (sound.stand j)) (some_true (bit_at moves.grant j) granted) some in
        omega (arith, strict, (works j lt).less)

    not_granted : (j : ℕ) → j < f.ports → wants ready j ≡ None → IsGranted moves.grant j → ⊥
    not_granted j lt wants_none granted =
        let look = looked_before (turn f ready) j lt sound.first in
        let zero_bit = (moves.is_grant.decided look.0 look.1).idle (ap (wants ready) look.2 ∙ wants_none) in
        let one_bit : bit_at moves.grant (port_at (turn f ready) look.0) ≡ 1 = ap (bit_at moves.grant) look.2 ∙ granted in
        omega (arith, zero_bit, one_bit)

    granted_by : (j : ℕ) → j < f.ports → (phase : Phase) → (port ready j).phase ≡ phase → IsGranted moves.grant j → is_active (port ready j).phase (todo_of todos j) ≡ false
        → port_work f (port new j) (todo_of lefts j) < port_work f (port old j) (todo_of todos j)
    granted_by j lt Idle is granted off = absurd (not_granted j lt (ap wants_of is) granted)
    granted_by j lt (Wants set) is granted off = granted_falls j lt set is granted
    granted_by j lt (Holds set) is granted off = absurd (true_false (sym (ap (λ ph. is_active ph (todo_of todos j)) is) ∙ off))
    granted_by j lt Leaves is granted off = absurd (not_granted j lt (ap wants_of is) granted)

    no_holds : (m set : ℕ) → (slice_index_or old.ports m resting_port).phase ≡ Holds set → (b : Bool) → nat_lt m f.ports ≡ b → ((j : ℕ) → j < f.ports → is_active (port old j).phase (todo_of todos j) ≡ false) → ⊥
    no_holds m set is true below off =
        let lt : m < f.ports = grind (arith, below) in
        true_false (sym (ap (λ ph. is_active ph (todo_of todos m)) is) ∙ off m lt)
    no_holds m set is false above off =
        let le : f.ports ≤ m = grind (arith, above) in
        let beyond = past_ports old.ports m (omega (arith, le, (keeps.sound old i).ports)) in
        idle_holds set (sym (ap (λ (q : CorePort). q.phase) beyond) ∙ is)

    -- where none has anything to do, one is granted
    waiting_falls : ((j : ℕ) → j < f.ports → is_active (port old j).phase (todo_of todos j) ≡ false) → is_over 0 lefts ready ≡ false
        → (j : ℕ) × (j < f.ports) × (port_work f (port new j) (todo_of lefts j) < port_work f (port old j) (todo_of todos j))
    waiting_falls off over =
        let rest = rest_all t 0 todos old i (λ j n is lt. let e : j ≡ n = omega (arith, is) in subst (λ (l : ℕ). is_active (port old j).phase (todo_of todos l) ≡ false) e (off j (omega (arith, e, lt, count)))) in
        let over_old : is_over 0 todos old ≡ false = ap (λ ls. is_over 0 ls old) (sym rest.1) ∙ ap (λ c. is_over 0 lefts c) (sym rest.0) ∙ over in
        let waits = over_waits 0 todos old over_old (λ j n is lt. let e : j ≡ n = omega (arith, is) in subst (λ (l : ℕ). is_active (port old j).phase (todo_of todos l) ≡ false) e (off j (omega (arith, e, lt, count)))) in
        let k : ℕ = waits.0 in
        let below : k < f.ports = omega (arith, waits.1, count) in
        let wants_it : wants ready k ≡ Some waits.2 = ap (λ c. wants c k) rest.0 ∙ ap wants_of waits.3 in
        let no_held : held ready.ports ≡ 0 = ap (λ (c : Core). held c.ports) rest.0 ∙ none_held old.ports (λ m set is. no_holds m set is (nat_lt m f.ports) refl off) in
        let grant : IsGrant (turn f ready) (wants ready) 0 moves.grant = subst (λ (n : ℕ). IsGrant (turn f ready) (wants ready) n moves.grant) no_held moves.is_grant in
        let one = some_granted (turn f ready) (wants ready) moves.grant k waits.2 sound.first below wants_it grant in
        let phase : (port ready one.0).phase ≡ (port old one.0).phase = ap (λ c. (port c one.0).phase) rest.0 in
        (one.0, one.1, granted_by one.0 one.1 (port ready one.0).phase refl one.2 (ap (λ ph. is_active ph (todo_of todos one.0)) phase ∙ off one.0 one.1))

    clock_falls : ((j : ℕ) → j < f.ports → AllCome t (todo_of todos j)) → is_over 0 lefts ready ≡ false → total 0 f.ports lefts new < total 0 f.ports todos old
    clock_falls come over = elim (search_active todos old f.ports) [
      | inl found ↦ total_falls 0 f.ports todos lefts old new clock_le found.0 (omega arith) (omega (arith, found.1))
          (active_falls found.0 found.1 (come found.0 found.1) (active_is (port old found.0).phase (todo_of todos found.0) (none found.0 found.1) found.2))
      | inr off ↦
          let w = waiting_falls off over in
          total_falls 0 f.ports todos lefts old new clock_le w.0 (omega arith) (omega (arith, w.1)) w.2
    ]

    none_after : NoneLeaves new
    none_after j lt is = never_leaves (port ready j).phase (bit j) (sym (moves.phase j lt) ∙ is)

  todo_at : (m k n : ℕ) → m ≡ k + n → (c : ℕ) → n < c → slice_index_or (todos_from script k c) n [] ≡ own_lines m script
  todo_at m k n is zero lt = absurd (omega (arith, lt))
  todo_at m k zero is (suc c) lt = let e : k ≡ m = omega (arith, is) in ap (λ (j : ℕ). own_lines j script) e
  todo_at m k (suc n) is (suc c) lt = todo_at m (suc k) n (omega (arith, is)) c (omega (arith, lt))

  pub length-todos : (k c : ℕ) → length (todos_from script k c) ≡ c
  length-todos k zero = refl
  length-todos k (suc c) = ap (λ (n : ℕ). suc n) (length-todos (suc k) c)

  idle_at : (n m : ℕ) → slice_index_or (resting_ports n) m resting_port ≡ resting_port
  idle_at zero m = refl
  idle_at (suc n) zero = refl
  idle_at (suc n) (suc m) = idle_at n m

  pub own_start : (m : ℕ) → m < f.ports → Seen m (built_core f) (slice_index_or (todos_from script 0 f.ports) m [])
  own_start m lt = (
    0,
    subst (λ (p : CorePort). OwnAs f (cycles m) p (slice_index_or (todos_from script 0 f.ports) m []) 0 p.phase) (sym (idle_at f.ports m))
        (todo_at m 0 m (omega arith) f.ports lt ∙ sym (lines-start m script)),
    refl,
  )

  pub own_script : I (built_core f) → (n : ℕ) (new : Core) → CoreRunsScript f script n new → OwnIsAsked f script new
  own_script i n new run = own_runs n 0 (todos_from script 0 f.ports) (built_core f) new (length-todos 0 f.ports) i own_start run

  -- ---- the bound of a run

  pub own_next : (t : ℕ) (todos : List (List ScriptLine)) (old new : Core) → length todos ≡ f.ports → I old → ((m : ℕ) → m < f.ports → Seen m old (todo_of todos m)) → IsTick f (prepared_from f t 0 todos old) new
      → (m : ℕ) → m < f.ports → Seen m new (todo_of (left_from 0 todos old) m)
  own_next t todos old new count i seen tick m lt =
      let p = see_all t 0 todos old (omega (arith, count)) i (λ j n is below. let e : j ≡ n = omega (arith, is) in subst (λ (l : ℕ). Seen j old (slice_index_or todos l [])) e (seen j (omega (arith, e, below, count)))) in
      seen_tick (prepared_from f t 0 todos old) new m (todo_of (left_from 0 todos old) m) lt p.kept tick (p.seen m m (omega arith) (omega (arith, lt, count)))

  pub kept_next : (t : ℕ) (todos : List (List ScriptLine)) (old new : Core) → length todos ≡ f.ports → I old → ((m : ℕ) → m < f.ports → Seen m old (todo_of todos m)) → IsTick f (prepared_from f t 0 todos old) new → I new
  kept_next t todos old new count i seen tick =
      let p = see_all t 0 todos old (omega (arith, count)) i (λ j n is below. let e : j ≡ n = omega (arith, is) in subst (λ (l : ℕ). Seen j old (slice_index_or todos l [])) e (seen j (omega (arith, e, below, count)))) in
      tick_keeps (prepared_from f t 0 todos old) new p.kept tick

  ends_by : (n t last : ℕ) (todos : List (List ScriptLine)) (old new : Core) → length todos ≡ f.ports → I old → ((m : ℕ) → m < f.ports → Seen m old (todo_of todos m)) → NoneLeaves old
      → ((m : ℕ) → m < f.ports → AllCome last (todo_of todos m)) → RunsOn f n t todos old new → n ≤ last - t + total 0 f.ports todos old
  ends_by zero t last todos old new count i seen none come run = omega arith
  ends_by (suc n) t last todos old new count i seen none come run =
      let mid : Core = run.0 in
      let lefts : List (List ScriptLine) = left_from 0 todos old in
      let later = ends_by n (suc t) last lefts mid new (length-left 0 todos old ∙ count) (kept_next t todos old mid count i seen run.2) (own_next t todos old mid count i seen run.2)
      (none_after t todos old mid count i seen none run.2)
      (λ m lt. subst (λ ls. AllCome last ls) (sym (left_at 0 m m todos old (omega arith) (omega (arith, lt, count)))) (come_left last (port old m) (todo_of todos m) (come m lt))) run.3 in
      ends_step n t last (total 0 f.ports todos old) (total 0 f.ports lefts mid) later (clock_less t todos old mid count i seen none run.2)
      (λ le. clock_falls t todos old mid count i seen none run.2 (λ j lt. come_from last t (todo_of todos j) le (come j lt)) run.1) (nat_lt t last) refl

  start_work : (m c : ℕ) → m + c ≡ f.ports → total m c (todos_from script 0 f.ports) (built_core f) ≡ all_work f (todos_from script m c)
  start_work m zero is = refl
  start_work m (suc c) is =
      let lt : m < f.ports = omega (arith, is) in
      let mine : port_work f (port (built_core f) m) (todo_of (todos_from script 0 f.ports) m) ≡ work f (own_lines m script) =
      ap (λ (p : CorePort). port_work f p (todo_of (todos_from script 0 f.ports) m)) (idle_at f.ports m) ∙ ap (work f) (todo_at m 0 m (omega arith) f.ports lt) in
      ap (λ (n : ℕ). n + total (suc m) c (todos_from script 0 f.ports) (built_core f)) mine ∙ ap (λ (n : ℕ). work f (own_lines m script) + n) (start_work (suc m) c (omega (arith, is)))

  pub script_ends : I (built_core f) → (n : ℕ) (new : Core) → RunsOn f n 0 (todos_from script 0 f.ports) (built_core f) new → n ≤ latest script + all_work f (todos_from script 0 f.ports)
  script_ends i n new run =
      let bound = ends_by n 0 (latest script) (todos_from script 0 f.ports) (built_core f) new (length-todos 0 f.ports) i own_start
      (λ j lt is. idle_leaves (sym (ap (λ (p : CorePort). p.phase) (idle_at f.ports j)) ∙ is))
      (λ m lt. subst (λ ls. AllCome (latest script) ls) (sym (todo_at m 0 m (omega arith) f.ports lt)) (own_come m script)) run in
      omega (arith, bound, start_work 0 f.ports (omega arith))

-- ---- a bus on clocks

module _ (f : Fabric) (fits : IsFabric f) where
  pub sound_kept : IsKept f (IsSoundCore f)
  sound_kept = record {
    sound = λ core i. i;
    raise = λ core m set i can. event_sound f fits (Raise m set) core (raised core m set) i (can, refl);
    load = λ core m ops i can. event_sound f fits (Load m ops) core (loaded core m ops) i (can, refl);
    take = λ core m i can. event_sound f fits (Take m) core (taken core m) i (can, refl);
    release = λ core m cut i can. event_sound f fits (Release m cut) core (released core m cut) i (can, refl);
  }

  pub tick_moves : (old new : Core) → IsSoundCore f old → IsTick f old new → Moves f old new
  tick_moves old new sound tick = record {
    grant = tick.grant;
    phase = λ m lt. ap (λ (p : CorePort). p.phase) (port-tick f fits old new sound tick m);
    opened = λ m lt. ap (λ (p : CorePort). p.opened) (port-tick f fits old new sound tick m);
    loaded = λ m lt. ap (λ (p : CorePort). p.loaded) (port-tick f fits old new sound tick m);
    journal = ap (λ (c : Core). c.journal) tick.core;
    ticks = λ m lt. tick_lowers f fits old new sound tick m;
    is_grant = tick.is_grant;
  }

pub script_is_run : ScriptIsRun
script_is_run f fits script all n new run =
    own_script f fits script all (IsSoundCore f) (sound_kept f fits) (tick_sound f fits) (tick_moves f fits) (built_sound f fits) n new run

pub script_is_over : ScriptEnds
script_is_over f fits script all n new run =
    script_ends f fits script all (IsSoundCore f) (sound_kept f fits) (tick_sound f fits) (tick_moves f fits) (built_sound f fits) n new run
