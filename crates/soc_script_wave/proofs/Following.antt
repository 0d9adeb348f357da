-- A port that follows the lines of its master: what its row shows of them.
use Rattle.std.proofs.Common.{◌≡◌, ℕ, zero, suc, ◌+◌, ◌-◌, ◌<◌, ◌≤◌, ◌==◌, ◌&&◌, not, Bool, true, false, if◌then◌else◌, List, [], ◌∷◌, ◌++◌, length, take, drop, refl, sym, ap, ◌∙◌, subst, arith, length-append, inl, inr}
use Rattle.std.specs.Prelude.{◌⊎◌, nat_le, nat_lt, slice_get, Option, Some, None}
use Rattle.wb_signals.specs.Request.{Request}
use Rattle.wb_signals.specs.History.{Pair, requests_of, answers_of}
use Rattle.soc_core.specs.Fabric.{Fabric}
use Rattle.wb_signals.specs.Slave.{Owed}
use Rattle.soc_core.specs.Core.{Phase, Idle, Wants, Holds, Leaves, CorePort, head_of, offered, phase_after}
use Rattle.soc_core.specs.Sound.{StandsIn, IsQueue, is_busy_phase}
use Rattle.wb_signals.specs.declared.port_row.PortRow.{PortRow}
use Rattle.soc_wave.specs.Rows.{last_port}
use Rattle.soc_wave.specs.Requests.{one_if, waiting_count}
use Rattle.soc_wave.specs.Pairs.{Exchange, exchange}
use Rattle.soc_wave.specs.Arbitration.{Course, Off, Waiting, Holding}
use Rattle.soc_script.specs.Script.{ScriptLine}
use Rattle.soc_script.specs.Cycles.{ScriptCycle, ops_of_lines}
use Rattle.soc_script_wave.specs.Sets.{set_at}
use Rattle.soc_script_wave.specs.ScriptWave.{begun, lines_at, may_begin, later_loads, loads_if, first_load, next_of, next_offer, request_on}
use Rattle.soc_script_wave.specs.Runner.{is_nil, is_released}
use Rattle.soc_wave.specs.Shown.{signals}
use Rattle.soc_wave.proofs.Lists.{last_port-snoc}
use Rattle.soc_wave.proofs.Rises.{rises-row}
use Rattle.soc_wave.proofs.Owing.{Shows, count_owed}
use Rattle.soc_wave.proofs.PortRows.{true_false, false_true}
use Rattle.soc_wave.proofs.Exchanged.{TellsAs, told}
use Rattle.soc_wave.proofs.Arbitrating.{Stands}
use Rattle.soc_script_wave.proofs.ScriptCycles.{all_lines, lines_from, lines-next, EndsAs, AreCycles, AllCome, come-later, ops-append, loads_done, loads_this, loads_none, loads_most, get-append, get-front}

-- ---- the rises of a row

begun-same : (ps : List PortRow) (p : PortRow) → (last_port ps).cyc ≡ true → begun (ps ++ p ∷ []) ≡ begun ps
begun-same ps p stood = rises-row ps p ∙ ap (λ b. one_if (not b && p.cyc) (begun ps)) stood

down_by : (b : Bool) (n : ℕ) → one_if (not b && false) n ≡ n
down_by true n = refl
down_by false n = refl

begun-down : (ps : List PortRow) (p : PortRow) → p.cyc ≡ false → begun (ps ++ p ∷ []) ≡ begun ps
begun-down ps p down = rises-row ps p ∙ ap (λ b. one_if (not (last_port ps).cyc && b) (begun ps)) down ∙ down_by (last_port ps).cyc (begun ps)

begun-up : (ps : List PortRow) (p : PortRow) → (last_port ps).cyc ≡ false → p.cyc ≡ true → begun (ps ++ p ∷ []) ≡ suc (begun ps)
begun-up ps p was now = rises-row ps p ∙ ap (λ b. one_if (not b && p.cyc) (begun ps)) was ∙ ap (λ b. one_if b (begun ps)) now

-- ---- a port between two ticks

-- no cycle: the next one's lines are to come
pub record WaitsForLine (cycles : List ScriptCycle) (ps : List PortRow) (todo : List ScriptLine) : Type 0 where
  pub todo_is : todo ≡ lines_from cycles (begun ps)
  pub down : (last_port ps).cyc ≡ false
  pub most : begun ps ≤ length cycles

-- a cycle that has raised CYC in a row before, the n-th
pub record WaitsForGrant (f : Fabric) (t : ℕ) (cycles : List ScriptCycle) (ps : List PortRow) (todo : List ScriptLine) (set n : ℕ) : Type 0 where
  pub nth : begun ps ≡ suc n
  pub below : n < length cycles
  pub todo_is : todo ≡ lines_from cycles n
  pub up : (last_port ps).cyc ≡ true
  pub came : may_begin t (lines_at cycles n) ≡ true
  pub named : set ≡ set_at f cycles n

-- a cycle whose CYC rises in the next row
pub record RisesNext (f : Fabric) (t : ℕ) (cycles : List ScriptCycle) (ps : List PortRow) (todo : List ScriptLine) (set : ℕ) : Type 0 where
  pub below : begun ps < length cycles
  pub todo_is : todo ≡ lines_from cycles (begun ps)
  pub down : (last_port ps).cyc ≡ false
  pub came : may_begin t (lines_at cycles (begun ps)) ≡ true
  pub named : set ≡ set_at f cycles (begun ps)

-- a cycle that holds its set: some lines are done, h is the one that is loaded or is to be loaded next
pub record RunsLine (f : Fabric) (t : ℕ) (cycles : List ScriptCycle) (ps : List PortRow) (p : CorePort) (todo : List ScriptLine) (set n : ℕ) (done : List ScriptLine) (h : ScriptLine) (rest : List ScriptLine) : Type 0 where
  pub nth : begun ps ≡ suc n
  pub below : n < length cycles
  pub up : (last_port ps).cyc ≡ true
  pub named : set ≡ set_at f cycles n
  pub lines : lines_at cycles n ≡ done ++ h ∷ rest
  pub todo_is : todo ≡ h ∷ rest ++ lines_from cycles (suc n)
  pub opened : requests_of p.opened ≡ ops_of_lines done
  pub come : AllCome t done
  pub first : done ≡ [] → h.clock ≤ t
  pub loaded : (p.loaded ≡ []) ⊎ ((p.loaded ≡ h.ops) × (h.clock ≤ t))

abbrev pub Runs : Fabric → ℕ → List ScriptCycle → List PortRow → CorePort → List ScriptLine → ℕ → Type 0
Runs f t cycles ps p todo set = (n : ℕ) × (done : List ScriptLine) × (h : ScriptLine) × (rest : List ScriptLine) × RunsLine f t cycles ps p todo set n done h rest

-- a cycle that was released since the last tick
pub record HasEnded (cycles : List ScriptCycle) (ps : List PortRow) (todo : List ScriptLine) (n : ℕ) : Type 0 where
  pub nth : begun ps ≡ suc n
  pub below : n < length cycles
  pub up : (last_port ps).cyc ≡ true
  pub todo_is : todo ≡ lines_from cycles (suc n)
  pub answers : length (exchange ps).answers ≡ length (ops_of_lines (lines_at cycles n))
  pub requests : length (exchange ps).requests ≡ length (ops_of_lines (lines_at cycles n))

-- after a tick, t rows being there
abbrev pub FollowsAs : Fabric → ℕ → List ScriptCycle → List PortRow → CorePort → List ScriptLine → Phase → Type 0
FollowsAs f t cycles ps p todo Idle = WaitsForLine cycles ps todo
FollowsAs f t cycles ps p todo (Wants set) = (n : ℕ) × WaitsForGrant f t cycles ps todo set n
FollowsAs f t cycles ps p todo (Holds set) = Runs f t cycles ps p todo set
FollowsAs f t cycles ps p todo Leaves = ⊥

-- the line is loaded and not answered, or its clock hasn't come
abbrev pub IsAtWork : ℕ → CorePort → ScriptLine → Type 0
IsAtWork t p h = ((p.loaded ≡ []) × (nat_le h.clock t ≡ false)) ⊎ ((p.loaded ≡ h.ops) × (h.clock ≤ t) × (length p.got < length p.loaded))

-- before the tick of clock t, with all done that its master does before it
abbrev pub ReadyAs : Fabric → ℕ → List ScriptCycle → List PortRow → CorePort → List ScriptLine → Phase → Type 0
ReadyAs f t cycles ps p todo Idle = WaitsForLine cycles ps todo × (may_begin t (lines_at cycles (begun ps)) ≡ false)
ReadyAs f t cycles ps p todo (Wants set) = RisesNext f t cycles ps todo set ⊎ ((n : ℕ) × WaitsForGrant f t cycles ps todo set n)
ReadyAs f t cycles ps p todo (Holds set) = (r : Runs f t cycles ps p todo set) × IsAtWork t p r.2
ReadyAs f t cycles ps p todo Leaves = (n : ℕ) × HasEnded cycles ps todo n

-- ---- CYC

pub rises_ready : (f : Fabric) (t : ℕ) (cycles : List ScriptCycle) (ps : List PortRow) (p : CorePort) (todo : List ScriptLine) (phase : Phase) (b : Bool) → ReadyAs f t cycles ps p todo phase
    → (last_port ps).cyc ≡ false → is_busy_phase (phase_after b phase) ≡ may_begin t (lines_at cycles (begun ps))
rises_ready f t cycles ps p todo Idle b ready down = sym ready.1
rises_ready f t cycles ps p todo (Wants set) true (inl r) down = sym r.came
rises_ready f t cycles ps p todo (Wants set) false (inl r) down = sym r.came
rises_ready f t cycles ps p todo (Wants set) b (inr w) down = absurd (true_false (sym w.1.up ∙ down))
rises_ready f t cycles ps p todo (Holds set) b ready down = absurd (true_false (sym ready.0.4.up ∙ down))
rises_ready f t cycles ps p todo Leaves b ready down = absurd (true_false (sym ready.1.up ∙ down))

-- each line has an operation
abbrev pub AllSome : List ScriptLine → Type 0
AllSome [] = Unit {0}
AllSome (l ∷ lines) = (1 ≤ length l.ops) × AllSome lines

pub some-append : (xs ys : List ScriptLine) → AllSome (xs ++ ys) → AllSome xs × AllSome ys
some-append [] ys some = (tt, some)
some-append (l ∷ xs) ys some = let rest = some-append xs ys some.1 in ((some.0, rest.0), rest.1)

differ : (a b : ℕ) → a < b → (a == b) ≡ false
differ a b lt = grind (arith, lt)

not_all : (a b : ℕ) → a < b → true ≡ not (a == b)
not_all a b lt = ap (λ c. not c) (sym (differ a b lt))

same_test : (a b : ℕ) → a ≡ b → (a == b) ≡ true
same_test a b same = grind (arith, same)

all_of : (a b : ℕ) → a ≡ b → false ≡ not (a == b)
all_of a b same = ap (λ c. not c) (sym (same_test a b same))

length-answers : (pairs : List Pair) → length (answers_of pairs) ≡ length (requests_of pairs)
length-answers [] = refl
length-answers (p ∷ pairs) = ap (λ (n : ℕ). suc n) (length-answers pairs)

some_ops : (lines : List ScriptLine) (t : ℕ) → may_begin t lines ≡ true → AllSome lines → 1 ≤ length (ops_of_lines lines)
some_ops [] t came some = absurd (false_true came)
some_ops (l ∷ lines) t came some = omega (arith, some.0, length-append l.ops (ops_of_lines lines))

fewer_by : (t : ℕ) (p : CorePort) (h : ScriptLine) → IsAtWork t p h → (f : Fabric) → IsQueue f p → (answers d all : ℕ) → 1 ≤ length h.ops → answers ≡ d + length p.got → d + length h.ops ≤ all → answers < all
fewer_by t p h (inl idle) f queue answers d all some is le =
    let none : length p.loaded ≡ 0 = ap (λ l. length l) idle.0 in
    omega (arith, none, queue.sent, queue.counted, some, is, le)
fewer_by t p h (inr busy) f queue answers d all some is le =
    let same : length p.loaded ≡ length h.ops = ap (λ l. length l) busy.0 in
    omega (arith, same, busy.2, is, le)

-- the answers that a cycle at work has got are fewer than its operations
at_work_fewer : (t : ℕ) (p : CorePort) (done : List ScriptLine) (h : ScriptLine) (rest : List ScriptLine) (f : Fabric) → IsQueue f p → requests_of p.opened ≡ ops_of_lines done → IsAtWork t p h → 1 ≤ length h.ops
    → length (answers_of p.opened ++ p.got) < length (ops_of_lines (done ++ h ∷ rest))
at_work_fewer t p done h rest f queue opened work some =
    let d : length (answers_of p.opened) ≡ length (ops_of_lines done) = length-answers p.opened ∙ ap (λ l. length l) opened in
    let all : length (ops_of_lines (done ++ h ∷ rest)) ≡ length (ops_of_lines done) + length (ops_of_lines (h ∷ rest)) = ap (λ l. length l) (ops-append done (h ∷ rest)) ∙ length-append (ops_of_lines done) (ops_of_lines (h ∷ rest)) in
    let mine = length-append h.ops (ops_of_lines rest) in
    let got = length-append (answers_of p.opened) p.got in
    fewer_by t p h work f queue (length (answers_of p.opened ++ p.got)) (length (ops_of_lines done)) (length (ops_of_lines (done ++ h ∷ rest))) some (omega (arith, got, d)) (omega (arith, all, mine))

less_one : (n k : ℕ) → k ≡ suc n → k - 1 ≡ n
less_one n k is = omega (arith, is)

wants_busy : (b : Bool) (set : ℕ) → is_busy_phase (phase_after b (Wants set)) ≡ true
wants_busy true set = refl
wants_busy false set = refl

told_none : (f : Fabric) (p : CorePort) → p.opened ≡ [] → p.loaded ≡ [] → IsQueue f p → length (answers_of p.opened ++ p.got) ≡ 0
told_none f p opened loaded queue =
    let none : length p.loaded ≡ 0 = ap (λ l. length l) loaded in
    let a : length (answers_of p.opened) ≡ 0 = ap (λ l. length (answers_of l)) opened in
    omega (arith, none, a, queue.sent, queue.counted, length-append (answers_of p.opened) p.got)

pub falls_ready : (f : Fabric) (t : ℕ) (cycles : List ScriptCycle) (ps : List PortRow) (p : CorePort) (todo : List ScriptLine) (phase : Phase) (b : Bool) → ReadyAs f t cycles ps p todo phase
    → TellsAs phase ps p → StandsIn f phase p → IsQueue f p → ((n : ℕ) → AllSome (lines_at cycles n))
    → (last_port ps).cyc ≡ true → is_busy_phase (phase_after b phase) ≡ not (length (exchange ps).answers == length (ops_of_lines (lines_at cycles (begun ps - 1))))
falls_ready f t cycles ps p todo Idle b ready tells stands queue some up = absurd (true_false (sym up ∙ ready.0.down))
falls_ready f t cycles ps p todo (Wants set) b (inl r) tells stands queue some up = absurd (true_false (sym up ∙ r.down))
falls_ready f t cycles ps p todo (Wants set) b (inr w) tells stands queue some up =
    let n : ℕ = w.0 in
    let none : length (exchange ps).answers ≡ 0 = ap (λ (x : Exchange). length x.answers) tells ∙ told_none f p stands.0 stands.1 queue in
    let all : 1 ≤ length (ops_of_lines (lines_at cycles (begun ps - 1))) = subst (λ (k : ℕ). 1 ≤ length (ops_of_lines (lines_at cycles k))) (sym (less_one n (begun ps) w.1.nth)) (some_ops (lines_at cycles n) t w.1.came (some n)) in
    wants_busy b set ∙ not_all (length (exchange ps).answers) (length (ops_of_lines (lines_at cycles (begun ps - 1)))) (omega (arith, none, all))
falls_ready f t cycles ps p todo (Holds set) b ready tells stands queue some up =
    let r = ready.0 in
    let lines : lines_at cycles (begun ps - 1) ≡ r.1 ++ r.2 ∷ r.3 = ap (λ (k : ℕ). lines_at cycles k) (less_one r.0 (begun ps) r.4.nth) ∙ r.4.lines in
    let each = some-append r.1 (r.2 ∷ r.3) (subst AllSome r.4.lines (some r.0)) in
    let fewer = at_work_fewer t p r.1 r.2 r.3 f queue r.4.opened ready.1 each.1.0 in
    let answers : length (exchange ps).answers ≡ length (answers_of p.opened ++ p.got) = ap (λ (x : Exchange). length x.answers) tells in
    let ops : length (ops_of_lines (lines_at cycles (begun ps - 1))) ≡ length (ops_of_lines (r.1 ++ r.2 ∷ r.3)) = ap (λ l. length (ops_of_lines l)) lines in
    not_all (length (exchange ps).answers) (length (ops_of_lines (lines_at cycles (begun ps - 1)))) (omega (arith, fewer, answers, ops))
falls_ready f t cycles ps p todo Leaves b ready tells stands queue some up =
    let e = ready.1 in
    let lines : lines_at cycles (begun ps - 1) ≡ lines_at cycles ready.0 = ap (λ (k : ℕ). lines_at cycles k) (less_one ready.0 (begun ps) e.nth) in
    all_of (length (exchange ps).answers) (length (ops_of_lines (lines_at cycles (begun ps - 1)))) (e.answers ∙ sym (ap (λ l. length (ops_of_lines l)) lines))

-- ---- STB

pub request_shown : (f : Fabric) (cyc : Bool) (os : List Owed) (op : Option Request) → request_on (signals f cyc os op) ≡ op
request_shown f cyc os None = refl
request_shown f cyc os (Some r) = refl

lt_zero : (k : ℕ) → nat_lt k 0 ≡ false
lt_zero k = grind arith

lt_no : (a b : ℕ) → b ≤ a → nat_lt a b ≡ false
lt_no a b le = grind (arith, le)

lt_yes : (a b : ℕ) → a < b → nat_lt a b ≡ true
lt_yes a b lt = grind (arith, lt)

next_none : (a b : Bool) (ops : List Request) (k : ℕ) → a ≡ false → next_of (a && b) ops k ≡ None
next_none true b ops k is = absurd (true_false is)
next_none false b ops k is = refl

drop_nil : (n : ℕ) → ◌≡◌ {A = List Request} (drop n []) []
drop_nil zero = refl
drop_nil (suc n) = refl

abbrev head_if : Bool → Option Request → Option Request
head_if b next = if b then next else None

head_none : (b : Bool) (n : ℕ) (loaded : List Request) → loaded ≡ [] → head_if b (head_of (drop n loaded)) ≡ None
head_none true n loaded none = ap (λ l. head_of (drop n l)) none ∙ ap head_of (drop_nil n)
head_none false n loaded none = refl

first_most : (course : Course) (t answers : ℕ) (lines : List ScriptLine) → first_load course t answers lines ≤ length (ops_of_lines lines)
first_most Off t answers lines = omega arith
first_most (Waiting set) t answers lines = omega arith
first_most (Holding set) t answers [] = omega arith
first_most (Holding set) t answers (l ∷ lines) = omega (arith, loads_most t answers (length l.ops) lines, length-append l.ops (ops_of_lines lines))

-- a port that waits is next_offer nothing
offered_off : (f : Fabric) (t : ℕ) (lines : List ScriptLine) (ps : List PortRow) → None ≡ next_offer f t lines Off ps
offered_off f t lines ps = sym (next_none (nat_lt (length (exchange ps).requests) 0) (nat_lt (waiting_count ps) f.depth) (ops_of_lines lines) (length (exchange ps).requests) (lt_zero (length (exchange ps).requests)))

offered_waiting : (f : Fabric) (t set : ℕ) (lines : List ScriptLine) (ps : List PortRow) → None ≡ next_offer f t lines (Waiting set) ps
offered_waiting f t set lines ps = sym (next_none (nat_lt (length (exchange ps).requests) 0) (nat_lt (waiting_count ps) f.depth) (ops_of_lines lines) (length (exchange ps).requests) (lt_zero (length (exchange ps).requests)))

offered_idle : (f : Fabric) (t set : ℕ) (lines : List ScriptLine) (ps : List PortRow) (c : Course) → (c ≡ Off) ⊎ (c ≡ Waiting set) → None ≡ next_offer f t lines c ps
offered_idle f t set lines ps c (inl off) = offered_off f t lines ps ∙ ap (λ x. next_offer f t lines x ps) (sym off)
offered_idle f t set lines ps c (inr waits) = offered_waiting f t set lines ps ∙ ap (λ x. next_offer f t lines x ps) (sym waits)

-- nor is one whose cycle is through
offered_through : (f : Fabric) (t : ℕ) (lines : List ScriptLine) (ps : List PortRow) (c : Course) → length (exchange ps).requests ≡ length (ops_of_lines lines) → None ≡ next_offer f t lines c ps
offered_through f t lines ps c all =
    let k : ℕ = length (exchange ps).requests in
    let most = first_most c t (length (exchange ps).answers) lines in
    sym (next_none (nat_lt k (first_load c t (length (exchange ps).answers) lines)) (nat_lt (waiting_count ps) f.depth) (ops_of_lines lines) k
    (lt_no k (first_load c t (length (exchange ps).answers) lines) (omega (arith, most, all))))

le_yes : (a b : ℕ) → a ≤ b → nat_le a b ≡ true
le_yes a b h = grind (arith, h)

loads_first : (a b : Bool) (more : ℕ) → a ≡ true → b ≡ true → loads_if (a && b) 0 more ≡ more
loads_first true true more x y = refl
loads_first true false more x y = absurd (false_true y)
loads_first false b more x y = absurd (false_true x)

first_line : (t answers : ℕ) (l : ScriptLine) (lines : List ScriptLine) → l.clock ≤ t → later_loads t answers 0 (l ∷ lines) ≡ later_loads t answers (length l.ops) lines
first_line t answers l lines come =
    let e : 0 + length l.ops ≡ length l.ops = omega arith in
    loads_first (nat_le l.clock t) (nat_le 0 answers) (later_loads t answers (0 + length l.ops) lines) (le_yes l.clock t come) (le_yes 0 answers (omega arith)) ∙ ap (λ (n : ℕ). later_loads t answers n lines) e

-- what is loaded of a cycle that holds its set
first_come : (t : ℕ) (done : List ScriptLine) (h : ScriptLine) (rest : List ScriptLine) → AllCome t done → (done ≡ [] → h.clock ≤ t) → (answers set : ℕ)
    → first_load (Holding set) t answers (done ++ h ∷ rest) ≡ later_loads t answers 0 (done ++ h ∷ rest)
first_come t [] h rest come first answers set = sym (first_line t answers h rest (first refl))
first_come t (d ∷ done) h rest come first answers set = sym (first_line t answers d (done ++ h ∷ rest) come.0)

head_get : (n : ℕ) (ops : List Request) → slice_get ops n ≡ head_of (drop n ops)
head_get zero [] = refl
head_get (suc n) [] = refl
head_get zero (r ∷ ops) = refl
head_get (suc n) (r ∷ ops) = head_get n ops

get_none : (n : ℕ) (ops : List Request) → length ops ≤ n → head_of (drop n ops) ≡ None
get_none zero [] le = refl
get_none (suc n) [] le = refl
get_none zero (r ∷ ops) le = absurd (omega (arith, le))
get_none (suc n) (r ∷ ops) le = get_none n ops (omega (arith, le))

lt_from : (x y : ℕ) → nat_lt x y ≡ true → (s n d : ℕ) → x ≡ d + s → y ≡ d + n → s < n
lt_from x y is s n d xs ys = let lt : x < y = grind (arith, is) in omega (arith, lt, xs, ys)

le_from : (x y : ℕ) → nat_lt x y ≡ false → (s n d : ℕ) → x ≡ d + s → y ≡ d + n → n ≤ s
le_from x y is s n d xs ys = let le : y ≤ x = grind (arith, is) in omega (arith, le, xs, ys)

-- the next operation of a line that is loaded
next_loaded : (a : Bool) (front ops more : List Request) (s : ℕ) → nat_lt (length front + s) (length front + length ops) ≡ a
    → next_of a (front ++ (ops ++ more)) (length front + s) ≡ head_of (drop s ops)
next_loaded true front ops more s is =
    let lt : s < length ops = lt_from (length front + s) (length front + length ops) is s (length ops) (length front) refl refl in
    get-append front (ops ++ more) s ∙ get-front ops more s lt ∙ head_get s ops
next_loaded false front ops more s is =
    let le : length ops ≤ s = le_from (length front + s) (length front + length ops) is s (length ops) (length front) refl refl in
    sym (get_none s ops le)

and_true : (a : Bool) → (a && true) ≡ a
and_true true = refl
and_true false = refl

and_next : (a b : Bool) (ops : List Request) (k : ℕ) (next : Option Request) → next_of a ops k ≡ next → next_of (a && b) ops k ≡ head_if b next
and_next a true ops k next is = ap (λ c. next_of c ops k) (and_true a) ∙ is
and_next true false ops k next is = refl
and_next false false ops k next is = refl

length-take : (n : ℕ) (ops : List Request) → n ≤ length ops → length (take n ops) ≡ n
length-take zero [] le = refl
length-take zero (r ∷ ops) le = refl
length-take (suc n) [] le = absurd (omega (arith, le))
length-take (suc n) (r ∷ ops) le = ap (λ (k : ℕ). suc k) (length-take n ops (omega (arith, le)))

offered_by : (f : Fabric) (t : ℕ) (ps : List PortRow) (p : CorePort) (lines done : List ScriptLine) (h : ScriptLine) (rest : List ScriptLine) (loads k answers : ℕ) → IsQueue f p → IsAtWork t p h
    → answers ≡ length (ops_of_lines done) + length p.got → k ≡ length (ops_of_lines done) + p.sent → waiting_count ps ≡ length p.owed
    → loads ≡ later_loads t answers (0 + length (ops_of_lines done)) (h ∷ rest)
    → offered f p ≡ next_of (nat_lt k loads && nat_lt (waiting_count ps) f.depth) (ops_of_lines (done ++ h ∷ rest)) k
offered_by f t ps p lines done h rest loads k answers queue (inl idle) answers_is k_is waits loads_is =
    let d : ℕ = length (ops_of_lines done) in
    let none : length p.loaded ≡ 0 = ap (λ l. length l) idle.0 in
    let loads_d : loads ≡ 0 + d = loads_is ∙ loads_none t answers (0 + d) h rest idle.1 in
    head_none (nat_lt (length p.owed) f.depth) p.sent p.loaded idle.0
    ∙ sym (next_none (nat_lt k loads) (nat_lt (waiting_count ps) f.depth) (ops_of_lines (done ++ h ∷ rest)) k (lt_no k loads (omega (arith, k_is, loads_d))))
offered_by f t ps p lines done h rest loads k answers queue (inr busy) answers_is k_is waits loads_is =
    let d : ℕ = length (ops_of_lines done) in
    let same : length p.loaded ≡ length h.ops = ap (λ l. length l) busy.0 in
    let loads_d : loads ≡ 0 + d + length h.ops = loads_is ∙ loads_this t answers (0 + d) h rest busy.1 (omega (arith, answers_is)) (omega (arith, answers_is, busy.2, same)) in
    let loads_e : loads ≡ d + length h.ops = omega (arith, loads_d) in
    let ops_are : ops_of_lines (done ++ h ∷ rest) ≡ ops_of_lines done ++ (h.ops ++ ops_of_lines rest) = ops-append done (h ∷ rest) in
    let next : next_of (nat_lt (d + p.sent) (d + length h.ops)) (ops_of_lines done ++ (h.ops ++ ops_of_lines rest)) (d + p.sent) ≡ head_of (drop p.sent h.ops) =
    next_loaded (nat_lt (d + p.sent) (d + length h.ops)) (ops_of_lines done) h.ops (ops_of_lines rest) p.sent refl in
    let whole : next_of (nat_lt k loads) (ops_of_lines (done ++ h ∷ rest)) k ≡ head_of (drop p.sent p.loaded) =
    ap (λ (n : ℕ). next_of (nat_lt n loads) (ops_of_lines (done ++ h ∷ rest)) n) k_is
    ∙ ap (λ (n : ℕ). next_of (nat_lt (d + p.sent) n) (ops_of_lines (done ++ h ∷ rest)) (d + p.sent)) loads_e
    ∙ ap (λ ops. next_of (nat_lt (d + p.sent) (d + length h.ops)) ops (d + p.sent)) ops_are
    ∙ next ∙ ap (λ ops. head_of (drop p.sent ops)) (sym busy.0) in
    let here = and_next (nat_lt k loads) (nat_lt (waiting_count ps) f.depth) (ops_of_lines (done ++ h ∷ rest)) k (head_of (drop p.sent p.loaded)) whole in
    sym (here ∙ ap (λ (n : ℕ). head_if (nat_lt n f.depth) (head_of (drop p.sent p.loaded))) waits)

-- A cycle at work is next_offer what its port drives.
offered_at_work : (f : Fabric) (t : ℕ) (ps : List PortRow) (p : CorePort) (set : ℕ) (done : List ScriptLine) (h : ScriptLine) (rest : List ScriptLine) → IsQueue f p → Shows f ps p.owed → exchange ps ≡ told p
    → requests_of p.opened ≡ ops_of_lines done → AllCome t done → (done ≡ [] → h.clock ≤ t) → IsAtWork t p h
    → offered f p ≡ next_offer f t (done ++ h ∷ rest) (Holding set) ps
offered_at_work f t ps p set done h rest queue shows tells opened come first work =
    let d : ℕ = length (ops_of_lines done) in
    let answers : ℕ = length (exchange ps).answers in
    let k : ℕ = length (exchange ps).requests in
    let open_n : length (requests_of p.opened) ≡ d = ap (λ l. length l) opened in
    let answers_is : answers ≡ d + length p.got =
    let e : answers ≡ length (answers_of p.opened ++ p.got) = ap (λ (x : Exchange). length x.answers) tells in
    omega (arith, e, length-append (answers_of p.opened) p.got, length-answers p.opened, open_n) in
    let k_is : k ≡ d + p.sent =
    let e : k ≡ length (requests_of p.opened ++ take p.sent p.loaded) = ap (λ (x : Exchange). length x.requests) tells in
    omega (arith, e, length-append (requests_of p.opened) (take p.sent p.loaded), length-take p.sent p.loaded queue.sent, open_n) in
    let waits : waiting_count ps ≡ length p.owed = count_owed f ps p.owed shows in
    let loads : first_load (Holding set) t answers (done ++ h ∷ rest) ≡ later_loads t answers (0 + d) (h ∷ rest) =
    first_come t done h rest come first answers set ∙ loads_done t answers 0 done (h ∷ rest) come (omega (arith, answers_is)) in
    offered_by f t ps p (done ++ h ∷ rest) done h rest (first_load (Holding set) t answers (done ++ h ∷ rest)) k answers queue work answers_is k_is waits loads

idle_driven : (f : Fabric) (p : CorePort) → p.loaded ≡ [] → offered f p ≡ None
idle_driven f p none = head_none (nat_lt (length p.owed) f.depth) p.sent p.loaded none

pub offers_ready : (f : Fabric) (t : ℕ) (cycles : List ScriptCycle) (ps : List PortRow) (p : CorePort) (todo : List ScriptLine) (phase : Phase) (course : Course) → ReadyAs f t cycles ps p todo phase
    → TellsAs phase ps p → StandsIn f phase p → IsQueue f p → Shows f ps p.owed → Stands phase course
    → offered f p ≡ next_offer f t (lines_at cycles (begun ps - 1)) course ps
offers_ready f t cycles ps p todo Idle course ready tells stands queue shows stand =
    idle_driven f p stands.1 ∙ offered_idle f t 0 (lines_at cycles (begun ps - 1)) ps course (inl stand)
offers_ready f t cycles ps p todo (Wants set) course ready tells stands queue shows stand =
    idle_driven f p stands.1 ∙ offered_idle f t set (lines_at cycles (begun ps - 1)) ps course stand
offers_ready f t cycles ps p todo (Holds set) course ready tells stands queue shows stand =
    let r = ready.0 in
    let lines : lines_at cycles (begun ps - 1) ≡ r.1 ++ r.2 ∷ r.3 = ap (λ (k : ℕ). lines_at cycles k) (less_one r.0 (begun ps) r.4.nth) ∙ r.4.lines in
    offered_at_work f t ps p set r.1 r.2 r.3 queue shows tells r.4.opened r.4.come r.4.first ready.1
    ∙ ap (λ ls. next_offer f t ls (Holding set) ps) (sym lines)
    ∙ ap (λ c. next_offer f t (lines_at cycles (begun ps - 1)) c ps) (sym stand)
offers_ready f t cycles ps p todo Leaves course ready tells stands queue shows stand =
    let e = ready.1 in
    let lines : lines_at cycles (begun ps - 1) ≡ lines_at cycles ready.0 = ap (λ (k : ℕ). lines_at cycles k) (less_one ready.0 (begun ps) e.nth) in
    idle_driven f p stands.1 ∙ offered_through f t (lines_at cycles (begun ps - 1)) ps course (e.requests ∙ ap (λ ls. length (ops_of_lines ls)) (sym lines))

-- ---- the next clock

yes_le : (a b : ℕ) → nat_le a b ≡ true → a ≤ b
yes_le a b h = grind (arith, h)

may_later : (t : ℕ) (lines : List ScriptLine) → may_begin t lines ≡ true → may_begin (suc t) lines ≡ true
may_later t [] came = came
may_later t (l ∷ lines) came = let le : l.clock ≤ t = yes_le l.clock t came in le_yes l.clock (suc t) (omega (arith, le))

first_at : (t : ℕ) (lines : List ScriptLine) → may_begin t lines ≡ true → (h : ScriptLine) × (rest : List ScriptLine) × (lines ≡ h ∷ rest) × (h.clock ≤ t)
first_at t [] came = absurd (false_true came)
first_at t (l ∷ lines) came = (l, lines, refl, yes_le l.clock t came)

module _ (f : Fabric) (t : ℕ) (cycles : List ScriptCycle) (ps : List PortRow) (row : PortRow) (p q : CorePort) (todo : List ScriptLine)
    (same_opened : q.opened ≡ p.opened) (same_loaded : q.loaded ≡ p.loaded) where
  up_after : row.cyc ≡ true → (last_port (ps ++ row ∷ [])).cyc ≡ true
  up_after is = ap (λ (r : PortRow). r.cyc) (last_port-snoc ps row) ∙ is

  down_after : row.cyc ≡ false → (last_port (ps ++ row ∷ [])).cyc ≡ false
  down_after is = ap (λ (r : PortRow). r.cyc) (last_port-snoc ps row) ∙ is

  -- a cycle waits on
  waits_on : (set n : ℕ) → WaitsForGrant f t cycles ps todo set n → row.cyc ≡ true → WaitsForGrant f (suc t) cycles (ps ++ row ∷ []) todo set n
  waits_on set n w cyc = record {
    nth = begun-same ps row w.up ∙ w.nth;
    below = w.below;
    todo_is = w.todo_is;
    up = up_after cyc;
    came = may_later t (lines_at cycles n) w.came;
    named = w.named;
  }

  -- one begins to wait
  waits_first : (set : ℕ) → RisesNext f t cycles ps todo set → row.cyc ≡ true → WaitsForGrant f (suc t) cycles (ps ++ row ∷ []) todo set (begun ps)
  waits_first set r cyc = record {
    nth = begun-up ps row r.down cyc;
    below = r.below;
    todo_is = r.todo_is;
    up = up_after cyc;
    came = may_later t (lines_at cycles (begun ps)) r.came;
    named = r.named;
  }

  -- one that waits is granted
  runs_first : (set n : ℕ) → WaitsForGrant f (suc t) cycles (ps ++ row ∷ []) todo set n → p.opened ≡ [] → p.loaded ≡ [] → Runs f (suc t) cycles (ps ++ row ∷ []) q todo set
  runs_first set n w opened loaded =
      let first = first_at (suc t) (lines_at cycles n) w.came in (
        n,
        [],
        first.0,
        first.1,
        record {
          nth = w.nth;
          below = w.below;
          up = w.up;
          named = w.named;
          lines = first.2;
          todo_is = w.todo_is ∙ lines-next cycles n ∙ ap (λ ls. ls ++ lines_from cycles (suc n)) first.2;
          opened = ap requests_of (same_opened ∙ opened);
          come = tt;
          first = λ none. first.3;
          loaded = inl (same_loaded ∙ loaded);
        },
      )

  loaded_on : (h : ScriptLine) → (p.loaded ≡ []) ⊎ ((p.loaded ≡ h.ops) × (h.clock ≤ t)) → (q.loaded ≡ []) ⊎ ((q.loaded ≡ h.ops) × (h.clock ≤ suc t))
  loaded_on h (inl none) = inl (same_loaded ∙ none)
  loaded_on h (inr ops) = inr (same_loaded ∙ ops.0, omega (arith, ops.1))

  runs_on : (set n : ℕ) (done : List ScriptLine) (h : ScriptLine) (rest : List ScriptLine) → RunsLine f t cycles ps p todo set n done h rest → row.cyc ≡ true → RunsLine f (suc t) cycles (ps ++ row ∷ []) q todo set n done h rest
  runs_on set n done h rest r cyc = record {
    nth = begun-same ps row r.up ∙ r.nth;
    below = r.below;
    up = up_after cyc;
    named = r.named;
    lines = r.lines;
    todo_is = r.todo_is;
    opened = ap requests_of same_opened ∙ r.opened;
    come = come-later t done r.come;
    first = λ none. let le = r.first none in omega (arith, le);
    loaded = loaded_on h r.loaded;
  }

  idle_on : WaitsForLine cycles ps todo → row.cyc ≡ false → WaitsForLine cycles (ps ++ row ∷ []) todo
  idle_on w cyc = record {
    todo_is = w.todo_is ∙ ap (λ (k : ℕ). lines_from cycles k) (sym (begun-down ps row cyc));
    down = down_after cyc;
    most = subst (λ (k : ℕ). k ≤ length cycles) (sym (begun-down ps row cyc)) w.most;
  }

  idle_again : (n : ℕ) → HasEnded cycles ps todo n → row.cyc ≡ false → WaitsForLine cycles (ps ++ row ∷ []) todo
  idle_again n e cyc = record {
    todo_is = e.todo_is ∙ ap (λ (k : ℕ). lines_from cycles k) (sym (begun-down ps row cyc ∙ e.nth));
    down = down_after cyc;
    most = subst (λ (k : ℕ). k ≤ length cycles) (sym (begun-down ps row cyc ∙ e.nth)) (omega (arith, e.below));
  }

  -- After its tick a port follows its lines again.
  pub follows_tick : (phase : Phase) (b : Bool) → ReadyAs f t cycles ps p todo phase → StandsIn f phase p → row.cyc ≡ is_busy_phase (phase_after b phase)
      → FollowsAs f (suc t) cycles (ps ++ row ∷ []) q todo (phase_after b phase)
  follows_tick Idle b ready stands cyc = idle_on ready.0 cyc
  follows_tick (Wants set) true (inl r) stands cyc = runs_first set (begun ps) (waits_first set r cyc) stands.0 stands.1
  follows_tick (Wants set) false (inl r) stands cyc = (begun ps, waits_first set r cyc)
  follows_tick (Wants set) true (inr w) stands cyc = runs_first set w.0 (waits_on set w.0 w.1 cyc) stands.0 stands.1
  follows_tick (Wants set) false (inr w) stands cyc = (w.0, waits_on set w.0 w.1 cyc)
  follows_tick (Holds set) b ready stands cyc = let r = ready.0 in (r.0, r.1, r.2, r.3, runs_on set r.0 r.1 r.2 r.3 r.4 cyc)
  follows_tick Leaves b ready stands cyc = idle_again ready.0 ready.1 cyc

-- ---- the end of a script

some_cycle : (cut : Bool) (lines more : List ScriptLine) → EndsAs cut lines → is_nil (lines ++ more) ≡ false
some_cycle cut [] more ends = absurd ends
some_cycle cut (l ∷ lines) more ends = refl

pub some_from : (cycles : List ScriptCycle) (n : ℕ) → AreCycles cycles → n < length cycles → is_nil (lines_from cycles n) ≡ false
some_from [] n are lt = absurd (omega (arith, lt))
some_from (c ∷ cycles) zero are lt = some_cycle c.cut c.lines (all_lines cycles) are.0
some_from (c ∷ cycles) (suc n) are lt = some_from cycles n are.2 (omega (arith, lt))

none_from : (cycles : List ScriptCycle) (n : ℕ) → length cycles ≤ n → lines_from cycles n ≡ []
none_from [] n le = refl
none_from (c ∷ cycles) zero le = absurd (omega (arith, le))
none_from (c ∷ cycles) (suc n) le = none_from cycles n (omega (arith, le))

none_left_by : (cycles : List ScriptCycle) (n : ℕ) → AreCycles cycles → n ≤ length cycles → (b : Bool) → nat_lt n (length cycles) ≡ b → is_nil (lines_from cycles n) ≡ (n == length cycles)
none_left_by cycles n are le true below = let lt : n < length cycles = grind (arith, below) in some_from cycles n are lt ∙ sym (differ n (length cycles) lt)
none_left_by cycles n are le false above =
    let ge : length cycles ≤ n = grind (arith, above) in
    ap is_nil (none_from cycles n ge) ∙ sym (same_test n (length cycles) (omega (arith, le, ge)))

-- no line is to come exactly where all cycles have begun
none_left : (cycles : List ScriptCycle) (n : ℕ) → AreCycles cycles → n ≤ length cycles → is_nil (lines_from cycles n) ≡ (n == length cycles)
none_left cycles n are le = none_left_by cycles n are le (nat_lt n (length cycles)) refl

and_off : (b : Bool) → (b && false) ≡ false
and_off true = refl
and_off false = refl

over_idle : (cycles : List ScriptCycle) (todo : List ScriptLine) (cyc : Bool) (n k : ℕ) → AreCycles cycles → n ≤ length cycles → todo ≡ lines_from cycles n → k ≡ n → cyc ≡ false
    → (is_nil todo && true) ≡ (not cyc && (k == length cycles))
over_idle cycles todo cyc n k are le is same down =
    ap (λ ls. is_nil ls && true) is ∙ and_true (is_nil (lines_from cycles n)) ∙ none_left cycles n are le
    ∙ ap (λ (j : ℕ). j == length cycles) (sym same) ∙ ap (λ b. not b && (k == length cycles)) (sym down)

over_busy : (todo : List ScriptLine) (cyc : Bool) (b : Bool) → cyc ≡ true → (is_nil todo && false) ≡ (not cyc && b)
over_busy todo cyc b up = and_off (is_nil todo) ∙ ap (λ c. not c && b) (sym up)

-- All is over before the tick exactly where its row shows all done.
pub over_ready : (f : Fabric) (t : ℕ) (cycles : List ScriptCycle) (ps : List PortRow) (row : PortRow) (p : CorePort) (todo : List ScriptLine) (phase : Phase) (b : Bool) → AreCycles cycles
    → ReadyAs f t cycles ps p todo phase → row.cyc ≡ is_busy_phase (phase_after b phase) → (is_nil todo && is_released phase) ≡ (not row.cyc && (begun (ps ++ row ∷ []) == length cycles))
over_ready f t cycles ps row p todo Idle b are ready cyc = over_idle cycles todo row.cyc (begun ps) (begun (ps ++ row ∷ [])) are ready.0.most ready.0.todo_is (begun-down ps row cyc) cyc
over_ready f t cycles ps row p todo (Wants set) true are ready cyc = over_busy todo row.cyc (begun (ps ++ row ∷ []) == length cycles) cyc
over_ready f t cycles ps row p todo (Wants set) false are ready cyc = over_busy todo row.cyc (begun (ps ++ row ∷ []) == length cycles) cyc
over_ready f t cycles ps row p todo (Holds set) b are ready cyc = over_busy todo row.cyc (begun (ps ++ row ∷ []) == length cycles) cyc
over_ready f t cycles ps row p todo Leaves b are ready cyc =
    over_idle cycles todo row.cyc (suc ready.0) (begun (ps ++ row ∷ [])) are (omega (arith, ready.1.below)) ready.1.todo_is (begun-down ps row cyc ∙ ready.1.nth) cyc
