-- Worked scripts against each clause of their waves, the runner computed on them, and rows that a clause refuses.
use Rattle.std.proofs.Common.{◌≡◌, ℕ, suc, ◌-◌, ◌<◌, ◌==◌, not, Bool, true, false, List, [], ◌∷◌, ◌++◌, length, take, Option, Some, None, refl, ap, arith}
use Rattle.wb_signals.specs.Request.{Request}
use Rattle.wb_signals.specs.Bus.{bus}
use Rattle.wb_signals.specs.Wiring.{stepped}
use Rattle.wb_signals.specs.History.{Pair, IsLegal}
use Rattle.wb_signals.specs.declared.answer.Answer.{Answer}
use Rattle.wb_signals.specs.declared.answer.Answer.TheVariants.{Ack, Err}
use Rattle.wb_signals.specs.declared.port_row.PortRow.{PortRow}
use Rattle.wb_signals.specs.Wave.{WaveRowState}
use Rattle.eb_base.specs.Field.{number, octets_of}
use Rattle.soc_core.specs.Fabric.{Fabric}
use Rattle.soc_core.specs.Core.{Core, built_core, granted, granted_from, clocked_core}
use Rattle.soc_wave.specs.Rows.{no_port, port_in, column, last_port}
use Rattle.soc_wave.specs.Arbitration.{Course, Holding, Granting, no_arbitration, arbitration, course_at}
use Rattle.soc_wave.specs.Pairs.{exchange, history, is_some_pairs}
use Rattle.soc_wave.specs.Shown.{row_of}
use Rattle.soc_wave.specs.Legal.{IsLegalWave}
use Rattle.soc_wave.proofs.PortRows.{true_false, false_true}
use Rattle.soc_wave.specs.Tests.{implies, agree, same_request, all_below, each_passes}
use Rattle.soc_wave.specs.WorkedWaves.{two, deep, standing, asks, acked, parallel, parallel_3, parallel_grants, contended, contended_grants, slow, slow_grants}
use Rattle.soc_wave.proofs.Decided.{implied, agreed, requests_same, below_hold, each_clock, wave_whole, wave_fields, wave_answers, wave_depth, wave_stalls, wave_kept, wave_holders}
use Rattle.soc_wave.proofs.DecidedGrants.{wave_granted}
use Rattle.soc_script.specs.Script.{ScriptLine}
use Rattle.soc_script.specs.Cycles.{ScriptCycle, cycles_of, ops_of_lines}
use Rattle.soc_script_wave.specs.Sets.{sets_of, marks_of}
use Rattle.soc_script_wave.specs.ScriptWave.{IsWaveOf, OnEachMaster, RisesInTime, FallsInTime, OffersInTime, EndsWhere, all_done, begun, lines_at, may_begin, next_offer, request_on}
use Rattle.soc_script_wave.specs.Runner.{prepared_from, left_from, todos_from}

-- ---- the clauses as tests

-- of each master in each clock
abbrev MasterTest : Type 0
MasterTest = ℕ → List ScriptCycle → Course → List PortRow → PortRow → Bool

abbrev master_passes : Fabric → List ScriptLine → List Granting → MasterTest → List WaveRowState → WaveRowState → ℕ → Bool
master_passes f script given test before row m =
    test (length before) (cycles_of m script) (course_at (arbitration f (sets_of f script) given before).ports m) (column m before) (port_in m row)

abbrev masters_pass : Fabric → List ScriptLine → List Granting → MasterTest → List WaveRowState → Bool
masters_pass f script given test rows = each_passes (λ before row. all_below (master_passes f script given test before row) f.ports) [] rows

each_master : (f : Fabric) (script : List ScriptLine) (given : List Granting) (Each : ℕ → List ScriptCycle → Course → List PortRow → PortRow → Type 0) (test : MasterTest)
    → ((t : ℕ) (cycles : List ScriptCycle) (course : Course) (before : List PortRow) (p : PortRow) → test t cycles course before p ≡ true → Each t cycles course before p)
    → (rows : List WaveRowState) → masters_pass f script given test rows ≡ true → OnEachMaster f script given Each rows
each_master f script given Each test sound rows h =
    let now = λ (before : List WaveRowState) (row : WaveRowState) (m : ℕ).
    Each (length before) (cycles_of m script) (course_at (arbitration f (sets_of f script) given before).ports m) (column m before) (port_in m row) in
    each_clock (λ before row. (m : ℕ) → m < f.ports → now before row m) (λ before row. all_below (master_passes f script given test before row) f.ports)
    (λ before row passes. below_hold (now before row) (master_passes f script given test before row)
    (λ m. sound (length before) (cycles_of m script) (course_at (arbitration f (sets_of f script) given before).ports m) (column m before) (port_in m row)) f.ports passes)
    [] rows h

abbrev rises_well : MasterTest
rises_well t cycles course before p = implies (not (last_port before).cyc) (agree p.cyc (may_begin t (lines_at cycles (begun before))))

rises_by : (t : ℕ) (cycles : List ScriptCycle) (course : Course) (before : List PortRow) (p : PortRow) → rises_well t cycles course before p ≡ true → RisesInTime t cycles before p
rises_by t cycles course before p h down =
    agreed p.cyc (may_begin t (lines_at cycles (begun before)))
    (implied (not (last_port before).cyc) (agree p.cyc (may_begin t (lines_at cycles (begun before)))) h (ap not down))

abbrev all_answered : List ScriptCycle → List PortRow → Bool
all_answered cycles before = length (exchange before).answers == length (ops_of_lines (lines_at cycles (begun before - 1)))

abbrev falls_well : MasterTest
falls_well t cycles course before p = implies (last_port before).cyc (agree p.cyc (not (all_answered cycles before)))

falls_by : (t : ℕ) (cycles : List ScriptCycle) (course : Course) (before : List PortRow) (p : PortRow) → falls_well t cycles course before p ≡ true → FallsInTime cycles before p
falls_by t cycles course before p h up =
    agreed p.cyc (not (all_answered cycles before)) (implied (last_port before).cyc (agree p.cyc (not (all_answered cycles before))) h up)

abbrev same_offer : Option Request → Option Request → Bool
same_offer None None = true
same_offer None (Some b) = false
same_offer (Some a) None = false
same_offer (Some a) (Some b) = same_request a b

offers_same : (a b : Option Request) → same_offer a b ≡ true → a ≡ b
offers_same None None h = refl
offers_same None (Some b) h = absurd (false_true h)
offers_same (Some a) None h = absurd (false_true h)
offers_same (Some a) (Some b) h = ap (λ (r : Request). Some r) (requests_same a b h)

abbrev offers_well : Fabric → MasterTest
offers_well f t cycles course before p = same_offer (request_on p) (next_offer f t (lines_at cycles (begun before - 1)) course before)

offers_by : (f : Fabric) (t : ℕ) (cycles : List ScriptCycle) (course : Course) (before : List PortRow) (p : PortRow) → offers_well f t cycles course before p ≡ true → OffersInTime f t cycles course before p
offers_by f t cycles course before p h = offers_same (request_on p) (next_offer f t (lines_at cycles (begun before - 1)) course before) h

script_rises : (f : Fabric) (script : List ScriptLine) (given : List Granting) (rows : List WaveRowState) → masters_pass f script given rises_well rows ≡ true
    → OnEachMaster f script given (λ t cycles course before p. RisesInTime t cycles before p) rows
script_rises f script given rows h = each_master f script given (λ t cycles course before p. RisesInTime t cycles before p) rises_well rises_by rows h

script_falls : (f : Fabric) (script : List ScriptLine) (given : List Granting) (rows : List WaveRowState) → masters_pass f script given falls_well rows ≡ true
    → OnEachMaster f script given (λ t cycles course before p. FallsInTime cycles before p) rows
script_falls f script given rows h = each_master f script given (λ t cycles course before p. FallsInTime cycles before p) falls_well falls_by rows h

script_offers : (f : Fabric) (script : List ScriptLine) (given : List Granting) (rows : List WaveRowState) → masters_pass f script given (offers_well f) rows ≡ true
    → OnEachMaster f script given (λ t cycles course before p. OffersInTime f t cycles course before p) rows
script_offers f script given rows h = each_master f script given (λ t cycles course before p. OffersInTime f t cycles course before p) (offers_well f) (offers_by f) rows h

-- ---- three scripts: two masters that write to RAMs of their own, two that meet, and one with a slow RAM before a fast one

abbrev op : Bool → ℕ → ℕ → Request
op write adr dat = record { write = write; adr = adr; dat = dat; sel = 15 }

abbrev pair : Bool → ℕ → ℕ → Answer → Pair
pair write adr dat answer = record { request = op write adr dat; answer = answer }

some_pairs : (p : Pair) (pairs : List Pair) → p ∷ pairs ≡ [] → ⊥
some_pairs p pairs e = true_false (ap is_some_pairs e)

abbrev parallel_script : List ScriptLine
parallel_script = record { master = 0; clock = 0; last = true; ops = op true 0 286331153 ∷ [] } ∷ record { master = 1; clock = 0; last = true; ops = op true 4096 572662306 ∷ [] } ∷ []

parallel_rises : OnEachMaster two parallel_script parallel_grants (λ t cycles course before p. RisesInTime t cycles before p) parallel
unfolding bus
parallel_rises = script_rises two parallel_script parallel_grants parallel refl

parallel_falls : OnEachMaster two parallel_script parallel_grants (λ t cycles course before p. FallsInTime cycles before p) parallel
unfolding bus
parallel_falls = script_falls two parallel_script parallel_grants parallel refl

parallel_offers : OnEachMaster two parallel_script parallel_grants (λ t cycles course before p. OffersInTime two t cycles course before p) parallel
unfolding bus
parallel_offers = script_offers two parallel_script parallel_grants parallel refl

parallel_ends : EndsWhere (all_done two parallel_script) [] parallel
unfolding bus
parallel_ends = (refl, (refl, (refl, refl)))

parallel_history : history 2 (marks_of parallel_script) parallel ≡ record { master = 0; cut = false; pairs = pair true 0 286331153 (Ack 0) ∷ [] } ∷ record { master = 1; cut = false; pairs = pair true 4096 572662306 (Ack 0) ∷ [] } ∷ []
unfolding bus
parallel_history = refl

abbrev contended_script : List ScriptLine
contended_script = record { master = 0; clock = 0; last = false; ops = op true 0 1 ∷ [] } ∷ record { master = 1; clock = 0; last = true; ops = op true 4 2 ∷ op true 36864 3 ∷ [] } ∷ record { master = 0; clock = 6; last = true; ops = op false 4 0 ∷ [] } ∷ []

contended_rises : OnEachMaster two contended_script contended_grants (λ t cycles course before p. RisesInTime t cycles before p) contended
unfolding bus
contended_rises = script_rises two contended_script contended_grants contended refl

contended_falls : OnEachMaster two contended_script contended_grants (λ t cycles course before p. FallsInTime cycles before p) contended
unfolding bus
contended_falls = script_falls two contended_script contended_grants contended refl

contended_offers : OnEachMaster two contended_script contended_grants (λ t cycles course before p. OffersInTime two t cycles course before p) contended
unfolding bus
contended_offers = script_offers two contended_script contended_grants contended refl

contended_ends : EndsWhere (all_done two contended_script) [] contended
unfolding bus
contended_ends = (refl, (refl, (refl, (refl, (refl, (refl, (refl, (refl, (refl, (refl, (refl, (refl, (refl, refl)))))))))))))

contended_history : history 2 (marks_of contended_script) contended ≡ record { master = 0; cut = false; pairs = pair true 0 1 (Ack 0) ∷ pair false 4 0 (Ack 0) ∷ [] } ∷ record { master = 1; cut = false; pairs = pair true 4 2 (Ack 0) ∷ pair true 36864 3 Err ∷ [] } ∷ []
unfolding bus
contended_history = refl

abbrev slow_script : List ScriptLine
slow_script = record { master = 0; clock = 0; last = true; ops = op true 0 1 ∷ op true 4 2 ∷ op true 8 3 ∷ op true 12 4 ∷ op true 16 5 ∷ op false 65536 0 ∷ [] } ∷ []

slow_rises : OnEachMaster deep slow_script slow_grants (λ t cycles course before p. RisesInTime t cycles before p) slow
unfolding bus
slow_rises = script_rises deep slow_script slow_grants slow refl

slow_falls : OnEachMaster deep slow_script slow_grants (λ t cycles course before p. FallsInTime cycles before p) slow
unfolding bus
slow_falls = script_falls deep slow_script slow_grants slow refl

slow_offers : OnEachMaster deep slow_script slow_grants (λ t cycles course before p. OffersInTime deep t cycles course before p) slow
unfolding bus
slow_offers = script_offers deep slow_script slow_grants slow refl

slow_ends : EndsWhere (all_done deep slow_script) [] slow
unfolding bus
slow_ends = (refl, (refl, (refl, (refl, (refl, (refl, (refl, (refl, (refl, (refl, (refl, (refl, (refl, (refl, (refl, (refl, (refl, (refl, (refl, (refl, (refl, refl)))))))))))))))))))))

slow_history : history 1 (marks_of slow_script) slow ≡ record { master = 0; cut = false; pairs = pair true 0 1 (Ack 0) ∷ pair true 4 2 (Ack 0) ∷ pair true 8 3 (Ack 0) ∷ pair true 12 4 (Ack 0) ∷ pair true 16 5 (Ack 0) ∷ pair false 65536 0 (Ack 0) ∷ [] } ∷ []
unfolding bus
slow_history = refl

abbrev shown_rows : Fabric → ℕ → List Granting → List (List ScriptLine) → Core → List WaveRowState
shown_rows f t [] todos core = []
shown_rows f t (g ∷ grants) todos core =
    let ready = prepared_from f t 0 todos core in
    row_of f (granted_from g.ports 0 ready.ports) ∷ shown_rows f (suc t) grants (left_from 0 todos core) (clocked_core f (granted g.ports g.first ready))

parallel_runs : shown_rows two 0 parallel_grants (todos_from parallel_script 0 2) (built_core two) ≡ parallel
unfolding bus stepped number octets_of
parallel_runs = refl

contended_runs : shown_rows two 0 contended_grants (todos_from contended_script 0 2) (built_core two) ≡ contended
unfolding bus stepped number octets_of
contended_runs = refl

slow_runs : shown_rows deep 0 slow_grants (todos_from slow_script 0 1) (built_core deep) ≡ slow
unfolding bus stepped number octets_of
slow_runs = refl

-- ---- the history is legal

parallel_legal : IsLegal two.wiring two.built (history 2 (marks_of parallel_script) parallel)
unfolding bus stepped number octets_of
parallel_legal = (some_pairs _ _, refl, (some_pairs _ _, refl, tt))

contended_legal : IsLegal two.wiring two.built (history 2 (marks_of contended_script) contended)
unfolding bus stepped number octets_of
contended_legal = (some_pairs _ _, refl, (some_pairs _ _, refl, tt))

slow_legal : IsLegal deep.wiring deep.built (history 1 (marks_of slow_script) slow)
unfolding bus stepped number octets_of
slow_legal = (some_pairs _ _, refl, tt)

-- ---- all clauses

parallel_wave : IsLegalWave two (sets_of two parallel_script) parallel_grants parallel
unfolding bus
parallel_wave = record {
  whole = wave_whole two parallel refl;
  fields = wave_fields two parallel refl;
  answers = wave_answers two parallel refl;
  depth = wave_depth two parallel refl;
  stalls = wave_stalls two parallel refl;
  kept = wave_kept two parallel refl;
  holders = wave_holders two parallel refl;
  granted = wave_granted two (sets_of two parallel_script) (no_arbitration two) parallel_grants parallel refl;
}

parallel_is_wave : IsWaveOf two parallel_script parallel_grants parallel
parallel_is_wave = record { legal = parallel_wave; rises = parallel_rises; falls = parallel_falls; offers = parallel_offers; ends = parallel_ends; history = parallel_legal }

contended_wave : IsLegalWave two (sets_of two contended_script) contended_grants contended
unfolding bus
contended_wave = record {
  whole = wave_whole two contended refl;
  fields = wave_fields two contended refl;
  answers = wave_answers two contended refl;
  depth = wave_depth two contended refl;
  stalls = wave_stalls two contended refl;
  kept = wave_kept two contended refl;
  holders = wave_holders two contended refl;
  granted = wave_granted two (sets_of two contended_script) (no_arbitration two) contended_grants contended refl;
}

contended_is_wave : IsWaveOf two contended_script contended_grants contended
contended_is_wave = record { legal = contended_wave; rises = contended_rises; falls = contended_falls; offers = contended_offers; ends = contended_ends; history = contended_legal }

slow_wave : IsLegalWave deep (sets_of deep slow_script) slow_grants slow
unfolding bus
slow_wave = record {
  whole = wave_whole deep slow refl;
  fields = wave_fields deep slow refl;
  answers = wave_answers deep slow refl;
  depth = wave_depth deep slow refl;
  stalls = wave_stalls deep slow refl;
  kept = wave_kept deep slow refl;
  holders = wave_holders deep slow refl;
  granted = wave_granted deep (sets_of deep slow_script) (no_arbitration deep) slow_grants slow refl;
}

slow_is_wave : IsWaveOf deep slow_script slow_grants slow
slow_is_wave = record { legal = slow_wave; rises = slow_rises; falls = slow_falls; offers = slow_offers; ends = slow_ends; history = slow_legal }

-- ---- rows that a clause refuses

-- a holder that isn't shown in the clock of its grant
abbrev unshown_row : WaveRowState
unshown_row = record { ports = standing ∷ standing ∷ []; holders = None ∷ Some 1 ∷ None ∷ [] }

abbrev is_shown : Option ℕ → Bool
is_shown None = false
is_shown (Some m) = true

unshown : (rows : List WaveRowState) → IsLegalWave two (sets_of two parallel_script) parallel_grants (unshown_row ∷ rows) → ⊥
unfolding bus
unshown rows h = false_true (ap is_shown (h.granted.0.shown 0 (omega arith)))

-- CYC that doesn't rise in its clock, and one that rises before it
rises_late : RisesInTime 0 (cycles_of 0 parallel_script) [] no_port → ⊥
rises_late h = false_true (h refl)

abbrev later_script : List ScriptLine
later_script = record { master = 0; clock = 1; last = true; ops = op true 0 1 ∷ [] } ∷ []

rises_early : RisesInTime 0 (cycles_of 0 later_script) [] standing → ⊥
rises_early h = true_false (h refl)

-- CYC that falls a clock early, and one that stands on
falls_early : FallsInTime (cycles_of 0 parallel_script) (column 0 (take 2 parallel)) no_port → ⊥
falls_early h = false_true (h refl)

falls_late : FallsInTime (cycles_of 0 parallel_script) (column 0 (take 3 parallel)) standing → ⊥
falls_late h = true_false (h refl)

-- no STB in the clock after the load, and another operation than the line's
abbrev has_offer : Option Request → Bool
has_offer None = false
has_offer (Some r) = true

abbrev offered_data : Option Request → ℕ
offered_data None = 0
offered_data (Some r) = r.dat

offers_none : OffersInTime two 1 (cycles_of 0 parallel_script) (Holding 1) (column 0 (take 1 parallel)) standing → ⊥
unfolding bus
offers_none h = false_true (ap has_offer h)

offers_another : OffersInTime two 1 (cycles_of 0 parallel_script) (Holding 1) (column 0 (take 1 parallel)) (asks true 0 1 false false) → ⊥
unfolding bus
offers_another h = omega (arith, ap offered_data h)

-- a wave that ends before all is done, and one that goes on
ends_early : EndsWhere (all_done two parallel_script) [] (take 3 parallel) → ⊥
unfolding bus
ends_early h = false_true h.1.1

ends_late : EndsWhere (all_done two parallel_script) [] (parallel ++ parallel_3 ∷ []) → ⊥
unfolding bus
ends_late h = true_false h.1.1.1.0

-- a read that shows another word than what was written
abbrev wrong_rows : List WaveRowState
wrong_rows =
    record { ports = standing ∷ []; holders = [] } ∷ record { ports = asks false 65536 0 false false ∷ []; holders = [] }
    ∷ record { ports = record acked { read = 7 } ∷ []; holders = [] } ∷ record { ports = no_port ∷ []; holders = [] } ∷ []

abbrev word_in : Answer → ℕ
word_in (Ack word) = word
word_in a = 0

abbrev first_word : List Pair → ℕ
first_word [] = 0
first_word (p ∷ pairs) = word_in p.answer

wrong_word : IsLegal deep.wiring deep.built (history 1 (λ m n. false) wrong_rows) → ⊥
unfolding bus stepped number octets_of
wrong_word h = omega (arith, ap first_word h.1)

-- lines that none ends are a cycle that is cut
abbrev open_script : List ScriptLine
open_script = record { master = 0; clock = 0; last = false; ops = op true 0 1 ∷ [] } ∷ []

not_whole : marks_of open_script 0 0 ≡ false → ⊥
not_whole h = true_false h
