-- Worked waves against each clause of a legal wave, and rows that a clause refuses.
use Rattle.std.proofs.Common.{◌≡◌, ℕ, zero, suc, ◌<◌, Bool, true, false, List, [], ◌∷◌, take, refl, ap, subst, arith}
use Rattle.std.specs.Prelude.{Option, Some, None, map, bit_and}
use Rattle.std.specs.Int.{bit_at}
use Rattle.wb_signals.specs.Request.{Request}
use Rattle.wb_signals.specs.Bus.{bus}
use Rattle.wb_signals.specs.declared.port_row.PortRow.{PortRow}
use Rattle.wb_signals.specs.Wave.{WaveRowState}
use Rattle.wb_crossbar.specs.Grant.{IsGrant, IsNext, port_at}
use Rattle.soc_wave.specs.Rows.{no_port, column, last_port, last_row}
use Rattle.soc_wave.specs.Arbitration.{PortCourse, IsArbitrated, AreArbitrated, arbitration, holding_from, no_arbitration, course_at, with_cycs, awaited_set, all_held, turn_in}
use Rattle.soc_wave.specs.Legal.{IsWholeRow, OnEachPort, InEachClock, HasPlainFields, IsAnswered, IsWithinDepth, IsStalledAsDue, IsKept, HoldsSlaves}
use Rattle.soc_wave.specs.WorkedWaves.{standing, two, deep, asks, acked, grants, parallel_0, parallel_2, parallel, parallel_grants, contended, contended_grants, slow, slow_grants}
use Rattle.soc_wave.proofs.PortRows.{true_false, false_true}
use Rattle.soc_wave.proofs.Decided.{wave_whole, wave_fields, wave_answers, wave_depth, wave_stalls, wave_kept, wave_holders}
use Rattle.soc_wave.proofs.DecidedGrants.{wave_granted}

abbrev is_there : Option ℕ → Bool
is_there None = false
is_there (Some x) = true

abbrev there_or : ℕ → Option ℕ → ℕ
there_or d None = d
there_or d (Some x) = x

none_some : (x : ℕ) → ◌≡◌ {A = Option ℕ} None (Some x) → ⊥
none_some x e = false_true (ap is_there e)

parallel_whole : InEachClock (λ before row. IsWholeRow two row) [] parallel
unfolding bus
parallel_whole = wave_whole two parallel refl

parallel_fields : OnEachPort two (λ before p. HasPlainFields p) parallel
unfolding bus
parallel_fields = wave_fields two parallel refl

parallel_answers : OnEachPort two (IsAnswered two) parallel
unfolding bus
parallel_answers = wave_answers two parallel refl

parallel_depth : OnEachPort two (IsWithinDepth two) parallel
unfolding bus
parallel_depth = wave_depth two parallel refl

parallel_stalls : OnEachPort two (IsStalledAsDue two) parallel
unfolding bus
parallel_stalls = wave_stalls two parallel refl

parallel_kept : OnEachPort two (λ before p. IsKept (last_port before) p) parallel
unfolding bus
parallel_kept = wave_kept two parallel refl

parallel_holders : InEachClock (λ before row. (m : ℕ) → m < 2 → HoldsSlaves two m (last_row before) row) [] parallel
unfolding bus
parallel_holders = wave_holders two parallel refl

-- the sets named for the rises: of both masters, of one of them
abbrev parallel_named : ℕ → ℕ → ℕ
parallel_named zero n = 1
parallel_named (suc m) n = 2

abbrev contended_named : ℕ → ℕ → ℕ
contended_named zero n = 7
contended_named (suc m) n = 1

abbrev slow_named : ℕ → ℕ → ℕ
slow_named m n = 3

parallel_granted : AreArbitrated two parallel_named (no_arbitration two) parallel_grants parallel
unfolding bus
parallel_granted = wave_granted two parallel_named (no_arbitration two) parallel_grants parallel refl

abbrev parallel_line : ℕ → List (Option ℕ)
parallel_line t = map (λ slave. holding_from 0 (arbitration two parallel_named (take (suc t) parallel_grants) (take (suc t) parallel)).ports slave) (0 ∷ 1 ∷ 2 ∷ [])

parallel_holds : map parallel_line (0 ∷ 1 ∷ 2 ∷ 3 ∷ []) ≡ (Some 0 ∷ Some 1 ∷ None ∷ []) ∷ (Some 0 ∷ Some 1 ∷ None ∷ []) ∷ (Some 0 ∷ Some 1 ∷ None ∷ []) ∷ (None ∷ None ∷ None ∷ []) ∷ []
unfolding bus
parallel_holds = refl

contended_whole : InEachClock (λ before row. IsWholeRow two row) [] contended
unfolding bus
contended_whole = wave_whole two contended refl

contended_fields : OnEachPort two (λ before p. HasPlainFields p) contended
unfolding bus
contended_fields = wave_fields two contended refl

contended_answers : OnEachPort two (IsAnswered two) contended
unfolding bus
contended_answers = wave_answers two contended refl

contended_depth : OnEachPort two (IsWithinDepth two) contended
unfolding bus
contended_depth = wave_depth two contended refl

contended_stalls : OnEachPort two (IsStalledAsDue two) contended
unfolding bus
contended_stalls = wave_stalls two contended refl

contended_kept : OnEachPort two (λ before p. IsKept (last_port before) p) contended
unfolding bus
contended_kept = wave_kept two contended refl

contended_holders : InEachClock (λ before row. (m : ℕ) → m < 2 → HoldsSlaves two m (last_row before) row) [] contended
unfolding bus
contended_holders = wave_holders two contended refl

contended_granted : AreArbitrated two contended_named (no_arbitration two) contended_grants contended
unfolding bus
contended_granted = wave_granted two contended_named (no_arbitration two) contended_grants contended refl

abbrev contended_line : ℕ → List (Option ℕ)
contended_line t = map (λ slave. holding_from 0 (arbitration two contended_named (take (suc t) contended_grants) (take (suc t) contended)).ports slave) (0 ∷ 1 ∷ 2 ∷ [])

contended_holds : map contended_line (0 ∷ 1 ∷ 2 ∷ 3 ∷ 4 ∷ 5 ∷ 6 ∷ 7 ∷ 8 ∷ 9 ∷ 10 ∷ 11 ∷ 12 ∷ 13 ∷ []) ≡ (Some 0 ∷ Some 0 ∷ Some 0 ∷ []) ∷ (Some 0 ∷ Some 0 ∷ Some 0 ∷ []) ∷ (Some 0 ∷ Some 0 ∷ Some 0 ∷ []) ∷ (Some 0 ∷ Some 0 ∷ Some 0 ∷ []) ∷ (Some 0 ∷ Some 0 ∷ Some 0 ∷ []) ∷ (Some 0 ∷ Some 0 ∷ Some 0 ∷ []) ∷ (Some 0 ∷ Some 0 ∷ Some 0 ∷ []) ∷ (Some 0 ∷ Some 0 ∷ Some 0 ∷ []) ∷ (Some 1 ∷ None ∷ None ∷ []) ∷ (Some 1 ∷ None ∷ None ∷ []) ∷ (Some 1 ∷ None ∷ None ∷ []) ∷ (Some 1 ∷ None ∷ None ∷ []) ∷ (Some 1 ∷ None ∷ None ∷ []) ∷ (None ∷ None ∷ None ∷ []) ∷ []
unfolding bus
contended_holds = refl

slow_whole : InEachClock (λ before row. IsWholeRow deep row) [] slow
unfolding bus
slow_whole = wave_whole deep slow refl

slow_fields : OnEachPort deep (λ before p. HasPlainFields p) slow
unfolding bus
slow_fields = wave_fields deep slow refl

slow_answers : OnEachPort deep (IsAnswered deep) slow
unfolding bus
slow_answers = wave_answers deep slow refl

slow_depth : OnEachPort deep (IsWithinDepth deep) slow
unfolding bus
slow_depth = wave_depth deep slow refl

slow_stalls : OnEachPort deep (IsStalledAsDue deep) slow
unfolding bus
slow_stalls = wave_stalls deep slow refl

slow_kept : OnEachPort deep (λ before p. IsKept (last_port before) p) slow
unfolding bus
slow_kept = wave_kept deep slow refl

slow_holders : InEachClock (λ before row. (m : ℕ) → m < 1 → HoldsSlaves deep m (last_row before) row) [] slow
unfolding bus
slow_holders = wave_holders deep slow refl

slow_granted : AreArbitrated deep slow_named (no_arbitration deep) slow_grants slow
unfolding bus
slow_granted = wave_granted deep slow_named (no_arbitration deep) slow_grants slow refl

abbrev slow_line : ℕ → List (Option ℕ)
slow_line t = map (λ slave. holding_from 0 (arbitration deep slow_named (take (suc t) slow_grants) (take (suc t) slow)).ports slave) (0 ∷ 1 ∷ 2 ∷ [])

slow_holds : map slow_line (0 ∷ 1 ∷ 2 ∷ 3 ∷ 4 ∷ 5 ∷ 6 ∷ 7 ∷ 8 ∷ 9 ∷ 10 ∷ 11 ∷ 12 ∷ 13 ∷ 14 ∷ 15 ∷ 16 ∷ 17 ∷ 18 ∷ 19 ∷ 20 ∷ 21 ∷ []) ≡ (Some 0 ∷ Some 0 ∷ None ∷ []) ∷ (Some 0 ∷ Some 0 ∷ None ∷ []) ∷ (Some 0 ∷ Some 0 ∷ None ∷ []) ∷ (Some 0 ∷ Some 0 ∷ None ∷ []) ∷ (Some 0 ∷ Some 0 ∷ None ∷ []) ∷ (Some 0 ∷ Some 0 ∷ None ∷ []) ∷ (Some 0 ∷ Some 0 ∷ None ∷ []) ∷ (Some 0 ∷ Some 0 ∷ None ∷ []) ∷ (Some 0 ∷ Some 0 ∷ None ∷ []) ∷ (Some 0 ∷ Some 0 ∷ None ∷ []) ∷ (Some 0 ∷ Some 0 ∷ None ∷ []) ∷ (Some 0 ∷ Some 0 ∷ None ∷ []) ∷ (Some 0 ∷ Some 0 ∷ None ∷ []) ∷ (Some 0 ∷ Some 0 ∷ None ∷ []) ∷ (Some 0 ∷ Some 0 ∷ None ∷ []) ∷ (Some 0 ∷ Some 0 ∷ None ∷ []) ∷ (Some 0 ∷ Some 0 ∷ None ∷ []) ∷ (Some 0 ∷ Some 0 ∷ None ∷ []) ∷ (Some 0 ∷ Some 0 ∷ None ∷ []) ∷ (Some 0 ∷ Some 0 ∷ None ∷ []) ∷ (Some 0 ∷ Some 0 ∷ None ∷ []) ∷ (None ∷ None ∷ None ∷ []) ∷ []
unfolding bus
slow_holds = refl

abbrev stray_address_port : PortRow
stray_address_port = record { cyc = true; stb = false; we = false; adr = 4; dat = 0; sel = 0; stall = false; ack = false; err = false; rty = false; read = 0 }

stray_address : HasPlainFields stray_address_port → ⊥
unfolding bus
stray_address h = omega (arith, h.adr refl)

abbrev strobe_alone_port : PortRow
strobe_alone_port = record { cyc = false; stb = true; we = false; adr = 0; dat = 0; sel = 15; stall = false; ack = false; err = false; rty = false; read = 0 }

strobe_alone : HasPlainFields strobe_alone_port → ⊥
unfolding bus
strobe_alone h = false_true (h.strobe refl)

abbrev no_answer_port : PortRow
no_answer_port = standing

no_answer : IsAnswered two (column 1 (take 2 parallel)) no_answer_port → ⊥
unfolding bus
no_answer h = false_true h.due

abbrev early_answer_port : PortRow
early_answer_port = asks true 4096 572662306 false true

early_answer : IsAnswered two (column 1 (take 1 parallel)) early_answer_port → ⊥
unfolding bus
early_answer h = true_false h.due

abbrev two_answers_port : PortRow
two_answers_port = record { cyc = true; stb = false; we = false; adr = 0; dat = 0; sel = 0; stall = false; ack = true; err = true; rty = false; read = 0 }

two_answers : IsAnswered two (column 1 (take 2 parallel)) two_answers_port → ⊥
unfolding bus
two_answers h = true_false (h.ack_alone refl).0

abbrev too_many_port : PortRow
too_many_port = asks true 16 0 false false

too_many : IsWithinDepth deep (column 0 (take 5 slow)) too_many_port → ⊥
unfolding bus
too_many h = omega (arith, h.below refl)

abbrev left_early_port : PortRow
left_early_port = no_port

left_early : IsWithinDepth deep (column 0 (take 5 slow)) left_early_port → ⊥
unfolding bus
left_early h = false_true (h.stands (λ e. omega (arith, e)))

abbrev no_stall_port : PortRow
no_stall_port = asks false 65536 0 false true

no_stall : IsStalledAsDue deep (column 0 (take 11 slow)) no_stall_port → ⊥
unfolding bus
no_stall h = false_true h

abbrev needless_stall_port : PortRow
needless_stall_port = asks true 0 1 true false

needless_stall : IsStalledAsDue deep (column 0 (take 1 slow)) needless_stall_port → ⊥
unfolding bus
needless_stall h = true_false h

abbrev changed_port : PortRow
changed_port = asks false 65540 0 true false

changed : IsKept (last_port (column 0 (take 13 slow))) changed_port → ⊥
unfolding bus
changed h = omega (arith, ap (λ (r : Request). r.adr) (h refl).2)

abbrev lost_row : WaveRowState
lost_row = record { ports = asks true 0 286331153 false false ∷ asks true 4096 572662306 false false ∷ []; holders = None ∷ Some 1 ∷ None ∷ [] }

lost : HoldsSlaves two 0 (last_row (take 1 parallel)) lost_row → ⊥
unfolding bus
lost h = none_some 0 (h.stays 0 (omega arith) refl refl)

abbrev no_wave : WaveRowState
no_wave = record { ports = []; holders = [] }

unheld : HoldsSlaves two 0 no_wave lost_row → ⊥
unfolding bus
unheld h = none_some 0 (h.reaches 0 refl refl)

-- a row that lacks its ports
short_row : IsWholeRow two no_wave → ⊥
unfolding bus
short_row h = omega (arith, h.ports)

-- STALL without STB, and a word without ACK
stray_stall : HasPlainFields (record standing { stall = true }) → ⊥
stray_stall h = true_false (h.stall refl)

stray_word : HasPlainFields (record standing { read = 5 }) → ⊥
stray_word h = omega (arith, h.read refl)

-- an answer one clock late, and two at once
late_answer : IsAnswered two (column 1 (take 3 parallel)) acked → ⊥
unfolding bus
late_answer h = true_false h.due

err_and_rty : IsAnswered two (column 1 (take 2 parallel)) (record standing { err = true; rty = true }) → ⊥
unfolding bus
err_and_rty h = true_false (h.err_alone refl)

-- a holder that is shown after its release
abbrev released_row : WaveRowState
released_row = record { ports = no_port ∷ standing ∷ []; holders = Some 0 ∷ Some 1 ∷ None ∷ [] }

shown_after_release : HoldsSlaves two 0 parallel_2 released_row → ⊥
unfolding bus
shown_after_release h = false_true (h.stands 0 (omega arith) refl)

-- a holder that isn't shown
abbrev unshown_row : WaveRowState
unshown_row = record { ports = standing ∷ standing ∷ []; holders = None ∷ Some 1 ∷ None ∷ [] }

unshown : IsArbitrated two parallel_named (no_arbitration two) (grants 3 0) unshown_row → ⊥
unfolding bus
unshown h = none_some 0 (h.shown 0 (omega arith))

-- an arbiter that grants one port in a clock where two are free
abbrev first_courses : List PortCourse
unfolding bus
first_courses = with_cycs parallel_named parallel_0 0 (no_arbitration two).ports

apart_first : (j other : ℕ) → j < 1 → awaited_set (course_at first_courses (port_at (turn_in two (no_arbitration two)) j)) ≡ Some other → bit_and other 2 ≡ 0
unfolding bus
apart_first zero other lt wants = subst (λ (n : ℕ). bit_and n 2 ≡ 0) (ap (there_or 0) wants) refl
apart_first (suc j) other lt wants = absurd (omega (arith, lt))

one_at_a_time : IsGrant (turn_in two (no_arbitration two)) (λ m. awaited_set (course_at first_courses m)) (all_held first_courses) 1 → ⊥
unfolding bus
one_at_a_time g =
    let second = ((g.decided 1 (omega arith)).waiting 2 refl).1 (record { unheld = refl; apart = λ j other lt granted wants. apart_first j other lt wants }) in
    omega (arith, second)

second_not : (j : ℕ) → 0 < j → j < 2 → bit_at 1 (port_at (record { ports = 2; first = 0 }) j) ≡ 0
second_not zero after lt = absurd (omega (arith, after))
second_not (suc zero) after lt = refl
second_not (suc (suc j)) after lt = absurd (omega (arith, lt))

-- the port that was granted is looked at first again
turn_stays : IsNext (record { ports = 2; first = 0 }) 1 0 → ⊥
turn_stays h = omega (arith, h.last 0 (omega arith) refl second_not)
