-- How often CYC has risen on a port, as the arbitration counts it and as the rows show it.
use Rattle.std.proofs.Common.{◌≡◌, ℕ, zero, suc, ◌+◌, ◌<◌, ◌==◌, ◌&&◌, not, Bool, true, false, List, [], ◌∷◌, length, refl, sym, ap, ◌∙◌, subst, arith}
use Rattle.std.specs.Prelude.{slice_index_or, fold}
use Rattle.std.specs.Int.{bit_at}
use Rattle.soc_core.specs.Fabric.{Fabric}
use Rattle.wb_signals.specs.declared.port_row.PortRow.{PortRow}
use Rattle.wb_signals.specs.Wave.{WaveRowState}
use Rattle.soc_wave.specs.Rows.{no_port, port_in, column, last_port}
use Rattle.soc_wave.specs.Requests.{one_if}
use Rattle.soc_wave.specs.Pairs.{rises, rises_from}
use Rattle.soc_wave.specs.Arbitration.{Course, Off, Waiting, Holding, PortCourse, Arbitration, Granting, no_course, no_courses, with_cyc, with_cycs, hold_if, hold_from, arbitrated, AreArbitrated, no_arbitration, arbitration_from, arbitration}

abbrev pub is_off : Course → Bool
is_off Off = true
is_off (Waiting set) = false
is_off (Holding set) = false

-- ---- one port in one clock

cycs_at : (named : ℕ → ℕ → ℕ) (row : WaveRowState) (k m j : ℕ) (courses : List PortCourse) → m < length courses → j ≡ k + m
    → slice_index_or (with_cycs named row k courses) m no_course ≡ with_cyc (named j) (port_in j row).cyc (slice_index_or courses m no_course)
cycs_at named row k m j [] lt is = absurd (omega (arith, lt))
cycs_at named row k zero j (c ∷ courses) lt is =
    let e : k ≡ j = omega (arith, is) in
    ap (λ (n : ℕ). with_cyc (named n) (port_in n row).cyc c) e
cycs_at named row k (suc m) j (c ∷ courses) lt is = cycs_at named row (suc k) m j courses (omega (arith, lt)) (omega (arith, is))

length-cycs : (named : ℕ → ℕ → ℕ) (row : WaveRowState) (k : ℕ) (courses : List PortCourse) → length (with_cycs named row k courses) ≡ length courses
length-cycs named row k [] = refl
length-cycs named row k (c ∷ courses) = ap (λ (n : ℕ). suc n) (length-cycs named row (suc k) courses)

length-hold : (grant k : ℕ) (courses : List PortCourse) → length (hold_from grant k courses) ≡ length courses
length-hold grant k [] = refl
length-hold grant k (c ∷ courses) = ap (λ (n : ℕ). suc n) (length-hold grant (suc k) courses)

hold_keeps_off : (b : Bool) (c : Course) → is_off (hold_if b c) ≡ is_off c
hold_keeps_off b Off = refl
hold_keeps_off true (Waiting set) = refl
hold_keeps_off false (Waiting set) = refl
hold_keeps_off b (Holding set) = refl

hold_at : (grant k m : ℕ) (courses : List PortCourse) → m < length courses
    → ((slice_index_or (hold_from grant k courses) m no_course).risen ≡ (slice_index_or courses m no_course).risen)
    × (is_off (slice_index_or (hold_from grant k courses) m no_course).course ≡ is_off (slice_index_or courses m no_course).course)
hold_at grant k m [] lt = absurd (omega (arith, lt))
hold_at grant k zero (c ∷ courses) lt = (refl, hold_keeps_off (bit_at grant k == 1) c.course)
hold_at grant k (suc m) (c ∷ courses) lt = hold_at grant (suc k) m courses (omega (arith, lt))

abbrev is_true : Bool → Type 0
is_true true = Unit {0}
is_true false = ⊥

-- the course of a port after a clock with this CYC
risen_by : (set_of : ℕ → ℕ) (was cyc : Bool) (c : Course) (n : ℕ) → is_off c ≡ not was → (with_cyc set_of cyc (record { course = c; risen = n })).risen ≡ one_if (not was && cyc) n
risen_by set_of true true Off n off = absurd (subst is_true off tt)
risen_by set_of false true Off n off = refl
risen_by set_of true true (Waiting set) n off = refl
risen_by set_of false true (Waiting set) n off = absurd (subst is_true (sym off) tt)
risen_by set_of true true (Holding set) n off = refl
risen_by set_of false true (Holding set) n off = absurd (subst is_true (sym off) tt)
risen_by set_of true false c n off = refl
risen_by set_of false false c n off = refl

off_by : (set_of : ℕ → ℕ) (cyc : Bool) (c : Course) (n : ℕ) → is_off (with_cyc set_of cyc (record { course = c; risen = n })).course ≡ not cyc
off_by set_of true Off n = refl
off_by set_of true (Waiting set) n = refl
off_by set_of true (Holding set) n = refl
off_by set_of false c n = refl

-- ---- all clocks

one_more : (b : Bool) (n k : ℕ) → one_if b n + k ≡ n + one_if b k
one_more true n k = omega arith
one_more false n k = refl

-- what the rows show, from an arbitration that stands so after the row `old`
risen_from : (named : ℕ → ℕ → ℕ) (m : ℕ) (f : Fabric) (a : Arbitration) (old : PortRow) (grants : List Granting) (rows : List WaveRowState) → AreArbitrated f named a grants rows → m < length a.ports
    → is_off (slice_index_or a.ports m no_course).course ≡ not old.cyc
    → ((slice_index_or (arbitration_from named a grants rows).ports m no_course).risen ≡ (slice_index_or a.ports m no_course).risen + rises_from old (column m rows))
    × (is_off (slice_index_or (arbitration_from named a grants rows).ports m no_course).course ≡ not (fold (λ (q p : PortRow). p) old (column m rows)).cyc)
risen_from named m f a old [] [] are lt off = (omega arith, off)
risen_from named m f a old [] (row ∷ rows) are lt off = absurd are
risen_from named m f a old (g ∷ grants) [] are lt off = absurd are
risen_from named m f a old (g ∷ grants) (row ∷ rows) are lt off =
    let c : PortCourse = slice_index_or a.ports m no_course in
    let p : PortRow = port_in m row in
    let within : m < length (with_cycs named row 0 a.ports) = omega (arith, lt, length-cycs named row 0 a.ports) in
    let within_next : m < length (arbitrated named g row a).ports = omega (arith, lt, length-cycs named row 0 a.ports, length-hold g.ports 0 (with_cycs named row 0 a.ports)) in
    let clocked : slice_index_or (with_cycs named row 0 a.ports) m no_course ≡ with_cyc (named m) p.cyc c = cycs_at named row 0 m m a.ports lt (omega arith) in
    let held = hold_at g.ports 0 m (with_cycs named row 0 a.ports) within in
    let risen : (slice_index_or (arbitrated named g row a).ports m no_course).risen ≡ one_if (rises old p) c.risen =
    held.0 ∙ ap (λ (x : PortCourse). x.risen) clocked ∙ risen_by (named m) old.cyc p.cyc c.course c.risen off in
    let off_now : is_off (slice_index_or (arbitrated named g row a).ports m no_course).course ≡ not p.cyc =
    held.1 ∙ ap (λ (x : PortCourse). is_off x.course) clocked ∙ off_by (named m) p.cyc c.course c.risen in
    let rest = risen_from named m f (arbitrated named g row a) p grants rows are.1 within_next off_now in (
      rest.0 ∙ ap (λ (n : ℕ). n + rises_from p (column m rows)) risen ∙ one_more (rises old p) c.risen (rises_from p (column m rows)),
      rest.1,
    )

none_at : (n m : ℕ) → slice_index_or (no_courses n) m no_course ≡ no_course
none_at zero m = refl
none_at (suc n) zero = refl
none_at (suc n) (suc m) = none_at n m

length-none : (n : ℕ) → length (no_courses n) ≡ n
length-none zero = refl
length-none (suc n) = ap (λ (k : ℕ). suc k) (length-none n)

zero_plus : (n : ℕ) → 0 + n ≡ n
zero_plus n = omega arith

-- The arbitration counts the rises that the rows show, and has no cycle of a port exactly where CYC doesn't stand.
pub risen_shown : (f : Fabric) (named : ℕ → ℕ → ℕ) (grants : List Granting) (rows : List WaveRowState) (m : ℕ) → m < f.ports → AreArbitrated f named (no_arbitration f) grants rows
    → ((slice_index_or (arbitration f named grants rows).ports m no_course).risen ≡ rises_from no_port (column m rows))
    × (is_off (slice_index_or (arbitration f named grants rows).ports m no_course).course ≡ not (last_port (column m rows)).cyc)
risen_shown f named grants rows m lt are =
    let none = none_at f.ports m in
    let within : m < length (no_courses f.ports) = omega (arith, lt, length-none f.ports) in
    let all = risen_from named m f (no_arbitration f) no_port grants rows are within (ap (λ (c : PortCourse). is_off c.course) none) in (
      all.0 ∙ ap (λ (c : PortCourse). c.risen + rises_from no_port (column m rows)) none ∙ zero_plus (rises_from no_port (column m rows)),
      all.1,
    )
