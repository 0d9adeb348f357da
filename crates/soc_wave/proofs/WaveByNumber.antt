-- The rules of a wave, read by the numbers of its clocks.
use Rattle.std.proofs.Common.{◌≡◌, ℕ, zero, suc, ◌+◌, ◌<◌, ◌==◌, ◌||◌, Bool, true, false, List, [], ◌∷◌, ◌++◌, length, take, refl, sym, ap, ◌∙◌, subst, arith, append_assoc}
use Rattle.std.specs.Prelude.{slice_get, Option, Some, None}
use Rattle.std.specs.List.{list_any}
use Rattle.std.proofs.lemmas.Bool.{eqb-true}
use Rattle.soc_core.specs.Fabric.{Fabric}
use Rattle.wb_signals.specs.declared.port_row.PortRow.{PortRow}
use Rattle.wb_signals.specs.Wave.{WaveRowState}
use Rattle.wb_signals.specs.Rows.{request_in}
use Rattle.soc_wave.specs.Rows.{port_in, column, has_passed}
use Rattle.soc_wave.specs.Requests.{Passed, put_if, passed_from, answer_clock, queue_of}
use Rattle.soc_wave.specs.Legal.{InEachClock, IsAnswered}
use Rattle.soc_wave.specs.Readings.{ClockByNumber, AnsweredWhereDue, AnsweredByNumber}
use Rattle.soc_wave.proofs.Lists.{append-nil}
use Rattle.soc_wave.proofs.PortRows.{false_true}

-- ---- each clock by its number

abbrev is_there : Option WaveRowState → Bool
is_there None = false
is_there (Some row) = true

no_row_at : (row : WaveRowState) → ◌≡◌ {A = Option WaveRowState} None (Some row) → ⊥
no_row_at row e = false_true (ap is_there e)

abbrev row_or : WaveRowState → Option WaveRowState → WaveRowState
row_or d None = d
row_or d (Some row) = row

to_number : (P : List WaveRowState → WaveRowState → Type 0) (before rows : List WaveRowState) → InEachClock P before rows → (t : ℕ) (row : WaveRowState) → slice_get rows t ≡ Some row → P (before ++ take t rows) row
to_number P before [] each t row is = absurd (no_row_at row is)
to_number P before (r ∷ rows) each zero row is = subst (λ x. P (before ++ []) x) (ap (row_or r) is) (subst (λ l. P l r) (sym (append-nil before)) each.0)
to_number P before (r ∷ rows) each (suc t) row is =
    subst (λ l. P l row) (append_assoc before (r ∷ []) (take t rows)) (to_number P (before ++ r ∷ []) rows each.1 t row is)

from_number : (P : List WaveRowState → WaveRowState → Type 0) (before rows : List WaveRowState) → ((t : ℕ) (row : WaveRowState) → slice_get rows t ≡ Some row → P (before ++ take t rows) row) → InEachClock P before rows
from_number P before [] each = tt
from_number P before (r ∷ rows) each = (
  subst (λ l. P l r) (append-nil before) (each 0 r refl),
  from_number P (before ++ r ∷ []) rows (λ t row is. subst (λ l. P l row) (sym (append_assoc before (r ∷ []) (take t rows))) (each (suc t) row is)),
)

pub clock_by_number : (P : List WaveRowState → WaveRowState → Type 0) (rows : List WaveRowState) → ClockByNumber P rows
clock_by_number P rows = (to_number P [] rows, from_number P [] rows)

-- ---- answers where due

abbrev is_due : Fabric → ℕ → Passed → Bool
is_due f t r = answer_clock f r == t

same_yes : (a b : ℕ) → a ≡ b → (a == b) ≡ true
same_yes a b is = grind (arith, is)

-- a request that passed among these rows, the first of them in clock k
pub record PassedFrom (f : Fabric) (k : ℕ) (rows : List PortRow) (t : ℕ) : Type 0 where
  pub place : ℕ
  pub row : PortRow
  pub stood : slice_get rows place ≡ Some row
  pub passed : has_passed row ≡ true
  pub due : k + place + 1 + f.wiring.wait (queue_of f (request_in row)) ≡ t

next_from : (f : Fabric) (k : ℕ) (p : PortRow) (rows : List PortRow) (t : ℕ) → PassedFrom f (suc k) rows t → PassedFrom f k (p ∷ rows) t
next_from f k p rows t d = record { place = suc d.place; row = d.row; stood = d.stood; passed = d.passed; due = omega (arith, d.due) }

any_first : (f : Fabric) (t k : ℕ) (p : PortRow) (rows : List PortRow) (b : Bool) → (k + 1 + f.wiring.wait (queue_of f (request_in p)) == t) ≡ b → has_passed p ≡ true
    → (b || list_any (is_due f t) (passed_from (suc k) rows)) ≡ true → (list_any (is_due f t) (passed_from (suc k) rows) ≡ true → PassedFrom f (suc k) rows t) → PassedFrom f k (p ∷ rows) t
any_first f t k p rows true due stands is later =
    let e = eqb-true (k + 1 + f.wiring.wait (queue_of f (request_in p))) t due in
    record { place = 0; row = p; stood = refl; passed = stands; due = omega (arith, e) }
any_first f t k p rows false due stands is later = next_from f k p rows t (later is)

any_by : (f : Fabric) (t k : ℕ) (p : PortRow) (rows : List PortRow) (b : Bool) → has_passed p ≡ b → list_any (is_due f t) (put_if b (record { clock = k; request = request_in p }) (passed_from (suc k) rows)) ≡ true
    → (list_any (is_due f t) (passed_from (suc k) rows) ≡ true → PassedFrom f (suc k) rows t) → PassedFrom f k (p ∷ rows) t
any_by f t k p rows false stands is later = next_from f k p rows t (later is)
any_by f t k p rows true stands is later = any_first f t k p rows (k + 1 + f.wiring.wait (queue_of f (request_in p)) == t) refl stands is later

any_due : (f : Fabric) (t k : ℕ) (rows : List PortRow) → list_any (is_due f t) (passed_from k rows) ≡ true → PassedFrom f k rows t
any_due f t k [] is = absurd (false_true is)
any_due f t k (p ∷ rows) is = any_by f t k p rows (has_passed p) refl is (λ later. any_due f t (suc k) rows later)

or_right : (a b : Bool) → b ≡ true → (a || b) ≡ true
or_right true b is = refl
or_right false b is = is

abbrev port_there : Option PortRow → Bool
port_there None = false
port_there (Some p) = true

port_none : (p : PortRow) → ◌≡◌ {A = Option PortRow} None (Some p) → ⊥
port_none p e = false_true (ap port_there e)

abbrev port_or : PortRow → Option PortRow → PortRow
port_or d None = d
port_or d (Some p) = p

later_any : (f : Fabric) (t : ℕ) (b : Bool) (r : Passed) (rs : List Passed) → list_any (is_due f t) rs ≡ true → list_any (is_due f t) (put_if b r rs) ≡ true
later_any f t true r rs is = or_right (is_due f t r) (list_any (is_due f t) rs) is
later_any f t false r rs is = is

due_any : (f : Fabric) (t k : ℕ) (rows : List PortRow) (place : ℕ) (row : PortRow) → slice_get rows place ≡ Some row → has_passed row ≡ true → k + place + 1 + f.wiring.wait (queue_of f (request_in row)) ≡ t
    → list_any (is_due f t) (passed_from k rows) ≡ true
due_any f t k [] place row is stands due = absurd (port_none row is)
due_any f t k (p ∷ rows) zero row is stands due =
    let same : p ≡ row = ap (port_or p) is in
    let passes_p : has_passed p ≡ true = ap has_passed same ∙ stands in
    let due_p : k + 1 + f.wiring.wait (queue_of f (request_in p)) ≡ t = ap (λ (q : PortRow). k + 1 + f.wiring.wait (queue_of f (request_in q))) same ∙ omega (arith, due) in
    ap (λ b. list_any (is_due f t) (put_if b (record { clock = k; request = request_in p }) (passed_from (suc k) rows))) passes_p
    ∙ ap (λ b. b || list_any (is_due f t) (passed_from (suc k) rows)) (same_yes (k + 1 + f.wiring.wait (queue_of f (request_in p))) t due_p)
due_any f t k (p ∷ rows) (suc place) row is stands due =
    later_any f t (has_passed p) (record { clock = k; request = request_in p }) (passed_from (suc k) rows) (due_any f t (suc k) rows place row is stands (omega (arith, due)))

pub answered_where_due : AnsweredWhereDue
answered_where_due f before p answered = (
  (λ is.
      let d = any_due f (length before) 0 before (sym answered.due ∙ is) in
      record { clock = d.place; row = d.row; stood = d.stood; passed = d.passed; due = omega (arith, d.due) }),
  (λ d. answered.due ∙ due_any f (length before) 0 before d.clock d.row d.stood d.passed (omega (arith, d.due))),
)

pub answered_by_number : AnsweredByNumber
answered_by_number f rows = clock_by_number (λ before row. (m : ℕ) → m < f.ports → IsAnswered f (column m before) (port_in m row)) rows
