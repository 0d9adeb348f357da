-- A tick in which one port alone requests anything or is owed anything: its turn is the tick.
use Rattle.std.proofs.Common.{◌≡◌, ◌≢◌, ℕ, zero, suc, ◌+◌, ◌-◌, ◌<◌, ◌≤◌, List, [], ◌∷◌, length, get_or, set, map, slice_get, true, refl, ap, sym, ◌∙◌, arith, Option, Some, None, subst}
use Rattle.std.specs.Option.{option_map}
use Rattle.std.proofs.lemmas.List.{length-map}
use Rattle.std.proofs.lemmas.Option.{slice_get-get_or, slice_get-map, slice_get_within, get_or_from_slice_get}
use Rattle.eb_base.specs.declared.width.Width.{Width}
use Rattle.wb_signals.specs.Wiring.{Wiring}
use Rattle.wb_signals.specs.Bus.{bus}
use Rattle.wb_signals.specs.Slave.{Owed, owes}
use Rattle.wb_signals.specs.Parts.{Part, child_of, contents_in, farther_owed, part_at}
use Rattle.wb_signals.specs.Rows.{asked, row_after}
use Rattle.wb_signals.specs.Turn.{owed_by}
use Rattle.wb_signals.specs.declared.port_row.PortRow.{PortRow}
use Rattle.wb_signals.specs.declared.debtor.Debtor.{Debtor}
use Rattle.wb_signals.specs.declared.debtor.Debtor.TheVariants.{Nobody, Miss, Top}
use Rattle.wb_crossbar.specs.Crossbar.{CrossbarState, CanTick, rows_after}
use Rattle.wb_crossbar.specs.Alone.{unanswered}
use Rattle.wb_crossbar.specs.Inside.{AreOwed, CanTurn, IsTurn}
use Rattle.wb_crossbar.proofs.TurnLemmas.{quiet_turn, quiet_row}
use Rattle.wb_crossbar.proofs.TickLemmas.{no_row, Ticked, begins, can_turn, next}

-- ---- the rows

quiet_at : (wiring : Wiring) (owed : List Owed) (row : PortRow) → owed ≡ [] → asked row ≡ None → row_after wiring owed row ≡ unanswered row
quiet_at wiring owed row nothing none = ap (λ owed. row_after wiring owed row) nothing ∙ quiet_row wiring row none

rows_quiet : (wiring : Wiring) (owed : List (List Owed)) (rows : List PortRow) → length rows ≡ length owed → ((n : ℕ) (row : PortRow) → slice_get rows n ≡ Some row → asked row ≡ None)
    → ((n : ℕ) (own : List Owed) → slice_get owed n ≡ Some own → own ≡ []) → rows_after wiring owed rows ≡ map unanswered rows
rows_quiet wiring [] [] e asks owes = refl
rows_quiet wiring [] (x ∷ xs) e asks owes = absurd (omega (arith, e))
rows_quiet wiring (o ∷ os) [] e asks owes = absurd (omega (arith, e))
rows_quiet wiring (o ∷ os) (x ∷ xs) e asks owes =
    let first : row_after wiring o x ≡ unanswered x = quiet_at wiring o x (owes 0 o refl) (asks 0 x refl) in
    let more : rows_after wiring os xs ≡ map unanswered xs = rows_quiet wiring os xs (omega (arith, e)) (λ n. asks (suc n)) (λ n. owes (suc n)) in
    λ i. first i ∷ more i

pub rows_alone : (wiring : Wiring) (owed : List (List Owed)) (rows : List PortRow) (m : ℕ) (row : PortRow) → length rows ≡ length owed → slice_get rows m ≡ Some row
    → ((n : ℕ) (other : PortRow) → n ≢ m → slice_get rows n ≡ Some other → asked other ≡ None) → ((n : ℕ) (own : List Owed) → n ≢ m → slice_get owed n ≡ Some own → own ≡ [])
    → rows_after wiring owed rows ≡ set (map unanswered rows) m (row_after wiring (get_or owed m []) row)
rows_alone wiring owed [] m row e own asks owes = absurd (cc)
rows_alone wiring [] (x ∷ xs) m row e own asks owes = absurd (omega (arith, e))
rows_alone wiring (o ∷ os) (x ∷ xs) zero row e own asks owes =
    let same : x ≡ row = cc in
    let more : rows_after wiring os xs ≡ map unanswered xs =
    rows_quiet wiring os xs (omega (arith, e)) (λ n other. asks (suc n) other (λ z. omega (arith, z))) (λ n own. owes (suc n) own (λ z. omega (arith, z))) in
    λ i. row_after wiring o (same i) ∷ more i
rows_alone wiring (o ∷ os) (x ∷ xs) (suc m) row e own asks owes =
    let first : row_after wiring o x ≡ unanswered x = quiet_at wiring o x (owes 0 o (λ z. omega (arith, z)) refl) (asks 0 x (λ z. omega (arith, z)) refl) in
    let more : rows_after wiring os xs ≡ set (map unanswered xs) m (row_after wiring (get_or os m []) row) =
    rows_alone wiring os xs m row (omega (arith, e)) own (λ n other d. asks (suc n) other (λ z. d (omega (arith, z)))) (λ n own d. owes (suc n) own (λ z. d (omega (arith, z)))) in
    λ i. first i ∷ more i

-- ---- the turns

owes_none : (n : ℕ) (owed : List Owed) → owes owed ≡ true → map (farther_owed n) owed ≢ []
owes_none n [] e z = cc
owes_none n (o ∷ os) e z = cc

module _ (width : Width) (parts0 : List Part) (ports0 : List Debtor) (rows0 : List PortRow) (owed : AreOwed width parts0 ports0) where
  abbrev x : CrossbarState
  x = record { width = width; children = map child_of parts0; contents = contents_in parts0; owed = map (owed_by parts0) ports0 }

  nobody_by : (n : ℕ) (d : Debtor) → slice_get ports0 n ≡ Some d → owed_by parts0 d ≡ [] → d ≡ Nobody
  nobody_by n Nobody e nothing = refl
  nobody_by n Miss e nothing = absurd (cc)
  nobody_by n (Top k) e nothing = absurd (owes_none _ (part_at parts0 k).slave.owed (owed.owing n k e).1 nothing)

  module _ (holders : List (Option ℕ)) (can : CanTick x rows0 holders) where
    abbrev Ticks : List Part → List Debtor → List PortRow → ℕ → Type 0
    Ticks = Ticked width holders parts0 ports0 rows0

    abbrev Quiet : ℕ → Type 0
    Quiet j = (get_or ports0 j Nobody ≡ Nobody) × (asked (get_or rows0 j no_row) ≡ None)

    quiet_run : (n : ℕ) (parts : List Part) (ports : List Debtor) (rows : List PortRow) (i : ℕ) → Ticks parts ports rows i → i + n ≤ length rows0
        → ((j : ℕ) → i ≤ j → j < i + n → Quiet j) → (now : List PortRow) × Ticks parts ports now (i + n)
    quiet_run zero parts ports rows i t l quiet = let same : i ≡ i + 0 = omega arith in (rows, subst (Ticks parts ports rows) same t)
    quiet_run (suc n) parts ports rows i t l quiet =
        let own = quiet i (omega arith) (omega arith) in
        let turn = quiet_turn width parts ports i (get_or rows0 i no_row) (t.later i (omega arith) ∙ own.0) own.1 in
        let answered = row_after (bus width (map child_of parts)) (owed_by parts (get_or ports i Nobody)) (get_or rows i no_row) in
        let on : Ticks parts ports (set rows i answered) (i + 1) =
        next width holders parts0 ports0 rows0 parts ports rows i t can (omega (arith, l)) owed.fits parts ports turn answered refl in
        let more = quiet_run n parts ports (set rows i answered) (i + 1) on (omega (arith, l)) (λ j a b. quiet j (omega arith) (omega arith)) in
        let same : i + 1 + n ≡ i + suc n = omega arith in
        (more.0, subst (Ticks parts ports more.0) same more.1)

    module _ (m : ℕ) (row : PortRow) (own : slice_get rows0 m ≡ Some row)
        (asks : (n : ℕ) (other : PortRow) → n ≢ m → slice_get rows0 n ≡ Some other → asked other ≡ None)
        (nothing : (n : ℕ) (o : List Owed) → n ≢ m → slice_get x.owed n ≡ Some o → o ≡ []) where
      in_rows : m < length rows0
      in_rows = slice_get_within rows0 m row own

      same_row : get_or rows0 m no_row ≡ row
      same_row = get_or_from_slice_get rows0 m row no_row own

      count : length rows0 ≡ length ports0
      count = can.ports ∙ length-map ports0 (owed_by parts0)

      pub in_ports : m < length ports0
      in_ports = let l = in_rows in omega (arith, l, count)

      quiet_port : (j : ℕ) → j ≢ m → j < length rows0 → Quiet j
      quiet_port j d l =
          let at : slice_get ports0 j ≡ Some (get_or ports0 j Nobody) = slice_get-get_or ports0 j Nobody (omega (arith, l, count)) in
          let by : slice_get x.owed j ≡ Some (owed_by parts0 (get_or ports0 j Nobody)) = slice_get-map (owed_by parts0) ports0 j ∙ ap (option_map (owed_by parts0)) at in
          (nobody_by j (get_or ports0 j Nobody) at (nothing j _ d by), asks j (get_or rows0 j no_row) d (slice_get-get_or rows0 j no_row l))

      before : (rows : List PortRow) × Ticks parts0 ports0 rows m
      before =
          let h = in_rows in
          let run = quiet_run m parts0 ports0 rows0 0 (begins width holders parts0 ports0 rows0 owed can) (omega (arith, h)) (λ j a b. quiet_port j (λ e. omega (arith, b, e)) (omega (arith, b, h))) in
          let same : 0 + m ≡ m = omega arith in
          (run.0, subst (Ticks parts0 ports0 run.0) same run.1)

      pub can_alone : CanTurn width parts0 (get_or ports0 m Nobody) row
      can_alone =
          subst (CanTurn width parts0 (get_or ports0 m Nobody)) same_row (can_turn width holders parts0 ports0 rows0 parts0 ports0 before.0 m before.1 can in_rows owed.fits)

      pub alone_ticked : (parts : List Part) (ports : List Debtor) → IsTurn width parts0 parts ports0 ports m row → (rows : List PortRow) × Ticks parts ports rows (length rows0)
      alone_ticked parts ports turn =
          let h = in_rows in
          let the_turn = subst (IsTurn width parts0 parts ports0 ports m) (sym same_row) turn in
          let answered = row_after (bus width (map child_of parts0)) (owed_by parts0 (get_or ports0 m Nobody)) (get_or before.0 m no_row) in
          let on = next width holders parts0 ports0 rows0 parts0 ports0 before.0 m before.1 can h owed.fits parts ports the_turn answered refl in
          let n = length rows0 - (m + 1) in
          let run = quiet_run n parts ports (set before.0 m answered) (m + 1) on (omega (arith, h)) (λ j a b. quiet_port j (λ e. omega (arith, a, e)) (omega (arith, b, h))) in
          let same : m + 1 + n ≡ length rows0 = omega (arith, h) in
          (run.0, subst (Ticks parts ports run.0) same run.1)
