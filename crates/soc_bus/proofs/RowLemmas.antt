-- Rows and ports, one after the other.
use Rattle.std.proofs.Common.{◌≡◌, ◌⊎◌, inl, inr, ℕ, suc, ◌+◌, ◌<◌, ◌≤◌, List, [], ◌∷◌, length, get_or, set, Bool, refl, ap, sym, ◌∙◌, arith, Some, subst}
use Rattle.std.proofs.lemmas.List.{get_or-set_same, get_or-set_other, length-set}
use Rattle.std.proofs.lemmas.Option.{get_or_from_slice_get, slice_get_within}
use Rattle.wb_signals.specs.Request.{Request, IsRequest}
use Rattle.wb_signals.specs.Rows.{asked}
use Rattle.wb_signals.specs.declared.port_row.PortRow.{PortRow}
use Rattle.wb_port.specs.Port.{PortState, driven, sampled}
use Rattle.soc_core.specs.Core.{CorePort as Cycle, resting_port}
use Rattle.soc_core.specs.Sound.{is_busy_phase}
use Rattle.soc_bus.specs.Clocked.{driving, driven_rows, is_sent, answer_got, sampled_all, AreOperations}
use Rattle.wb_crossbar.proofs.TickLemmas.{no_row}
use Rattle.wb_signals.proofs.TurnLemmas.{number_cases}

abbrev pub busy : List Cycle → ℕ → Bool
busy cycs m = is_busy_phase (get_or cycs m resting_port).phase

abbrev pub no_port : PortState
no_port = record { depth = 0; loaded = []; passed = 0; answers = [] }

pub record Driven (cycs : List Cycle) (ports : List PortState) (rows : List PortRow) (i : ℕ) : Type 0 where
  pub count : length rows ≡ length ports
  pub done : (m : ℕ) → m < i → get_or rows m no_row ≡ driving (busy cycs m) (driven (get_or ports m no_port))
  pub operations : (m : ℕ) → m < i → (r : Request) → asked (get_or rows m no_row) ≡ Some r → IsRequest r

one_more : (i m : ℕ) → m < i + 1 → (m ≡ i) ⊎ (m < i)
one_more i m h = elim (number_cases m i) [ inl e ↦ inl e | inr n ↦ inr (omega (arith, n, h)) ]

pub drives : (cycs : List Cycle) (ports : List PortState) (rows : List PortRow) (i : ℕ) (row : PortRow) → i < length rows → Driven cycs ports rows i
    → row ≡ driving (busy cycs i) (driven (get_or ports i no_port)) → ((r : Request) → asked row ≡ Some r → IsRequest r) → Driven cycs ports (set rows i row) (i + 1)
drives cycs ports rows i row l d e o = record {
  count = length-set rows i row ∙ d.count;
  done = λ m h. elim (one_more i m h) [
    | inl s ↦ subst (λ m. get_or (set rows i row) m no_row ≡ driving (busy cycs m) (driven (get_or ports m no_port))) (sym s) (get_or-set_same rows i row no_row l ∙ e)
    | inr b ↦ get_or-set_other rows i m row no_row (λ s. omega (arith, s, b)) ∙ d.done m b
  ];
  operations = λ m h. elim (one_more i m h) [
    | inl s ↦ subst (λ m. (r : Request) → asked (get_or (set rows i row) m no_row) ≡ Some r → IsRequest r) (sym s)
        (subst (λ row. (r : Request) → asked row ≡ Some r → IsRequest r) (sym (get_or-set_same rows i row no_row l)) o)
    | inr b ↦ subst (λ row. (r : Request) → asked row ≡ Some r → IsRequest r) (sym (get_or-set_other rows i m row no_row (λ s. omega (arith, s, b)))) (d.operations m b)
  ];
}

pub all_operations : (cycs : List Cycle) (ports : List PortState) (rows : List PortRow) (i : ℕ) → length rows ≤ i → Driven cycs ports rows i → AreOperations rows
all_operations cycs ports rows i l d m row e r a =
    let b = slice_get_within rows m row e in
    d.operations m (omega (arith, b, l)) r (ap asked (get_or_from_slice_get rows m row no_row e) ∙ a)

rows_are : (cycs : List Cycle) (ports : List PortState) (rows : List PortRow) → length cycs ≡ length ports → length rows ≡ length ports
    → ((m : ℕ) → m < length ports → get_or rows m no_row ≡ driving (busy cycs m) (driven (get_or ports m no_port))) → rows ≡ driven_rows cycs ports
rows_are cycs [] [] a b h = refl
rows_are cycs [] (x ∷ xs) a b h = absurd (omega (arith, b))
rows_are [] (p ∷ ports) rows a b h = absurd (omega (arith, a))
rows_are (c ∷ cycs) (p ∷ ports) [] a b h = absurd (omega (arith, b))
rows_are (c ∷ cycs) (p ∷ ports) (x ∷ xs) a b h =
    let first : x ≡ driving (is_busy_phase c.phase) (driven p) = h 0 (omega arith) in
    let more : xs ≡ driven_rows cycs ports = rows_are cycs ports xs (omega (arith, a)) (omega (arith, b)) (λ m l. h (suc m) (omega arith)) in
    cc

pub driven_all : (cycs : List Cycle) (ports : List PortState) (rows : List PortRow) (i : ℕ) → length cycs ≡ length ports → length rows ≤ i → Driven cycs ports rows i → rows ≡ driven_rows cycs ports
driven_all cycs ports rows i a l d = rows_are cycs ports rows a d.count (λ m h. d.done m (omega (arith, h, l, d.count)))

pub record Sampled (ports0 : List PortState) (rows : List PortRow) (ports : List PortState) (i : ℕ) : Type 0 where
  pub count : length ports ≡ length ports0
  pub done : (m : ℕ) → m < i → get_or ports m no_port ≡ sampled (get_or ports0 m no_port) (is_sent (get_or rows m no_row)) (answer_got (get_or rows m no_row))
  pub later : (m : ℕ) → i ≤ m → get_or ports m no_port ≡ get_or ports0 m no_port

pub samples : (ports0 : List PortState) (rows : List PortRow) (ports : List PortState) (i : ℕ) (p : PortState) → i < length ports → Sampled ports0 rows ports i
    → p ≡ sampled (get_or ports i no_port) (is_sent (get_or rows i no_row)) (answer_got (get_or rows i no_row)) → Sampled ports0 rows (set ports i p) (i + 1)
samples ports0 rows ports i p l d e = record {
  count = length-set ports i p ∙ d.count;
  done = λ m h. elim (one_more i m h) [
    | inl s ↦ subst (λ m. get_or (set ports i p) m no_port ≡ sampled (get_or ports0 m no_port) (is_sent (get_or rows m no_row)) (answer_got (get_or rows m no_row))) (sym s)
        (get_or-set_same ports i p no_port l ∙ e ∙ ap (λ q. sampled q (is_sent (get_or rows i no_row)) (answer_got (get_or rows i no_row))) (d.later i (omega arith)))
    | inr b ↦ get_or-set_other ports i m p no_port (λ s. omega (arith, s, b)) ∙ d.done m b
  ];
  later = λ m h. get_or-set_other ports i m p no_port (λ s. omega (arith, s, h)) ∙ d.later m (omega arith);
}

ports_are : (ports0 : List PortState) (rows : List PortRow) (ports : List PortState) → length rows ≡ length ports0 → length ports ≡ length ports0
    → ((m : ℕ) → m < length ports0 → get_or ports m no_port ≡ sampled (get_or ports0 m no_port) (is_sent (get_or rows m no_row)) (answer_got (get_or rows m no_row))) → ports ≡ sampled_all ports0 rows
ports_are [] rows [] a b h = refl
ports_are [] rows (x ∷ xs) a b h = absurd (omega (arith, b))
ports_are (p ∷ ports0) [] ports a b h = absurd (omega (arith, a))
ports_are (p ∷ ports0) (r ∷ rows) [] a b h = absurd (omega (arith, b))
ports_are (p ∷ ports0) (r ∷ rows) (x ∷ xs) a b h =
    let first : x ≡ sampled p (is_sent r) (answer_got r) = h 0 (omega arith) in
    let more : xs ≡ sampled_all ports0 rows = ports_are ports0 rows xs (omega (arith, a)) (omega (arith, b)) (λ m l. h (suc m) (omega arith)) in
    cc

pub sampled_ports : (ports0 : List PortState) (rows : List PortRow) (ports : List PortState) (i : ℕ) → length rows ≡ length ports0 → length ports ≤ i → Sampled ports0 rows ports i → ports ≡ sampled_all ports0 rows
sampled_ports ports0 rows ports i a l d = ports_are ports0 rows ports a d.count (λ m h. d.done m (omega (arith, h, l, d.count)))
