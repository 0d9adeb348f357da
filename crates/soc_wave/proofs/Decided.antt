-- The tests of a legal wave's clauses are sound, so that worked waves are computed.
use Rattle.std.proofs.Common.{◌≡◌, ◌≢◌, ℕ, zero, suc, ◌<◌, ◌==◌, ◌&&◌, not, nat_lt, Bool, true, false, List, [], ◌∷◌, ◌++◌, length, inl, inr, Option, Some, None, refl, sym, ap, ◌∙◌, subst, arith}
use Rattle.std.specs.List.{list_any}
use Rattle.std.proofs.lemmas.Bool.{cases_eq, eqb-true, ltb-true}
use Rattle.wb_signals.specs.Request.{Request}
use Rattle.wb_signals.specs.declared.port_row.PortRow.{PortRow}
use Rattle.wb_signals.specs.Rows.{request_in}
use Rattle.wb_signals.specs.Wave.{WaveRowState}
use Rattle.soc_core.specs.Fabric.{Fabric}
use Rattle.soc_wave.specs.Rows.{port_in, holder_in, column, last_port, last_row, has_passed, is_held_up, has_answer}
use Rattle.soc_wave.specs.Requests.{passed_in, waiting_in, waiting_count, answer_clock, queue_of, stalled_by}
use Rattle.soc_wave.specs.Legal.{InEachClock, OnEachPort, HasPlainFields, IsAnswered, IsWithinDepth, IsStalledAsDue, IsKept, HoldsSlaves, IsWholeRow}
use Rattle.soc_wave.specs.Tests.{implies, agree, same_request, all_below, each_passes, ports_pass, is_whole, quiet, is_plain, answers_due, depth_kept, stalls_due, keeps, is_number, slave_held, slave_reached, holds_slaves}
use Rattle.soc_wave.proofs.PortRows.{false_true}

-- ---- words

pub implied : (a b : Bool) → implies a b ≡ true → a ≡ true → b ≡ true
implied true b h is = h
implied false b h is = absurd (false_true is)

pub both : (a b : Bool) → (a && b) ≡ true → (a ≡ true) × (b ≡ true)
both true b h = (refl, h)
both false b h = absurd (false_true h)

pub not_true : (b : Bool) → not b ≡ true → b ≡ false
not_true true h = absurd (false_true h)
not_true false h = refl

pub agreed : (a b : Bool) → agree a b ≡ true → a ≡ b
agreed true b h = sym h
agreed false b h = sym (not_true b h)

not_zero : (n : ℕ) → n ≢ 0 → not (n == 0) ≡ true
not_zero n other = let e : (n == 0) ≡ false = grind arith in ap not e

pub requests_same : (a b : Request) → same_request a b ≡ true → a ≡ b
requests_same a b h =
    let one = both (agree a.write b.write) (a.adr == b.adr && (a.dat == b.dat && a.sel == b.sel)) h in
    let two = both (a.adr == b.adr) (a.dat == b.dat && a.sel == b.sel) one.1 in
    let three = both (a.dat == b.dat) (a.sel == b.sel) two.1 in
    let write = agreed a.write b.write one.0 in
    let adr = eqb-true a.adr b.adr two.0 in
    let dat = eqb-true a.dat b.dat three.0 in
    let sel = eqb-true a.sel b.sel three.1 in
    λ i. record { write = write i; adr = adr i; dat = dat i; sel = sel i }

-- ---- in each clock, and below a number

pub below_hold : (P : ℕ → Type 0) (test : ℕ → Bool) → ((m : ℕ) → test m ≡ true → P m) → (n : ℕ) → all_below test n ≡ true → (m : ℕ) → m < n → P m
below_hold P test sound zero h m lt = absurd (omega (arith, lt))
below_hold P test sound (suc n) h m lt =
    let parts = both (test n) (all_below test n) h in
    elim (cases_eq m n) [
      | inl last ↦ subst P (sym last) (sound n parts.0)
      | inr other ↦ below_hold P test sound n parts.1 m (omega (arith, lt, other))
    ]

pub each_clock : (P : List WaveRowState → WaveRowState → Type 0) (test : List WaveRowState → WaveRowState → Bool)
    → ((before : List WaveRowState) (row : WaveRowState) → test before row ≡ true → P before row)
    → (before rows : List WaveRowState) → each_passes test before rows ≡ true → InEachClock P before rows
each_clock P test sound before [] h = tt
each_clock P test sound before (row ∷ rows) h =
    let parts = both (test before row) (each_passes test (before ++ row ∷ []) rows) h in
    (sound before row parts.0, each_clock P test sound (before ++ row ∷ []) rows parts.1)

-- of each port of a bus
pub each_port : (f : Fabric) (P : List PortRow → PortRow → Type 0) (test : List PortRow → PortRow → Bool)
    → ((before : List PortRow) (p : PortRow) → test before p ≡ true → P before p)
    → (rows : List WaveRowState) → each_passes (λ before row. all_below (λ m. test (column m before) (port_in m row)) f.ports) [] rows ≡ true → OnEachPort f P rows
each_port f P test sound rows h =
    each_clock (λ before row. (m : ℕ) → m < f.ports → P (column m before) (port_in m row)) (λ before row. all_below (λ m. test (column m before) (port_in m row)) f.ports)
    (λ before row passes. below_hold (λ m. P (column m before) (port_in m row)) (λ m. test (column m before) (port_in m row)) (λ m. sound (column m before) (port_in m row)) f.ports passes)
    [] rows h

-- ---- the clauses

pub whole_row : (f : Fabric) (row : WaveRowState) → is_whole f row ≡ true → IsWholeRow f row
whole_row f row h =
    let parts = both (length row.ports == f.ports) (length row.holders == f.slaves) h in
    record { ports = eqb-true _ _ parts.0; holders = eqb-true _ _ parts.1 }

pub plain_fields_by : (p : PortRow) → is_plain p ≡ true → HasPlainFields p
plain_fields_by p h =
    let one = both (implies p.stb p.cyc) (implies (not p.stb) (quiet p) && implies (not p.ack) (p.read == 0)) h in
    let two = both (implies (not p.stb) (quiet p)) (implies (not p.ack) (p.read == 0)) one.1 in
    let we = λ (s : p.stb ≡ false). both (not p.we) (p.adr == 0 && (p.dat == 0 && (p.sel == 0 && not p.stall))) (implied (not p.stb) (quiet p) two.0 (ap not s)) in
    let adr = λ (s : p.stb ≡ false). both (p.adr == 0) (p.dat == 0 && (p.sel == 0 && not p.stall)) (we s).1 in
    let dat = λ (s : p.stb ≡ false). both (p.dat == 0) (p.sel == 0 && not p.stall) (adr s).1 in
    let sel = λ (s : p.stb ≡ false). both (p.sel == 0) (not p.stall) (dat s).1 in
    record {
      strobe = implied p.stb p.cyc one.0;
      write = λ s. not_true p.we (we s).0;
      adr = λ s. eqb-true p.adr 0 (adr s).0;
      dat = λ s. eqb-true p.dat 0 (dat s).0;
      sel = λ s. eqb-true p.sel 0 (sel s).0;
      stall = λ s. not_true p.stall (sel s).1;
      read = λ s. eqb-true p.read 0 (implied (not p.ack) (p.read == 0) two.1 (ap not s));
    }

pub answered_by : (f : Fabric) (before : List PortRow) (p : PortRow) → answers_due f before p ≡ true → IsAnswered f before p
answered_by f before p h =
    let one = both (agree (has_answer p) (list_any (λ r. answer_clock f r == length before) (passed_in before))) (implies p.ack (not p.err && not p.rty) && implies p.err (not p.rty)) h in
    let two = both (implies p.ack (not p.err && not p.rty)) (implies p.err (not p.rty)) one.1 in
    record {
      due = agreed (has_answer p) (list_any (λ r. answer_clock f r == length before) (passed_in before)) one.0;
      ack_alone = λ s.
          let parts = both (not p.err) (not p.rty) (implied p.ack (not p.err && not p.rty) two.0 s) in
          (not_true p.err parts.0, not_true p.rty parts.1);
      err_alone = λ s. not_true p.rty (implied p.err (not p.rty) two.1 s);
    }

pub within_by : (f : Fabric) (before : List PortRow) (p : PortRow) → depth_kept f before p ≡ true → IsWithinDepth f before p
within_by f before p h =
    let parts = both (implies p.stb (nat_lt (waiting_count before) f.depth)) (implies (not (waiting_count before == 0)) p.cyc) h in
    record {
      below = λ s. ltb-true (waiting_count before) f.depth (implied p.stb (nat_lt (waiting_count before) f.depth) parts.0 s);
      stands = λ some. implied (not (waiting_count before == 0)) p.cyc parts.1 (not_zero (waiting_count before) some);
    }

pub stalled_as_due : (f : Fabric) (before : List PortRow) (p : PortRow) → stalls_due f before p ≡ true → IsStalledAsDue f before p
stalled_as_due f before p h = agreed p.stall (p.stb && stalled_by f (length before) (queue_of f (request_in p)) (waiting_in f before)) h

pub kept_by : (old p : PortRow) → keeps old p ≡ true → IsKept old p
kept_by old p h s =
    let one = both p.cyc (p.stb && same_request (request_in p) (request_in old)) (implied (is_held_up old) (p.cyc && (p.stb && same_request (request_in p) (request_in old))) h s) in
    let two = both p.stb (same_request (request_in p) (request_in old)) one.1 in
    (one.0, two.0, requests_same (request_in p) (request_in old) two.1)

number_is : (m : ℕ) (o : Option ℕ) → is_number m o ≡ true → o ≡ Some m
number_is m None h = absurd (false_true h)
number_is m (Some x) h = ap (λ (n : ℕ). Some n) (eqb-true x m h)

pub itself : (m : ℕ) → (m == m) ≡ true
itself m = grind arith

is_that : (m : ℕ) (o : Option ℕ) → o ≡ Some m → is_number m o ≡ true
is_that m o is = ap (is_number m) is ∙ itself m

pub join : (a b : Bool) → a ≡ true → b ≡ true → (a && b) ≡ true
join a b is also = ap (λ x. x && b) is ∙ also

-- one top slave
record HoldsOne (m : ℕ) (old row : WaveRowState) (i : ℕ) : Type 0 where
  stands : holder_in i row ≡ Some m → (port_in m row).cyc ≡ true
  stays : holder_in i old ≡ Some m → (port_in m row).cyc ≡ true → holder_in i row ≡ Some m

one_held : (m : ℕ) (old row : WaveRowState) (i : ℕ) → slave_held m old row i ≡ true → HoldsOne m old row i
one_held m old row i h =
    let now = is_number m (holder_in i row) in
    let cyc = (port_in m row).cyc in
    let was = is_number m (holder_in i old) in
    let parts = both (implies now cyc) (implies (was && cyc) now) h in
    record {
      stands = λ is. implied now cyc parts.0 (is_that m (holder_in i row) is);
      stays = λ is up. number_is m (holder_in i row) (implied (was && cyc) now parts.1 (join was cyc (is_that m (holder_in i old) is) up));
    }

pub holds_by : (f : Fabric) (old row : WaveRowState) (m : ℕ) → holds_slaves f old row m ≡ true → HoldsSlaves f m old row
holds_by f old row m h =
    let passed = has_passed (port_in m row) in
    let top = f.top (request_in (port_in m row)) in
    let parts = both (all_below (slave_held m old row) f.slaves) (slave_reached m row passed top) h in
    let each = below_hold (HoldsOne m old row) (slave_held m old row) (one_held m old row) f.slaves parts.0 in
    record {
      stands = λ i lt. (each i lt).stands;
      stays = λ i lt. (each i lt).stays;
      reaches = λ i goes is. number_is m (holder_in i row) (implied passed (is_number m (holder_in i row)) (sym (ap (slave_reached m row passed) is) ∙ parts.1) goes);
    }

-- ---- whole waves

pub wave_whole : (f : Fabric) (rows : List WaveRowState) → each_passes (λ before row. is_whole f row) [] rows ≡ true → InEachClock (λ before row. IsWholeRow f row) [] rows
wave_whole f rows h = each_clock (λ before row. IsWholeRow f row) (λ before row. is_whole f row) (λ before row. whole_row f row) [] rows h

pub wave_fields : (f : Fabric) (rows : List WaveRowState) → ports_pass f (λ before p. is_plain p) rows ≡ true → OnEachPort f (λ before p. HasPlainFields p) rows
wave_fields f rows h = each_port f (λ before p. HasPlainFields p) (λ before p. is_plain p) (λ before p. plain_fields_by p) rows h

pub wave_answers : (f : Fabric) (rows : List WaveRowState) → ports_pass f (answers_due f) rows ≡ true → OnEachPort f (IsAnswered f) rows
wave_answers f rows h = each_port f (IsAnswered f) (answers_due f) (answered_by f) rows h

pub wave_depth : (f : Fabric) (rows : List WaveRowState) → ports_pass f (depth_kept f) rows ≡ true → OnEachPort f (IsWithinDepth f) rows
wave_depth f rows h = each_port f (IsWithinDepth f) (depth_kept f) (within_by f) rows h

pub wave_stalls : (f : Fabric) (rows : List WaveRowState) → ports_pass f (stalls_due f) rows ≡ true → OnEachPort f (IsStalledAsDue f) rows
wave_stalls f rows h = each_port f (IsStalledAsDue f) (stalls_due f) (stalled_as_due f) rows h

pub wave_kept : (f : Fabric) (rows : List WaveRowState) → ports_pass f (λ before p. keeps (last_port before) p) rows ≡ true → OnEachPort f (λ before p. IsKept (last_port before) p) rows
wave_kept f rows h = each_port f (λ before p. IsKept (last_port before) p) (λ before p. keeps (last_port before) p) (λ before p. kept_by (last_port before) p) rows h

pub wave_holders : (f : Fabric) (rows : List WaveRowState) → each_passes (λ before row. all_below (holds_slaves f (last_row before) row) f.ports) [] rows ≡ true
    → InEachClock (λ before row. (m : ℕ) → m < f.ports → HoldsSlaves f m (last_row before) row) [] rows
wave_holders f rows h =
    each_clock (λ before row. (m : ℕ) → m < f.ports → HoldsSlaves f m (last_row before) row) (λ before row. all_below (holds_slaves f (last_row before) row) f.ports)
    (λ before row passes. below_hold (λ m. HoldsSlaves f m (last_row before) row) (holds_slaves f (last_row before) row) (holds_by f (last_row before) row) f.ports passes)
    [] rows h
