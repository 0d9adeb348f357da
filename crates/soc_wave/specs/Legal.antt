-- Which rows are a wave of a bus.
use Rattle.std.specs.Prelude.{◌≡◌, ◌≢◌, ℕ, ◌==◌, ◌<◌, ◌&&◌, true, false, List, [], ◌∷◌, ◌++◌, length, Some}
use Rattle.std.specs.List.{list_any}
use Rattle.soc_core.specs.Fabric.{Fabric}
use Rattle.wb_signals.specs.declared.port_row.PortRow.{PortRow}
use Rattle.wb_signals.specs.Wave.{WaveRowState}
use Rattle.wb_signals.specs.Rows.{request_in}
use Rattle.soc_wave.specs.Rows.{port_in, holder_in, column, last_port, last_row, has_passed, is_held_up, has_answer}
use Rattle.soc_wave.specs.Requests.{passed_in, waiting_in, waiting_count, answer_clock, queue_of, stalled_by}
use Rattle.soc_wave.specs.Arbitration.{Granting, no_arbitration, AreArbitrated}

-- What holds of each clock, given the rows before it.
abbrev pub InEachClock : (List WaveRowState → WaveRowState → Type 0) → List WaveRowState → List WaveRowState → Type 0
InEachClock Each before [] = Unit {0}
InEachClock Each before (row ∷ rows) = Each before row × InEachClock Each (before ++ row ∷ []) rows

-- What holds in each clock, on each port.
abbrev pub OnEachPort : Fabric → (List PortRow → PortRow → Type 0) → List WaveRowState → Type 0
OnEachPort f Each rows = InEachClock (λ before row. (m : ℕ) → m < f.ports → Each (column m before) (port_in m row)) [] rows

-- STB stands only with CYC. Without STB the lines of a request are zero, and without ACK the word is.
pub record HasPlainFields (p : PortRow) : Type 0 where
  pub strobe : p.stb ≡ true → p.cyc ≡ true
  pub write : p.stb ≡ false → p.we ≡ false
  pub adr : p.stb ≡ false → p.adr ≡ 0
  pub dat : p.stb ≡ false → p.dat ≡ 0
  pub sel : p.stb ≡ false → p.sel ≡ 0
  pub stall : p.stb ≡ false → p.stall ≡ false
  pub read : p.ack ≡ false → p.read ≡ 0

-- An answer stands exactly where a request passed whose answer is due in this clock. It is one of ACK, ERR and RTY.
pub record IsAnswered (f : Fabric) (before : List PortRow) (p : PortRow) : Type 0 where
  pub due : has_answer p ≡ list_any (λ r. answer_clock f r == length before) (passed_in before)
  pub ack_alone : p.ack ≡ true → (p.err ≡ false) × (p.rty ≡ false)
  pub err_alone : p.err ≡ true → p.rty ≡ false

-- STB stands only where fewer requests are unanswered than the depth. CYC stands while one is unanswered.
pub record IsWithinDepth (f : Fabric) (before : List PortRow) (p : PortRow) : Type 0 where
  pub below : p.stb ≡ true → waiting_count before < f.depth
  pub stands : waiting_count before ≢ 0 → p.cyc ≡ true

-- STALL stands exactly where STB does, and an unanswered request goes to another queue, or the queue is of a device that
-- stalls while it waits and has an unanswered request whose answer isn't in this clock. On the bus of a description each
-- device and each miss is its own queue.
abbrev pub IsStalledAsDue : Fabric → List PortRow → PortRow → Type 0
IsStalledAsDue f before p = p.stall ≡ (p.stb && stalled_by f (length before) (queue_of f (request_in p)) (waiting_in f before))

-- A stalled request stands unchanged in the next clock.
abbrev pub IsKept : PortRow → PortRow → Type 0
IsKept old p = is_held_up old ≡ true → (p.cyc ≡ true) × (p.stb ≡ true) × (request_in p ≡ request_in old)

-- The CYC of a holder stands. A holder stays while its CYC stands. A passed request's top slave is held by its port, or
-- there is none.
pub record HoldsSlaves (f : Fabric) (m : ℕ) (old row : WaveRowState) : Type 0 where
  pub stands : (i : ℕ) → i < f.slaves → holder_in i row ≡ Some m → (port_in m row).cyc ≡ true
  pub stays : (i : ℕ) → i < f.slaves → holder_in i old ≡ Some m → (port_in m row).cyc ≡ true → holder_in i row ≡ Some m
  pub reaches : (i : ℕ) → has_passed (port_in m row) ≡ true → f.top (request_in (port_in m row)) ≡ Some i → holder_in i row ≡ Some m

-- A row has a line for each port and for each top slave.
pub record IsWholeRow (f : Fabric) (row : WaveRowState) : Type 0 where
  pub ports : length row.ports ≡ f.ports
  pub holders : length row.holders ≡ f.slaves

-- Rows that are a wave, with the set named for each rise of CYC on each port, and the grants of each clock.
pub record IsLegalWave (f : Fabric) (named : ℕ → ℕ → ℕ) (grants : List Granting) (rows : List WaveRowState) : Type 0 where
  pub whole : InEachClock (λ before row. IsWholeRow f row) [] rows
  pub fields : OnEachPort f (λ before p. HasPlainFields p) rows
  pub answers : OnEachPort f (IsAnswered f) rows
  pub depth : OnEachPort f (IsWithinDepth f) rows
  pub stalls : OnEachPort f (IsStalledAsDue f) rows
  pub kept : OnEachPort f (λ before p. IsKept (last_port before) p) rows
  pub holders : InEachClock (λ before row. (m : ℕ) → m < f.ports → HoldsSlaves f m (last_row before) row) [] rows
  pub granted : AreArbitrated f named (no_arbitration f) grants rows
