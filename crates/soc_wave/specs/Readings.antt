-- What the rules of a wave say, clock by clock.
use Rattle.std.specs.Prelude.{◌≡◌, ◌↔◌, ℕ, ◌+◌, ◌<◌, true, List, [], take, length, slice_get, Some}
use Rattle.soc_core.specs.Fabric.{Fabric}
use Rattle.wb_signals.specs.declared.port_row.PortRow.{PortRow}
use Rattle.wb_signals.specs.Wave.{WaveRowState}
use Rattle.wb_signals.specs.Rows.{request_in}
use Rattle.soc_wave.specs.Rows.{port_in, column, has_passed, has_answer}
use Rattle.soc_desc.specs.declared.description.Description.{Description}
use Rattle.wb_signals.specs.Request.{Request}
use Rattle.soc_machine.specs.Described.{described_wiring}
use Rattle.soc_core.specs.Built.{fabric_of}
use Rattle.soc_wave.specs.Requests.{queue_of}
use Rattle.soc_wave.specs.Legal.{InEachClock, IsAnswered}

-- What holds in each clock holds at each clock number t, of the t rows before it and its row.
abbrev pub ClockByNumber : (List WaveRowState → WaveRowState → Type 0) → List WaveRowState → Type 0
ClockByNumber P rows = InEachClock P [] rows ↔ ((t : ℕ) (row : WaveRowState) → slice_get rows t ≡ Some row → P (take t rows) row)

-- A request passed in clock u whose answer is due in clock t: its own clock, one more, and the path wait.
pub record IsDueIn (f : Fabric) (before : List PortRow) (t : ℕ) : Type 0 where
  pub clock : ℕ
  pub row : PortRow
  pub stood : slice_get before clock ≡ Some row
  pub passed : has_passed row ≡ true
  pub due : clock + 1 + f.wiring.wait (queue_of f (request_in row)) ≡ t

-- An answer stands exactly where such a request passed.
abbrev pub AnsweredWhereDue : Type 0
AnsweredWhereDue = (f : Fabric) (before : List PortRow) (p : PortRow) → IsAnswered f before p → (has_answer p ≡ true) ↔ IsDueIn f before (length before)

-- So each answer of a wave stands exactly where it is due, read clock by clock or at each clock number.
abbrev pub AnsweredByNumber : Type 0
AnsweredByNumber = (f : Fabric) (rows : List WaveRowState) → ClockByNumber (λ before row. (m : ℕ) → m < f.ports → IsAnswered f (column m before) (port_in m row)) rows

-- On the bus of a description each device and each miss is its own queue.
abbrev pub QueueIsPlace : Type 0
QueueIsPlace = (d : Description) (r : Request) → queue_of (fabric_of d) r ≡ ((described_wiring d).route r).place
