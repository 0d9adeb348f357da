-- One clock of the ports of a bus: what they drive, and what they make of the slaves' answers.
use Rattle.std.specs.Prelude.{◌≡◌, ◌≤◌, ◌<◌, ◌==◌, ℕ, Bool, true, false, if◌then◌else◌, ◌&&◌, not, List, [], ◌∷◌, length, map, take, drop, slice_get, slice_index_or, Option, Some, None, All}
use Rattle.std.specs.Int.{bit_at}
use Rattle.wb_signals.specs.Request.{Request, IsRequest}
use Rattle.wb_signals.specs.Cycles.{FitsBus}
use Rattle.wb_signals.specs.Slave.{Owed, queue_to}
use Rattle.wb_signals.specs.Parts.{child_at}
use Rattle.wb_signals.specs.Rows.{asked}
use Rattle.wb_signals.specs.declared.answer.Answer.{Answer}
use Rattle.wb_signals.specs.declared.answer.Answer.TheVariants.{Ack, Err, Rty}
use Rattle.wb_signals.specs.declared.port_row.PortRow.{PortRow}
use Rattle.wb_crossbar.specs.Crossbar.{CrossbarState, wiring_of, IsHeldBy}
use Rattle.wb_port.specs.Port as engine
use Rattle.wb_port.specs.Port.{driven, sampled}
use Rattle.soc_core.specs.Core.{CorePort}
use Rattle.soc_core.specs.Sound.{is_busy_phase}

-- The row of a port that drives this operation, or none, in a cycle or not.
abbrev pub driving : Bool → Option Request → PortRow
driving cyc None = record { cyc = cyc; stb = false; we = false; adr = 0; dat = 0; sel = 0; stall = false; ack = false; err = false; rty = false; read = 0 }
driving cyc (Some r) = record { cyc = cyc; stb = true; we = r.write; adr = r.adr; dat = r.dat; sel = r.sel; stall = false; ack = false; err = false; rty = false; read = 0 }

-- Each port's CYC stands where its cycle asks for slaves or holds them.
abbrev pub driven_rows : List CorePort → List engine.PortState → List PortRow
driven_rows cycles [] = []
driven_rows [] (p ∷ ports) = []
driven_rows (c ∷ cycles) (p ∷ ports) = driving (is_busy_phase c.phase) (driven p) ∷ driven_rows cycles ports

-- What a row says of its request, and its answer.
abbrev pub is_sent : PortRow → Bool
is_sent row = row.stb && not row.stall

abbrev pub answer_got : PortRow → Option Answer
answer_got row =
    if row.ack
    then Some (Ack row.read)
    else (if row.err then Some Err else (if row.rty then Some Rty else None))

abbrev pub sampled_all : List engine.PortState → List PortRow → List engine.PortState
sampled_all [] rows = []
sampled_all (p ∷ ports) [] = []
sampled_all (p ∷ ports) (row ∷ rows) = sampled p (is_sent row) (answer_got row) ∷ sampled_all ports rows

-- Who holds each slave where a port holds these also.
abbrev pub IsHeldAlso : ℕ → ℕ → List (Option ℕ) → List (Option ℕ) → Type 0
IsHeldAlso set m old new = (k : ℕ) → k < length old → slice_index_or new k None ≡ (if bit_at set k == 1 then Some m else slice_index_or old k None)

-- ---- the condition of a clock

-- A port's requests that have passed and have no answer, in order.
abbrev pub waiting : engine.PortState → List Request
waiting p = drop (length p.answers) (take p.passed p.loaded)

abbrev pub place_of : Owed → ℕ
place_of o = o.place

-- What a port is owed are the answers to its requests that wait; what it has loaded are operations of the bus whose top
-- slaves it holds.
pub record IsServed (x : CrossbarState) (holders : List (Option ℕ)) (m : ℕ) (p : engine.PortState) (owed : List Owed) : Type 0 where
  pub passed : p.passed ≤ length p.loaded
  pub answered : length p.answers ≤ p.passed
  pub places : map place_of owed ≡ map (queue_to (wiring_of x)) (waiting p)
  pub fits : All (FitsBus x.width) p.loaded
  pub held : All (λ r. IsHeldBy x.children holders m (child_at x.children r.adr)) p.loaded

pub record AreServed (x : CrossbarState) (holders : List (Option ℕ)) (ports : List engine.PortState) : Type 0 where
  pub count : length ports ≡ length x.owed
  pub slaves : length holders ≡ length x.children
  pub each : (m : ℕ) (p : engine.PortState) (owed : List Owed) → slice_get ports m ≡ Some p → slice_get x.owed m ≡ Some owed → IsServed x holders m p owed

-- What the rows request are operations.
abbrev pub AreOperations : List PortRow → Type 0
AreOperations rows = (m : ℕ) (row : PortRow) → slice_get rows m ≡ Some row → (r : Request) → asked row ≡ Some r → IsRequest r
