-- Which waves are those of a script.
use Rattle.std.specs.Prelude.{◌≡◌, ℕ, zero, suc, ◌+◌, ◌-◌, ◌<◌, ◌==◌, ◌&&◌, not, nat_le, nat_lt, Bool, true, false, List, [], ◌∷◌, ◌++◌, length, slice_get, Option, Some, None}
use Rattle.wb_signals.specs.Request.{Request}
use Rattle.wb_signals.specs.History.{IsLegal}
use Rattle.soc_core.specs.Fabric.{Fabric}
use Rattle.wb_signals.specs.declared.port_row.PortRow.{PortRow}
use Rattle.wb_signals.specs.Wave.{WaveRowState}
use Rattle.wb_signals.specs.Rows.{request_in}
use Rattle.soc_wave.specs.Rows.{no_port, port_in, column, last_port}
use Rattle.soc_wave.specs.Requests.{waiting_count}
use Rattle.soc_wave.specs.Arbitration.{Course, Off, Waiting, Holding, Granting, arbitration, course_at}
use Rattle.soc_wave.specs.Pairs.{exchange, rises_from, history}
use Rattle.soc_wave.specs.Legal.{InEachClock, IsLegalWave}
use Rattle.soc_script.specs.Script.{ScriptLine}
use Rattle.soc_script.specs.Cycles.{ScriptCycle, cycles_of, ops_of_lines}
use Rattle.soc_script_wave.specs.Sets.{sets_of, marks_of}

-- ---- what the rows before a clock say of a master's cycles

-- how many of them have begun
abbrev pub begun : List PortRow → ℕ
begun before = rises_from no_port before

-- the lines of the one that began last
abbrev pub lines_at : List ScriptCycle → ℕ → List ScriptLine
lines_at [] n = []
lines_at (c ∷ cycles) zero = c.lines
lines_at (c ∷ cycles) (suc n) = lines_at cycles n

-- ---- CYC

abbrev pub may_begin : ℕ → List ScriptLine → Bool
may_begin t [] = false
may_begin t (l ∷ lines) = nat_le l.clock t

-- Where CYC doesn't stand, it rises in the first clock from that of the next cycle's first line on.
abbrev pub RisesInTime : ℕ → List ScriptCycle → List PortRow → PortRow → Type 0
RisesInTime t cycles before p = (last_port before).cyc ≡ false → p.cyc ≡ may_begin t (lines_at cycles (begun before))

-- Where CYC stands, it falls in the clock after the cycle's last answer.
abbrev pub FallsInTime : List ScriptCycle → List PortRow → PortRow → Type 0
FallsInTime cycles before p =
    (last_port before).cyc ≡ true → p.cyc ≡ not (length (exchange before).answers == length (ops_of_lines (lines_at cycles (begun before - 1))))

-- ---- loads

abbrev pub loads_if : Bool → ℕ → ℕ → ℕ
loads_if true n more = more
loads_if false n more = n

-- A later line is loaded in the first clock from its own on after the last answer of the line before: of `lines`, given
-- that n operations stand before them and so many are answered.
abbrev pub later_loads : ℕ → ℕ → ℕ → List ScriptLine → ℕ
later_loads t answered n [] = n
later_loads t answered n (l ∷ lines) = loads_if (nat_le l.clock t && nat_le n answered) n (later_loads t answered (n + length l.ops) lines)

-- A first line is loaded in the clock after its grant.
abbrev pub first_load : Course → ℕ → ℕ → List ScriptLine → ℕ
first_load Off t answered lines = 0
first_load (Waiting set) t answered lines = 0
first_load (Holding set) t answered [] = 0
first_load (Holding set) t answered (l ∷ lines) = later_loads t answered (length l.ops) lines

-- ---- STB

abbrev pub some_if : {A : Type 0} → Bool → A → Option A
some_if true x = Some x
some_if false x = None

-- the request that stands on a port
abbrev pub request_on : PortRow → Option Request
request_on p = some_if p.stb (request_in p)

abbrev pub next_of : Bool → List Request → ℕ → Option Request
next_of false ops k = None
next_of true ops k = slice_get ops k

-- The cycle's next operation, if it is loaded and fewer requests are unanswered than the depth.
abbrev pub next_offer : Fabric → ℕ → List ScriptLine → Course → List PortRow → Option Request
next_offer f t lines course before =
    let k = length (exchange before).requests in
    let loads = first_load course t (length (exchange before).answers) lines in
    next_of (nat_lt k loads && nat_lt (waiting_count before) f.depth) (ops_of_lines lines) k

-- From its load on, STB stands with a line's next operation where fewer are unanswered than the depth, and at no other time.
abbrev pub OffersInTime : Fabric → ℕ → List ScriptCycle → Course → List PortRow → PortRow → Type 0
OffersInTime f t cycles course before p = request_on p ≡ next_offer f t (lines_at cycles (begun before - 1)) course before

-- ---- the end

abbrev pub is_done : List ScriptCycle → List PortRow → Bool
is_done cycles ps = not (last_port ps).cyc && (begun ps == length cycles)

abbrev pub all_done_from : ℕ → ℕ → List ScriptLine → List WaveRowState → Bool
all_done_from m zero script rows = true
all_done_from m (suc n) script rows = is_done (cycles_of m script) (column m rows) && all_done_from (suc m) n script rows

-- No CYC stands, and no line is left.
abbrev pub all_done : Fabric → List ScriptLine → List WaveRowState → Bool
all_done f script rows = all_done_from 0 f.ports script rows

-- The last row is the first in which all is done.
abbrev pub EndsWhere : (List WaveRowState → Bool) → List WaveRowState → List WaveRowState → Type 0
EndsWhere over before [] = ⊥
EndsWhere over before (row ∷ []) = over (before ++ row ∷ []) ≡ true
EndsWhere over before (row ∷ next ∷ rows) = (over (before ++ row ∷ []) ≡ false) × EndsWhere over (before ++ row ∷ []) (next ∷ rows)

-- ---- a wave of a script

-- What holds in each clock, of each master: m, the clock, its cycles, its course before the clock, its rows before, its row.
abbrev pub OnEachMaster : Fabric → List ScriptLine → List Granting → (ℕ → List ScriptCycle → Course → List PortRow → PortRow → Type 0) → List WaveRowState → Type 0
OnEachMaster f script grants Each rows = InEachClock (λ before row. (m : ℕ) → m < f.ports →
    Each (length before) (cycles_of m script) (course_at (arbitration f (sets_of f script) grants before).ports m) (column m before) (port_in m row)) [] rows

-- The rows are a wave for the sets of the script's cycles. CYC rises, lines are next_offer and CYC falls in time, and the wave
-- ends in time. Its history, with the marks of the script's cycles, is legal.
pub record IsWaveOf (f : Fabric) (script : List ScriptLine) (grants : List Granting) (rows : List WaveRowState) : Type 0 where
  pub legal : IsLegalWave f (sets_of f script) grants rows
  pub rises : OnEachMaster f script grants (λ t cycles course before p. RisesInTime t cycles before p) rows
  pub falls : OnEachMaster f script grants (λ t cycles course before p. FallsInTime cycles before p) rows
  pub offers : OnEachMaster f script grants (λ t cycles course before p. OffersInTime f t cycles course before p) rows
  pub ends : EndsWhere (all_done f script) [] rows
  pub history : IsLegal f.wiring f.built (history f.ports (marks_of script) rows)
