-- The rows of a bus, one a clock.
use Rattle.std.specs.Prelude.{ℕ, ◌&&◌, ◌||◌, not, Bool, false, List, [], map, slice_index_or, fold, Option, None}
use Rattle.wb_signals.specs.declared.port_row.PortRow.{PortRow}
use Rattle.wb_signals.specs.Wave.{WaveRowState}

-- a port on which nothing stands
abbrev pub no_port : PortRow
no_port = record { cyc = false; stb = false; we = false; adr = 0; dat = 0; sel = 0; stall = false; ack = false; err = false; rty = false; read = 0 }

-- the row before the first
abbrev pub no_row : WaveRowState
no_row = record { ports = []; holders = [] }

abbrev pub port_in : ℕ → WaveRowState → PortRow
port_in m row = slice_index_or row.ports m no_port

abbrev pub holder_in : ℕ → WaveRowState → Option ℕ
holder_in i row = slice_index_or row.holders i None

-- what stood on a port, clock by clock
abbrev pub column : ℕ → List WaveRowState → List PortRow
column m rows = map (port_in m) rows

-- the last of some rows
abbrev pub last_port : List PortRow → PortRow
last_port ps = fold (λ old p. p) no_port ps

abbrev pub last_row : List WaveRowState → WaveRowState
last_row rows = fold (λ old row. row) no_row rows

-- a request passes
abbrev pub has_passed : PortRow → Bool
has_passed p = p.cyc && (p.stb && not p.stall)

-- a request is stalled
abbrev pub is_held_up : PortRow → Bool
is_held_up p = p.cyc && (p.stb && p.stall)

-- an answer stands
abbrev pub has_answer : PortRow → Bool
has_answer p = p.ack || (p.err || p.rty)
