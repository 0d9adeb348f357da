-- The text of a wave.
use Rattle.std.specs.Prelude.{ℕ, suc, Bool, if◌then◌else◌, List, [], ◌∷◌, ◌++◌, codes, decimal, Option, Some, None}
use Rattle.eb_io.specs.Text.{line, digits_16, digits_2}
use Rattle.wb_signals.specs.declared.port_row.PortRow.{PortRow}
use Rattle.wb_signals.specs.Wave.{WaveRowState}

-- a truth value, behind a space
abbrev pub bit_text : Bool → List ℕ
bit_text b = if b then codes " 1" else codes " 0"

-- a number in 16 digits, behind a space
abbrev pub word_text : ℕ → List ℕ
word_text n = codes " " ++ digits_16 n

-- a port in a clock: CLOCK and PORT, CYC, STB, WE and STALL, ADR, SEL and DAT, ACK, ERR and RTY, READ
abbrev pub port_line : ℕ → ℕ → PortRow → List ℕ
port_line clock m p = line (decimal clock ++ codes " " ++ decimal m
    ++ bit_text p.cyc ++ bit_text p.stb ++ bit_text p.we ++ bit_text p.stall
    ++ word_text p.adr ++ codes " " ++ digits_2 p.sel ++ word_text p.dat
    ++ bit_text p.ack ++ bit_text p.err ++ bit_text p.rty ++ word_text p.read)

-- the ports from the one with number m on
abbrev pub port_lines : ℕ → ℕ → List PortRow → List ℕ
port_lines clock m [] = []
port_lines clock m (p ∷ ports) = port_line clock m p ++ port_lines clock (suc m) ports

-- the port that holds a top slave, or `-`
abbrev pub holder_text : Option ℕ → List ℕ
holder_text None = codes " -"
holder_text (Some m) = codes " " ++ decimal m

abbrev pub holder_texts : List (Option ℕ) → List ℕ
holder_texts [] = []
holder_texts (holder ∷ holders) = holder_text holder ++ holder_texts holders

-- who holds each top slave
abbrev pub holder_line : ℕ → List (Option ℕ) → List ℕ
holder_line clock holders = line (decimal clock ++ codes " h" ++ holder_texts holders)

abbrev pub row_text : ℕ → WaveRowState → List ℕ
row_text clock row = port_lines clock 0 row.ports ++ holder_line clock row.holders

-- the rows from the one of this clock on
abbrev pub rows_text : ℕ → List WaveRowState → List ℕ
rows_text clock [] = []
rows_text clock (row ∷ rows) = row_text clock row ++ rows_text (suc clock) rows

-- the whole text
abbrev pub wave_text : List WaveRowState → List ℕ
wave_text rows = line (codes "wave") ++ rows_text 0 rows
