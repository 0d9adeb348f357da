-- The clauses of a legal wave as tests, so that worked waves are computed.
use Rattle.std.specs.Prelude.{ℕ, zero, suc, ◌==◌, ◌^◌, ◌&&◌, not, nat_lt, Bool, true, false, List, [], ◌∷◌, ◌++◌, length, Option, Some, None, bit_and}
use Rattle.std.specs.Int.{bit_at}
use Rattle.std.specs.List.{list_any}
use Rattle.wb_signals.specs.Request.{Request}
use Rattle.wb_signals.specs.declared.port_row.PortRow.{PortRow}
use Rattle.wb_signals.specs.Rows.{request_in}
use Rattle.wb_signals.specs.Wave.{WaveRowState}
use Rattle.wb_crossbar.specs.Grant.{Turn, port_at, port_after}
use Rattle.soc_core.specs.Fabric.{Fabric}
use Rattle.soc_wave.specs.Rows.{port_in, holder_in, column, has_passed, is_held_up, has_answer}
use Rattle.soc_wave.specs.Arbitration.{Arbitration, Granting, course_at, with_cycs, awaited_set, all_held, turn_in, arbitrated, holding_from}
use Rattle.soc_wave.specs.Requests.{passed_in, waiting_in, waiting_count, answer_clock, queue_of, stalled_by}

-- ---- words
abbrev pub implies : Bool → Bool → Bool
implies true b = b
implies false b = true

abbrev pub agree : Bool → Bool → Bool
agree true b = b
agree false b = not b

abbrev pub same_request : Request → Request → Bool
same_request a b = agree a.write b.write && (a.adr == b.adr && (a.dat == b.dat && a.sel == b.sel))

-- what each number below n passes
abbrev pub all_below : (ℕ → Bool) → ℕ → Bool
all_below test zero = true
all_below test (suc n) = test n && all_below test n

-- what each clock passes, given the rows before it
abbrev pub each_passes : (List WaveRowState → WaveRowState → Bool) → List WaveRowState → List WaveRowState → Bool
each_passes test before [] = true
each_passes test before (row ∷ rows) = test before row && each_passes test (before ++ row ∷ []) rows

-- what each port passes in each clock, given its rows before
abbrev pub ports_pass : Fabric → (List PortRow → PortRow → Bool) → List WaveRowState → Bool
ports_pass f test rows = each_passes (λ before row. all_below (λ m. test (column m before) (port_in m row)) f.ports) [] rows

-- ---- the clauses of one row, or of one port in a row

-- a row with a line for each port and each top slave
abbrev pub is_whole : Fabric → WaveRowState → Bool
is_whole f row = (length row.ports == f.ports) && (length row.holders == f.slaves)

-- the lines of a port without STB are zero
abbrev pub quiet : PortRow → Bool
quiet p = not p.we && (p.adr == 0 && (p.dat == 0 && (p.sel == 0 && not p.stall)))

-- STB only with CYC, and zero lines where nothing stands
abbrev pub is_plain : PortRow → Bool
is_plain p = implies p.stb p.cyc && (implies (not p.stb) (quiet p) && implies (not p.ack) (p.read == 0))

-- an answer where one is due, and one alone
abbrev pub answers_due : Fabric → List PortRow → PortRow → Bool
answers_due f before p =
    agree (has_answer p) (list_any (λ r. answer_clock f r == length before) (passed_in before))
    && (implies p.ack (not p.err && not p.rty) && implies p.err (not p.rty))

-- fewer unanswered than the depth under STB, and CYC while one is
abbrev pub depth_kept : Fabric → List PortRow → PortRow → Bool
depth_kept f before p = implies p.stb (nat_lt (waiting_count before) f.depth) && implies (not (waiting_count before == 0)) p.cyc

-- STALL where it is due
abbrev pub stalls_due : Fabric → List PortRow → PortRow → Bool
stalls_due f before p = agree p.stall (p.stb && stalled_by f (length before) (queue_of f (request_in p)) (waiting_in f before))

-- a stalled request as it stood in the row before
abbrev pub keeps : PortRow → PortRow → Bool
keeps old p = implies (is_held_up old) (p.cyc && (p.stb && same_request (request_in p) (request_in old)))

-- the number m
abbrev pub is_number : ℕ → Option ℕ → Bool
is_number m None = false
is_number m (Some x) = x == m

-- a top slave that a port holds, which has CYC, and stays while it has
abbrev pub slave_held : ℕ → WaveRowState → WaveRowState → ℕ → Bool
slave_held m old row i =
    implies (is_number m (holder_in i row)) (port_in m row).cyc
    && implies (is_number m (holder_in i old) && (port_in m row).cyc) (is_number m (holder_in i row))

-- the top slave of a request that passed
abbrev pub slave_reached : ℕ → WaveRowState → Bool → Option ℕ → Bool
slave_reached m row passed None = true
slave_reached m row passed (Some i) = implies passed (is_number m (holder_in i row))

-- all top slaves, as one port holds them
abbrev pub holds_slaves : Fabric → WaveRowState → WaveRowState → ℕ → Bool
holds_slaves f old row m =
    all_below (slave_held m old row) f.slaves && slave_reached m row (has_passed (port_in m row)) (f.top (request_in (port_in m row)))

-- ---- the grants

-- a set that has nothing in common with that of a port that is granted
abbrev pub set_apart_from : ℕ → Bool → Option ℕ → Bool
set_apart_from set granted None = true
set_apart_from set granted (Some other) = implies granted (bit_and other set == 0)

abbrev pub place_apart : Turn → (ℕ → Option ℕ) → ℕ → ℕ → ℕ → Bool
place_apart turn wants grant set j = set_apart_from set (bit_at grant (port_at turn j) == 1) (wants (port_at turn j))

-- a set that is free for the port that is looked at after i others
abbrev pub set_free : Turn → (ℕ → Option ℕ) → ℕ → ℕ → ℕ → ℕ → Bool
set_free turn wants held grant i set = (bit_and held set == 0) && all_below (place_apart turn wants grant set) i

abbrev pub decided_for : Turn → (ℕ → Option ℕ) → ℕ → ℕ → ℕ → Option ℕ → Bool
decided_for turn wants held grant i None = bit_at grant (port_at turn i) == 0
decided_for turn wants held grant i (Some set) = agree (bit_at grant (port_at turn i) == 1) (set_free turn wants held grant i set)

abbrev pub port_decided : Turn → (ℕ → Option ℕ) → ℕ → ℕ → ℕ → Bool
port_decided turn wants held grant i = decided_for turn wants held grant i (wants (port_at turn i))

-- the grant of a clock
abbrev pub grant_right : Turn → (ℕ → Option ℕ) → ℕ → ℕ → Bool
grant_right turn wants held grant = all_below (port_decided turn wants held grant) turn.ports && nat_lt grant (2 ^ turn.ports)

-- the port that is looked at after j others isn't granted
abbrev pub not_granted : Turn → ℕ → ℕ → Bool
not_granted turn grant j = bit_at grant (port_at turn j) == 0

-- nor any behind the one after i others
abbrev pub not_granted_after : Turn → ℕ → ℕ → ℕ → Bool
not_granted_after turn grant i j = implies (nat_lt i j) (not_granted turn grant j)

abbrev pub granted_last : Turn → ℕ → ℕ → Bool
granted_last turn grant i = (bit_at grant (port_at turn i) == 1) && all_below (not_granted_after turn grant i) turn.ports

abbrev pub next_after : Turn → ℕ → ℕ → ℕ → Bool
next_after turn grant next i = implies (granted_last turn grant i) (next == port_after turn.ports (port_at turn i))

-- which port is looked at first in the next clock
abbrev pub next_right : Turn → ℕ → ℕ → Bool
next_right turn grant next =
    all_below (next_after turn grant next) turn.ports && (implies (all_below (not_granted turn grant) turn.ports) (next == turn.first) && nat_lt next turn.ports)

-- the holders that are shown
abbrev pub same_number : Option ℕ → Option ℕ → Bool
same_number None None = true
same_number None (Some b) = false
same_number (Some a) None = false
same_number (Some a) (Some b) = a == b

abbrev pub holder_shown : Arbitration → WaveRowState → ℕ → Bool
holder_shown a row slave = same_number (holder_in slave row) (holding_from 0 a.ports slave)

-- a clock of the arbitration, and all
abbrev pub arbitrated_right : Fabric → (ℕ → ℕ → ℕ) → Arbitration → Granting → WaveRowState → Bool
arbitrated_right f named a g row =
    grant_right (turn_in f a) (λ m. awaited_set (course_at (with_cycs named row 0 a.ports) m)) (all_held (with_cycs named row 0 a.ports)) g.ports
    && (next_right (turn_in f a) g.ports g.first && all_below (holder_shown (arbitrated named g row a) row) f.slaves)

abbrev pub all_arbitrated : Fabric → (ℕ → ℕ → ℕ) → Arbitration → List Granting → List WaveRowState → Bool
all_arbitrated f named a [] [] = true
all_arbitrated f named a [] (row ∷ rows) = false
all_arbitrated f named a (g ∷ grants) [] = false
all_arbitrated f named a (g ∷ grants) (row ∷ rows) = arbitrated_right f named a g row && all_arbitrated f named (arbitrated named g row a) grants rows
