-- Two worked buses and three waves on them: two masters that write at once, two that meet at one device, and one whose
-- slow device comes before a fast one.
use Rattle.std.specs.Prelude.{ℕ, suc, if◌then◌else◌, Bool, true, false, List, [], ◌∷◌, Option, Some, None, replicate}
use Rattle.eb_base.specs.declared.width.Width.TheVariants.{W32}
use Rattle.wb_signals.specs.Bus.{Child, leaf, bus, covers}
use Rattle.wb_signals.specs.Content.{Nothing, Ram}
use Rattle.wb_signals.specs.declared.port_row.PortRow.{PortRow}
use Rattle.wb_signals.specs.Wave.{WaveRowState}
use Rattle.soc_core.specs.Fabric.{Fabric}
use Rattle.soc_wave.specs.Rows.{no_port}
use Rattle.soc_wave.specs.Arbitration.{Granting}

-- ---- the buses

-- the first child that covers an address, from the one with number n on
abbrev pub top_from : ℕ → List Child → ℕ → Option ℕ
top_from n [] adr = None
top_from n (child ∷ children) adr = if covers child adr then Some n else top_from (suc n) children adr

-- two RAMs and registers
abbrev pub two_children : List Child
two_children = record { first = 0; last = 4095; wiring = leaf W32 4096 0 false } ∷ record { first = 4096; last = 8191; wiring = leaf W32 4096 0 false } ∷ record { first = 32768; last = 32959; wiring = leaf W32 192 0 false } ∷ []

-- two masters, and devices that answer in the next clock
abbrev pub two : Fabric
two = record { wiring = bus W32 two_children; built = Ram (replicate 16 0) ∷ Ram (replicate 16 0) ∷ Nothing ∷ Nothing ∷ []; slaves = 3; top = λ r. top_from 0 two_children r.adr; slave_of = λ place. None; ports = 2; depth = 4; longest = 0 }

abbrev pub inner_children : List Child
inner_children = record { first = 0; last = 4095; wiring = leaf W32 4096 0 false } ∷ record { first = 32768; last = 32895; wiring = leaf W32 128 0 false } ∷ []

-- a RAM of seven wait states, a bus of a RAM and a block, and registers
abbrev pub deep_children : List Child
deep_children = record { first = 0; last = 4095; wiring = leaf W32 4096 7 false } ∷ record { first = 65536; last = 131071; wiring = bus W32 inner_children } ∷ record { first = 196608; last = 196799; wiring = leaf W32 192 0 false } ∷ []

-- one master, and devices of unlike waits
abbrev pub deep : Fabric
deep = record { wiring = bus W32 deep_children; built = Ram (replicate 24 0) ∷ Ram (replicate 16 0) ∷ Nothing ∷ Nothing ∷ Nothing ∷ Nothing ∷ []; slaves = 3; top = λ r. top_from 0 deep_children r.adr; slave_of = λ place. None; ports = 1; depth = 4; longest = 7 }

-- ---- the ports

-- CYC alone
abbrev pub standing : PortRow
standing = record { cyc = true; stb = false; we = false; adr = 0; dat = 0; sel = 0; stall = false; ack = false; err = false; rty = false; read = 0 }

-- a request that stands, with STALL or not, and an answer or none
abbrev pub asks : Bool → ℕ → ℕ → Bool → Bool → PortRow
asks we adr dat stall ack = record { cyc = true; stb = true; we = we; adr = adr; dat = dat; sel = 15; stall = stall; ack = ack; err = false; rty = false; read = 0 }

-- CYC, and an answer
abbrev pub acked : PortRow
acked = record standing { ack = true }

-- the ports that a clock grants, and which is looked at first in the next
abbrev pub grants : ℕ → ℕ → Granting
grants ports first = record { ports = ports; first = first }

-- ---- two masters write to RAMs of their own
abbrev pub parallel_0 : WaveRowState
parallel_0 = record { ports = standing ∷ standing ∷ []; holders = Some 0 ∷ Some 1 ∷ None ∷ [] }

abbrev pub parallel_1 : WaveRowState
parallel_1 = record { ports = asks true 0 286331153 false false ∷ asks true 4096 572662306 false false ∷ []; holders = Some 0 ∷ Some 1 ∷ None ∷ [] }

abbrev pub parallel_2 : WaveRowState
parallel_2 = record { ports = acked ∷ acked ∷ []; holders = Some 0 ∷ Some 1 ∷ None ∷ [] }

abbrev pub parallel_3 : WaveRowState
parallel_3 = record { ports = no_port ∷ no_port ∷ []; holders = None ∷ None ∷ None ∷ [] }

abbrev pub parallel : List WaveRowState
parallel = parallel_0 ∷ parallel_1 ∷ parallel_2 ∷ parallel_3 ∷ []

abbrev pub parallel_grants : List Granting
parallel_grants = grants 3 0 ∷ grants 0 0 ∷ grants 0 0 ∷ grants 0 0 ∷ []

-- ---- one master holds all, then the other writes to its RAM and to no device
abbrev pub contended_0 : WaveRowState
contended_0 = record { ports = standing ∷ standing ∷ []; holders = Some 0 ∷ Some 0 ∷ Some 0 ∷ [] }

abbrev pub contended_1 : WaveRowState
contended_1 = record { ports = asks true 0 1 false false ∷ standing ∷ []; holders = Some 0 ∷ Some 0 ∷ Some 0 ∷ [] }

abbrev pub contended_2 : WaveRowState
contended_2 = record { ports = acked ∷ standing ∷ []; holders = Some 0 ∷ Some 0 ∷ Some 0 ∷ [] }

abbrev pub contended_3 : WaveRowState
contended_3 = record { ports = standing ∷ standing ∷ []; holders = Some 0 ∷ Some 0 ∷ Some 0 ∷ [] }

abbrev pub contended_4 : WaveRowState
contended_4 = record { ports = standing ∷ standing ∷ []; holders = Some 0 ∷ Some 0 ∷ Some 0 ∷ [] }

abbrev pub contended_5 : WaveRowState
contended_5 = record { ports = standing ∷ standing ∷ []; holders = Some 0 ∷ Some 0 ∷ Some 0 ∷ [] }

abbrev pub contended_6 : WaveRowState
contended_6 = record { ports = asks false 4 0 false false ∷ standing ∷ []; holders = Some 0 ∷ Some 0 ∷ Some 0 ∷ [] }

abbrev pub contended_7 : WaveRowState
contended_7 = record { ports = acked ∷ standing ∷ []; holders = Some 0 ∷ Some 0 ∷ Some 0 ∷ [] }

abbrev pub contended_8 : WaveRowState
contended_8 = record { ports = no_port ∷ standing ∷ []; holders = Some 1 ∷ None ∷ None ∷ [] }

abbrev pub contended_9 : WaveRowState
contended_9 = record { ports = no_port ∷ asks true 4 2 false false ∷ []; holders = Some 1 ∷ None ∷ None ∷ [] }

abbrev pub contended_10 : WaveRowState
contended_10 = record { ports = no_port ∷ asks true 36864 3 true true ∷ []; holders = Some 1 ∷ None ∷ None ∷ [] }

abbrev pub contended_11 : WaveRowState
contended_11 = record { ports = no_port ∷ asks true 36864 3 false false ∷ []; holders = Some 1 ∷ None ∷ None ∷ [] }

abbrev pub contended_12 : WaveRowState
contended_12 = record { ports = no_port ∷ record { cyc = true; stb = false; we = false; adr = 0; dat = 0; sel = 0; stall = false; ack = false; err = true; rty = false; read = 0 } ∷ []; holders = Some 1 ∷ None ∷ None ∷ [] }

abbrev pub contended_13 : WaveRowState
contended_13 = record { ports = no_port ∷ no_port ∷ []; holders = None ∷ None ∷ None ∷ [] }

abbrev pub contended : List WaveRowState
contended = contended_0 ∷ contended_1 ∷ contended_2 ∷ contended_3 ∷ contended_4 ∷ contended_5 ∷ contended_6 ∷ contended_7 ∷ contended_8 ∷ contended_9 ∷ contended_10 ∷ contended_11 ∷ contended_12 ∷ contended_13 ∷ []

abbrev pub contended_grants : List Granting
contended_grants = grants 1 1 ∷ grants 0 1 ∷ grants 0 1 ∷ grants 0 1 ∷ grants 0 1 ∷ grants 0 1 ∷ grants 0 1 ∷ grants 0 1 ∷ grants 2 0 ∷ grants 0 0 ∷ grants 0 0 ∷ grants 0 0 ∷ grants 0 0 ∷ grants 0 0 ∷ []

-- ---- five writes to the slow RAM, and a read of the fast one that waits for them
abbrev pub slow_0 : WaveRowState
slow_0 = record { ports = standing ∷ []; holders = Some 0 ∷ Some 0 ∷ None ∷ [] }

abbrev pub slow_1 : WaveRowState
slow_1 = record { ports = asks true 0 1 false false ∷ []; holders = Some 0 ∷ Some 0 ∷ None ∷ [] }

abbrev pub slow_2 : WaveRowState
slow_2 = record { ports = asks true 4 2 false false ∷ []; holders = Some 0 ∷ Some 0 ∷ None ∷ [] }

abbrev pub slow_3 : WaveRowState
slow_3 = record { ports = asks true 8 3 false false ∷ []; holders = Some 0 ∷ Some 0 ∷ None ∷ [] }

abbrev pub slow_4 : WaveRowState
slow_4 = record { ports = asks true 12 4 false false ∷ []; holders = Some 0 ∷ Some 0 ∷ None ∷ [] }

abbrev pub slow_5 : WaveRowState
slow_5 = record { ports = standing ∷ []; holders = Some 0 ∷ Some 0 ∷ None ∷ [] }

abbrev pub slow_6 : WaveRowState
slow_6 = record { ports = standing ∷ []; holders = Some 0 ∷ Some 0 ∷ None ∷ [] }

abbrev pub slow_7 : WaveRowState
slow_7 = record { ports = standing ∷ []; holders = Some 0 ∷ Some 0 ∷ None ∷ [] }

abbrev pub slow_8 : WaveRowState
slow_8 = record { ports = standing ∷ []; holders = Some 0 ∷ Some 0 ∷ None ∷ [] }

abbrev pub slow_9 : WaveRowState
slow_9 = record { ports = acked ∷ []; holders = Some 0 ∷ Some 0 ∷ None ∷ [] }

abbrev pub slow_10 : WaveRowState
slow_10 = record { ports = asks true 16 5 false true ∷ []; holders = Some 0 ∷ Some 0 ∷ None ∷ [] }

abbrev pub slow_11 : WaveRowState
slow_11 = record { ports = asks false 65536 0 true true ∷ []; holders = Some 0 ∷ Some 0 ∷ None ∷ [] }

abbrev pub slow_12 : WaveRowState
slow_12 = record { ports = asks false 65536 0 true true ∷ []; holders = Some 0 ∷ Some 0 ∷ None ∷ [] }

abbrev pub slow_13 : WaveRowState
slow_13 = record { ports = asks false 65536 0 true false ∷ []; holders = Some 0 ∷ Some 0 ∷ None ∷ [] }

abbrev pub slow_14 : WaveRowState
slow_14 = record { ports = asks false 65536 0 true false ∷ []; holders = Some 0 ∷ Some 0 ∷ None ∷ [] }

abbrev pub slow_15 : WaveRowState
slow_15 = record { ports = asks false 65536 0 true false ∷ []; holders = Some 0 ∷ Some 0 ∷ None ∷ [] }

abbrev pub slow_16 : WaveRowState
slow_16 = record { ports = asks false 65536 0 true false ∷ []; holders = Some 0 ∷ Some 0 ∷ None ∷ [] }

abbrev pub slow_17 : WaveRowState
slow_17 = record { ports = asks false 65536 0 true false ∷ []; holders = Some 0 ∷ Some 0 ∷ None ∷ [] }

abbrev pub slow_18 : WaveRowState
slow_18 = record { ports = asks false 65536 0 true true ∷ []; holders = Some 0 ∷ Some 0 ∷ None ∷ [] }

abbrev pub slow_19 : WaveRowState
slow_19 = record { ports = asks false 65536 0 false false ∷ []; holders = Some 0 ∷ Some 0 ∷ None ∷ [] }

abbrev pub slow_20 : WaveRowState
slow_20 = record { ports = acked ∷ []; holders = Some 0 ∷ Some 0 ∷ None ∷ [] }

abbrev pub slow_21 : WaveRowState
slow_21 = record { ports = no_port ∷ []; holders = None ∷ None ∷ None ∷ [] }

abbrev pub slow : List WaveRowState
slow = slow_0 ∷ slow_1 ∷ slow_2 ∷ slow_3 ∷ slow_4 ∷ slow_5 ∷ slow_6 ∷ slow_7 ∷ slow_8 ∷ slow_9 ∷ slow_10 ∷ slow_11 ∷ slow_12 ∷ slow_13 ∷ slow_14 ∷ slow_15 ∷ slow_16 ∷ slow_17 ∷ slow_18 ∷ slow_19 ∷ slow_20 ∷ slow_21 ∷ []

abbrev pub slow_grants : List Granting
slow_grants = grants 1 0 ∷ grants 0 0 ∷ grants 0 0 ∷ grants 0 0 ∷ grants 0 0 ∷ grants 0 0 ∷ grants 0 0 ∷ grants 0 0 ∷ grants 0 0 ∷ grants 0 0 ∷ grants 0 0 ∷ grants 0 0 ∷ grants 0 0 ∷ grants 0 0 ∷ grants 0 0 ∷ grants 0 0 ∷ grants 0 0 ∷ grants 0 0 ∷ grants 0 0 ∷ grants 0 0 ∷ grants 0 0 ∷ grants 0 0 ∷ []
