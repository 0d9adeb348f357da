-- What one look at the ports of a bus tells.
use Rattle.std.specs.Prelude.{ℕ, suc, ◌+◌, true, false, List, [], ◌∷◌, bit_or}
use Rattle.soc_core.specs.Core.{Phase, Idle, Wants, Holds, Leaves, CorePort}
use Rattle.soc_bus.specs.declared.grant.Look.{Look}

abbrev pub nothing_seen : Look
nothing_seen = record { held = 0; waiting = 0; last = 0; set = 0; leaves = false }

-- with the port of this number, in this phase
abbrev pub seen : Phase → ℕ → Look → Look
seen Idle i look = look
seen (Wants set) i look = record { held = look.held; waiting = look.waiting + 1; last = i; set = set; leaves = look.leaves }
seen (Holds set) i look = record { held = bit_or look.held set; waiting = look.waiting; last = look.last; set = look.set; leaves = look.leaves }
seen Leaves i look = record { held = look.held; waiting = look.waiting; last = look.last; set = look.set; leaves = true }

-- with all these ports, of which the first has this number
abbrev pub looked_from : ℕ → List CorePort → Look → Look
looked_from i [] look = look
looked_from i (p ∷ ports) look = looked_from (suc i) ports (seen p.phase i look)
