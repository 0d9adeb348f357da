-- A bus takes the lines of a script that was read for it.
use Rattle.std.proofs.Common.{◌≡◌, ◌≤◌, ℕ, zero, suc, List, [], ◌∷◌, map, replicate, All, refl, sym, ap, subst, arith}
use Rattle.eb_base.specs.declared.width.Width.TheVariants.{W32}
use Rattle.eb_base.specs.Width.{octets}
use Rattle.soc_desc.specs.declared.description.Description.{Description}
use Rattle.soc_desc.specs.Accepted.{IsAccepted}
use Rattle.wb_signals.specs.Cycles.{AllFitBus}
use Rattle.wb_signals.specs.Parts as wb
use Rattle.wb_signals.specs.Parts.{contents_in}
use Rattle.wb_port.specs.Port as engine
use Rattle.soc_machine.specs.Described.{described_wiring, parts_of}
use Rattle.soc_core.specs.Built.{fabric_of, root_shown}
use Rattle.soc_core.specs.Core.{resting_port, resting_ports}
use Rattle.soc_bus.specs.Tree.{part_built}
use Rattle.soc_bus.specs.View.{CycleView, states}
use Rattle.soc_bus.proofs.BuildLemmas.{built_bus}
use Rattle.soc_script.specs.Script.{ScriptLine}
use Rattle.soc_script.specs.Words.{lines_of}
use Rattle.soc_script.specs.Laws.{IsTaken}
use Rattle.soc_script.proofs.TakenLemmas.{lines_taken}
use Rattle.soc_script_wave.specs.Sets.{IsLine, AllLines}
use Rattle.soc_sim.specs.Laws.{ScriptIsOfBus}

-- ---- the bus of an accepted description has 32 data bits

abbrev resting_cycles : ℕ → List CycleView
resting_cycles zero = []
resting_cycles (suc n) = record { state = resting_port; room = 0 } ∷ resting_cycles n

resting_states : (n : ℕ) → states (resting_cycles n) ≡ resting_ports n
resting_states zero = refl
resting_states (suc n) = ap (λ ps. resting_port ∷ ps) (resting_states n)

described_width : (d : Description) → IsAccepted d → (described_wiring d).bus ≡ W32
described_width d accepted =
    (built_bus d accepted
    (record { width = W32; children = map wb.child_of (map part_built (parts_of (root_shown d.bus))); contents = contents_in (map part_built (parts_of (root_shown d.bus))); owed = replicate d.masters [] })
    (resting_cycles d.masters) (replicate d.masters (engine.idle_port d.depth)) (record { ports = d.masters; first = 0 }) (record { entries = []; spare = 0 })
    refl (resting_states d.masters) refl refl refl).width

-- ---- lines

taken_line : (d : Description) → IsAccepted d → (l : ScriptLine) → IsTaken W32 d.masters l → IsLine (fabric_of d) l
taken_line d accepted l is = record { some = is.some; most = omega (arith, is.most); fit = subst (λ w. AllFitBus w l.ops) (sym (described_width d accepted)) is.fit }

all_lines : (d : Description) → IsAccepted d → (script : List ScriptLine) → All (IsTaken W32 d.masters) script → AllLines (fabric_of d) script
all_lines d accepted [] all = tt
all_lines d accepted (l ∷ script) all = (taken_line d accepted l (all 0 l (omega arith)), all_lines d accepted script (λ k x lt. all (suc k) x (omega (arith, lt))))

pub script_is_of_bus : ScriptIsOfBus
script_is_of_bus d accepted text script is =
    let wide : 4 ≤ octets W32 = omega arith in
    all_lines d accepted script (lines_taken W32 wide d.masters (lines_of text) script is.lines.each)
