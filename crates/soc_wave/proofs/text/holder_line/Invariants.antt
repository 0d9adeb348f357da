use Rattle.std.proofs.Common.{◌≡◌, ◌≤◌, ◌+◌, ◌*◌, ◌++◌, codes, decimal, length, drop}
use Rattle.soc_wave.specs.Text.{holder_texts}
use Rattle.soc_wave.proofs.text.holder_line.Given as goal

abbrev pub invariant-loop-holder : goal.invariant-loop-holder
invariant-loop-holder l =
    (l.line ++ holder_texts (drop l.holder-index l.holders) ≡ decimal l.clock ++ codes " h" ++ holder_texts l.holders) × (length l.line ≤ 22 + 22 * l.holder-index)
