-- How often CYC has risen after one more row.
use Rattle.std.proofs.Common.{◌≡◌, ℕ, ◌&&◌, not, Bool, true, false, List, [], ◌∷◌, ◌++◌, refl, ap, ◌∙◌}
use Rattle.std.specs.Prelude.{fold}
use Rattle.wb_signals.specs.declared.port_row.PortRow.{PortRow}
use Rattle.soc_wave.specs.Rows.{no_port, last_port}
use Rattle.soc_wave.specs.Requests.{one_if}
use Rattle.soc_wave.specs.Pairs.{rises, rises_from}

one_swap : (a b : Bool) (n : ℕ) → one_if a (one_if b n) ≡ one_if b (one_if a n)
one_swap true true n = refl
one_swap true false n = refl
one_swap false true n = refl
one_swap false false n = refl

rises-snoc : (old : PortRow) (ps : List PortRow) (p : PortRow) → rises_from old (ps ++ p ∷ []) ≡ one_if (rises (fold (λ (q r : PortRow). r) old ps) p) (rises_from old ps)
rises-snoc old [] p = refl
rises-snoc old (q ∷ ps) p = ap (λ (n : ℕ). one_if (rises old q) n) (rises-snoc q ps p) ∙ one_swap (rises old q) (rises (fold (λ (x r : PortRow). r) q ps) p) (rises_from q ps)

pub rises-row : (ps : List PortRow) (p : PortRow) → rises_from no_port (ps ++ p ∷ []) ≡ one_if (not (last_port ps).cyc && p.cyc) (rises_from no_port ps)
rises-row ps p = rises-snoc no_port ps p
