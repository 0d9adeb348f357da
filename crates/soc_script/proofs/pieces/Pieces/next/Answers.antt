use Rattle.std.proofs.Common.{◌≡◌, ◌∷◌, List, ℕ, Option, ap, sym, ◌∙◌, take}
use Rattle.std.specs.Prelude.{option_copied}
use Rattle.soc_script.specs.Words.{pieces_left, pieces_of}
use Rattle.soc_script.proofs.PieceLemmas.{next_piece}
use Rattle.soc_script.proofs.pieces.Pieces.next.Goals as goal

pub returns : goal.returns
returns c =
    let octet = c.self.inside.octet in
    let text = c.in_ok-text.text.now in
    let end = c.end_of_piece-at.ensures in
    let here : pieces_left octet (option_copied c.self.inside.text) ≡ pieces_of octet text = ap (λ k. pieces_left octet (option_copied k)) c.in_ok-text.was in
    let first = next_piece octet text c.end_of_piece-at.result end.within end.before end.found in
    let behind = ap (λ (k : Option (List ℕ)). take c.end_of_piece-at.result text ∷ pieces_left octet k) (sym c.left_behind-self-inside.ensures.left) in
    record { taken = sym c.self.view_is ∙ here ∙ first ∙ behind }
