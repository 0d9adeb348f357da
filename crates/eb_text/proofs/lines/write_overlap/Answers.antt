use Rattle.std.proofs.Common.{◌≡◌, ℕ, List, [], ◌∷◌, ◌++◌, codes, ◌∙◌, subst}
use Rattle.eb_io.specs.Writing.{Wrote}
use Rattle.eb_text.specs.Lines.{refusal}
use Rattle.eb_text.proofs.LineLemmas.{five_parts}
use Rattle.eb_text.proofs.lines.write_overlap.Goals as goal

pub returns : goal.returns
returns g c =
    let path = c.as_slice.result.now in
    let other = c.as_slice-2.result.now in
    let text : codes "description refused: overlap " ++ (path ++ (codes " " ++ (other ++ 10 ∷ []))) ≡ refusal (codes "overlap " ++ c.args.path.now) c.args.other.now =
    five_parts (codes "description refused: overlap ") path (codes " ") other (10 ∷ [])
    ∙ (λ i. refusal (codes "overlap " ++ c.as_slice.ensures.same i) (c.as_slice-2.ensures.same i)) in
    record {
      wrote = subst (λ (l : List ℕ). Wrote g.K.Sink.writing g.K.Sink.beside_writes c.args.sink.now c.put_each.new.sink l c.put_each.result) text c.put_each.ensures.wrote;
    }
