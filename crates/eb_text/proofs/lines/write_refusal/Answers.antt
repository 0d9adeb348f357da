use Rattle.std.proofs.Common.{◌≡◌, ℕ, List, [], ◌∷◌, ◌++◌, codes, ap, ◌∙◌, subst}
use Rattle.eb_io.specs.Writing.{Wrote}
use Rattle.eb_text.specs.Lines.{refusal}
use Rattle.eb_text.proofs.LineLemmas.{five_parts}
use Rattle.eb_text.proofs.lines.write_refusal.Goals as goal

pub returns : goal.returns
returns g c =
    let reason = c.args.reason.now in
    let text : codes "description refused: " ++ (reason ++ (codes " " ++ (c.as_slice.result.now ++ 10 ∷ []))) ≡ refusal reason c.args.path.now =
    five_parts (codes "description refused: ") reason (codes " ") c.as_slice.result.now (10 ∷ []) ∙ ap (refusal reason) c.as_slice.ensures.same in
    record {
      wrote = subst (λ (l : List ℕ). Wrote g.K.Sink.writing g.K.Sink.beside_writes c.args.sink.now c.put_each.new.sink l c.put_each.result) text c.put_each.ensures.wrote;
    }
