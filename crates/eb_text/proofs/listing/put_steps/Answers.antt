use Rattle.std.proofs.Common.{ℕ, get_or, codes, decimal, ◌++◌, refl, ◌∙◌, arith}
use Rattle.std.proofs.lemmas.List.{get_or_default}
use Rattle.eb_io.proofs.PageLemmas.{paging_item, wrong_paging_item}
use Rattle.eb_text.specs.Listing.{steps_text}
use Rattle.eb_text.proofs.listing.put_steps.Goals as goal

pub returns-in_err-put : goal.returns-in_err-put
returns-in_err-put g c = record {
  paged = wrong_paging_item g.K.Sink.writing g.K.Sink.beside_writes (λ (i : ℕ). codes "." ++ decimal i) steps_text (λ i steps. refl) _ _ _ c.args.page.now _ _ c.args.steps.now c.loop-step.step-index
      (get_or c.args.steps.now c.loop-step.step-index 0) _ _ _ c.from_residual.ensures.0 (omega arith) (get_or_default c.args.steps.now c.loop-step.step-index 0 _ (omega arith))
      (c.as_slice.ensures.octets ∙ c.step_text.ensures.value) c.loop-step.invariant c.in_err-put.ensures.paged;
}

pub loop-step-preserved : goal.loop-step-preserved
loop-step-preserved g c =
    paging_item g.K.Sink.writing g.K.Sink.beside_writes (λ (i : ℕ). codes "." ++ decimal i) steps_text (λ i steps. refl) _ _ _ c.args.page.now _ _ c.args.steps.now c.loop-step.step-index
    (get_or c.args.steps.now c.loop-step.step-index 0) _ (omega arith) (get_or_default c.args.steps.now c.loop-step.step-index 0 _ (omega arith))
    (c.as_slice.ensures.octets ∙ c.step_text.ensures.value) c.loop-step.invariant c.in_ok-put.ensures.paged
