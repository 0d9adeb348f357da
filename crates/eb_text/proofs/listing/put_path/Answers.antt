use Rattle.std.proofs.Common.{◌≡◌, ℕ, List, ◌++◌, ◌-◌, length, take, decimal, drop, get_or, ap, ◌∙◌, arith}
use Rattle.std.proofs.lemmas.List.{take_rest}
use Rattle.eb_io.proofs.PageLemmas.{wrong_first_paged, paged_both}
use Rattle.eb_text.specs.Listing.{steps_text, path_text}
use Rattle.eb_text.proofs.PathLemmas.{first_place}
use Rattle.eb_text.proofs.listing.put_path.Goals as goal

pub returns-in_err-put : goal.returns-in_err-put
returns-in_err-put g c =
    let path = c.args.path.now in
    let head : c.as_slice.result.now ≡ decimal (get_or path 0 0) = c.as_slice.ensures.octets ∙ c.step_text.ensures.value in
    record {
      paged = wrong_first_paged g.K.Sink.writing g.K.Sink.beside_writes _ _ _ _ (path_text path) c.as_slice.result.now (steps_text (drop 1 path)) _ _ c.from_residual.ensures.0
          (ap (λ (l : List ℕ). l ++ steps_text (drop 1 path)) head ∙ first_place path (omega (arith, c.in-len1-up.len_at_least))) c.in_err-put.ensures.paged;
    }

pub returns : goal.returns
returns g c =
    let path = c.args.path.now in
    let head : c.as_slice.result.now ≡ decimal (get_or path 0 0) = c.as_slice.ensures.octets ∙ c.step_text.ensures.value in
    let rest : steps_text (take (length path - 1) (drop 1 path)) ≡ steps_text (drop 1 path) = ap steps_text (take_rest path 1) in
    record {
      paged = paged_both g.K.Sink.writing g.K.Sink.beside_writes _ _ _ _ _ _ (path_text path) c.as_slice.result.now (steps_text (take (length path - 1) (drop 1 path))) _
          ((λ i. head i ++ rest i) ∙ first_place path (omega (arith, c.in-len1-up.len_at_least)))
          c.in_ok-put.ensures.paged c.put_steps.ensures.paged;
    }
