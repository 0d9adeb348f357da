use Rattle.std.proofs.Common.{◌≡◌, ℕ, List, [], ◌∷◌, ◌++◌, codes, ap, ◌∙◌}
use Rattle.eb_io.specs.Text.{line}
use Rattle.eb_io.proofs.PageLemmas.{wrong_first_paged, paged_both}
use Rattle.eb_text.specs.Listing.{path_text, entry_text, found_line}
use Rattle.eb_text.proofs.PathLemmas.{two_parts}
use Rattle.eb_text.proofs.listing.put_found.Goals as goal

pub returns-in_err-put_path : goal.returns-in_err-put_path
returns-in_err-put_path g c =
    let f = c.args.found.now in
    let entry : List ℕ = entry_text f.entry f.first f.last in
    let head : path_text c.as_slice.result.now ≡ path_text f.path = ap path_text c.as_slice.ensures.items in
    record {
      paged = wrong_first_paged g.K.Sink.writing g.K.Sink.beside_writes _ _ _ _ (found_line f) (path_text c.as_slice.result.now) (line (codes " " ++ entry)) _ _ c.from_residual.ensures.0
          (ap (λ (l : List ℕ). l ++ line (codes " " ++ entry)) head ∙ two_parts (path_text f.path) (codes " ") entry (10 ∷ [])) c.in_err-put_path.ensures.paged;
    }

pub returns : goal.returns
returns g c =
    let f = c.args.found.now in
    let entry : List ℕ = entry_text f.entry f.first f.last in
    let head : path_text c.as_slice.result.now ≡ path_text f.path = ap path_text c.as_slice.ensures.items in
    let rest : c.as_slice-2.result.now ≡ line (codes " " ++ entry) = c.as_slice-2.ensures.octets ∙ c.entry_line.ensures.value in
    let parts : path_text c.as_slice.result.now ++ c.as_slice-2.result.now ≡ path_text f.path ++ line (codes " " ++ entry) = λ i. head i ++ rest i in
    record {
      paged = paged_both g.K.Sink.writing g.K.Sink.beside_writes _ _ _ _ _ _ (found_line f) (path_text c.as_slice.result.now) c.as_slice-2.result.now _
          (parts ∙ two_parts (path_text f.path) (codes " ") entry (10 ∷ [])) c.in_ok-put_path.ensures.paged c.put.ensures.paged;
    }
