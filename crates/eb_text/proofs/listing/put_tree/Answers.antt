use Rattle.std.proofs.Common.{◌≡◌, List, length, get_or, refl, ap, ◌∙◌, arith}
use Rattle.sdb_walk.specs.declared.found.Found.{Found}
use Rattle.eb_io.proofs.PageLemmas.{paging_item, wrong_paging_item}
use Rattle.eb_text.specs.Listing.{found_line, listing_text}
use Rattle.eb_text.proofs.listing.put_tree.Goals as goal

pub returns-in_err-put_found : goal.returns-in_err-put_found
returns-in_err-put_found g c =
    let items = c.as_slice-found-items.ensures.items in
    let found = c.found-item.result in
    let is : found ≡ get_or c.args.tree.now c.loop-found.found-index found = c.found-item.is ∙ ap (λ (tree : List Found). get_or tree c.loop-found.found-index found) items in
    record {
      paged = wrong_paging_item g.K.Sink.writing g.K.Sink.beside_writes found_line listing_text (λ f tree. refl) _ _ _ c.args.page.now _ _ c.args.tree.now c.loop-found.found-index found
          (found_line found) _ _ c.from_residual.ensures.0 (omega (arith, ap length items)) is refl c.loop-found.invariant c.in_err-put_found.ensures.paged;
    }

pub loop-found-preserved : goal.loop-found-preserved
loop-found-preserved g c =
    let items = c.as_slice-found-items.ensures.items in
    let found = c.found-item.result in
    let is : found ≡ get_or c.args.tree.now c.loop-found.found-index found = c.found-item.is ∙ ap (λ (tree : List Found). get_or tree c.loop-found.found-index found) items in
    paging_item g.K.Sink.writing g.K.Sink.beside_writes found_line listing_text (λ f tree. refl) _ _ _ c.args.page.now _ _ c.args.tree.now c.loop-found.found-index found
    (found_line found) (omega (arith, ap length items)) is refl c.loop-found.invariant c.in_ok-put_found.ensures.paged
