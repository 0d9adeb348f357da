use Rattle.eb_io.proofs.PageLemmas.{wrong_page, flushed}
use Rattle.eb_text.proofs.listing.write_listing.Goals as goal

pub returns-in_err-put_tree : goal.returns-in_err-put_tree
returns-in_err-put_tree g c = record {
  wrote = wrong_page g.K.Sink.writing g.K.Sink.beside_writes _ _ _ _ _ _ _ c.from_residual.ensures.0 c.new-page.ensures.empty c.in_err-put_tree.ensures.paged;
}

pub returns : goal.returns
returns g c = record {
  wrote = flushed g.K.Sink.writing g.K.Sink.beside_writes _ _ _ _ _ _ _ c.new-page.ensures.empty c.in_ok-put_tree.ensures.paged c.flush.ensures.wrote;
}
