use Rattle.eb_io.proofs.PageLemmas.{paged_next}
use Rattle.eb_io.proofs.page.Page.put.Goals as goal

pub returns : goal.returns
returns g c = record {
  paged = paged_next g.S.Sink.writing g.S.Sink.beside_writes _ _ _ _ _ _ _ _ c.in_ok-flush.ensures.emptied c.in_ok-flush.ensures.wrote c.begin.ensures.paged;
}
