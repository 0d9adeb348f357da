use Rattle.eb_io.proofs.PageLemmas.{wrong_page, flushed}
use Rattle.eb_serve.proofs.datagram_text.write_datagrams.Goals as goal

pub returns-in_err-put_datagrams : goal.returns-in_err-put_datagrams
returns-in_err-put_datagrams g c = record {
  wrote = wrong_page g.K.Sink.writing g.K.Sink.beside_writes _ _ _ _ _ _ _ c.from_residual.ensures.0 c.new-page.ensures.empty c.in_err-put_datagrams.ensures.paged;
}

pub returns : goal.returns
returns g c = record {
  wrote = flushed g.K.Sink.writing g.K.Sink.beside_writes _ _ _ _ _ _ _ c.new-page.ensures.empty c.in_ok-put_datagrams.ensures.paged c.flush.ensures.wrote;
}
