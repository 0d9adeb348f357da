use Rattle.eb_io.proofs.PageLemmas.{wrong_page, flushed}
use Rattle.soc_wave.proofs.wave.Wave.write.Goals as goal

pub returns-in_err-put_wave : goal.returns-in_err-put_wave
returns-in_err-put_wave g c = record {
  wrote = wrong_page g.S.Sink.writing g.S.Sink.beside_writes _ _ _ _ _ _ _ c.from_residual.ensures.0 c.new-page.ensures.empty c.in_err-put_wave.ensures.paged;
}

pub returns : goal.returns
returns g c = record {
  wrote = flushed g.S.Sink.writing g.S.Sink.beside_writes _ _ _ _ _ _ _ c.new-page.ensures.empty c.in_ok-put_wave.ensures.paged c.flush.ensures.wrote;
}
