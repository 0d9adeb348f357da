use Rattle.std.proofs.Common.{refl}
use Rattle.eb_io.proofs.PageLemmas.{wrong_first_paged, paged_both}
use Rattle.soc_wave.specs.Text.{rows_text, wave_text}
use Rattle.soc_wave.proofs.text.put_wave.Goals as goal

pub returns-in_err-put : goal.returns-in_err-put
returns-in_err-put g c = record {
  paged = wrong_first_paged g.S.Sink.writing g.S.Sink.beside_writes _ _ _ _ (wave_text c.args.wave.now.rows) _ (rows_text 0 c.args.wave.now.rows) _ _ c.from_residual.ensures.0
      refl c.in_err-put.ensures.paged;
}

pub returns : goal.returns
returns g c = record {
  paged = paged_both g.S.Sink.writing g.S.Sink.beside_writes _ _ _ _ _ _ (wave_text c.args.wave.now.rows) _ (rows_text 0 c.args.wave.now.rows) _
      refl c.in_ok-put.ensures.paged c.put_rows.ensures.paged;
}
