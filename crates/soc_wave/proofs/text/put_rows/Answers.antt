use Rattle.std.proofs.Common.{refl, sym}
use Rattle.std.proofs.lemmas.Option.{slice_get_within, get_or_from_slice_get}
use Rattle.soc_wave.specs.Text.{row_text, rows_text}
use Rattle.soc_wave.proofs.Numbered.{paging_numbered, wrong_paging_numbered}
use Rattle.soc_wave.proofs.text.put_rows.Goals as goal

pub returns-in_err-put_row : goal.returns-in_err-put_row
returns-in_err-put_row g c =
    let rows = c.args.wave.now.rows in
    record {
      paged = wrong_paging_numbered g.S.Sink.writing g.S.Sink.beside_writes row_text rows_text (λ n. refl) (λ n row more. refl) _ _ _ c.args.page.now _ _ (rows_text 0 rows) rows c.loop-clock.clock c.get.result _ _ _
          c.from_residual.ensures.0 (slice_get_within rows c.loop-clock.clock _ c.get.ensures.row) (sym (get_or_from_slice_get rows c.loop-clock.clock _ _ c.get.ensures.row)) refl
          c.loop-clock.invariant c.in_err-put_row.ensures.paged;
    }

pub loop-clock-preserved : goal.loop-clock-preserved
loop-clock-preserved g c =
    let rows = c.args.wave.now.rows in
    paging_numbered g.S.Sink.writing g.S.Sink.beside_writes row_text rows_text (λ n. refl) (λ n row more. refl) _ _ _ c.args.page.now _ _ (rows_text 0 rows) rows c.loop-clock.clock c.get.result _
    (slice_get_within rows c.loop-clock.clock _ c.get.ensures.row) (sym (get_or_from_slice_get rows c.loop-clock.clock _ _ c.get.ensures.row)) refl
    c.loop-clock.invariant c.in_ok-put_row.ensures.paged
