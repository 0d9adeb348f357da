use Rattle.std.proofs.Common.{drop, ◌∙◌, arith}
use Rattle.std.proofs.lemmas.List.{take_rest}
use Rattle.eb_io.proofs.PageLemmas.{paging_none, paging_on, paging_wrong}
use Rattle.eb_text.proofs.TableLemmas.{all_lines, next_record}
use Rattle.eb_text.proofs.build.put_records.Goals as goal

pub records-init : goal.records-init
records-init g c = paging_none g.K.Sink.writing g.K.Sink.beside_writes c.args.sink.now c.args.page.now (all_lines c.args.octets.now)

pub returns-in_err-put : goal.returns-in_err-put
returns-in_err-put g c = record {
  paged = paging_wrong g.K.Sink.writing g.K.Sink.beside_writes _ _ _ c.args.page.now _ _ (all_lines c.args.octets.now) c.as_slice.result.now (all_lines (drop 64 c.records.rest.now)) _ _ c.from_residual.ensures.0
      (next_record g.K.Sink.writing g.K.Sink.beside_writes _ _ c.args.page.now _ c.args.octets.now c.records.rest.now c.as_slice.result.now (omega arith)
      (c.as_slice.ensures.octets ∙ c.record_line.ensures.value) c.records.invariant) c.in_err-put.ensures.paged;
}

pub records-preserved : goal.records-preserved
records-preserved g c =
    rw take_rest (paging_on g.K.Sink.writing g.K.Sink.beside_writes _ _ _ c.args.page.now _ _ (all_lines c.args.octets.now) c.as_slice.result.now (all_lines (drop 64 c.records.rest.now))
    (next_record g.K.Sink.writing g.K.Sink.beside_writes _ _ c.args.page.now _ c.args.octets.now c.records.rest.now c.as_slice.result.now (omega arith)
    (c.as_slice.ensures.octets ∙ c.record_line.ensures.value) c.records.invariant) c.in_ok-put.ensures.paged)
