use Rattle.std.proofs.Common.{◌≡◌, ℕ, List, ◌++◌, ap, ◌∙◌}
use Rattle.eb_io.proofs.PageLemmas.{wrong_first_paged, paged_both}
use Rattle.eb_text.specs.Build.{record_count, record_lines, table_line, table_text}
use Rattle.eb_text.proofs.build.put_table.Goals as goal

pub returns-in_err-put : goal.returns-in_err-put
returns-in_err-put g c =
    let octets = c.args.octets.now in
    let head : c.as_slice.result.now ≡ table_line c.args.at (record_count octets) = c.as_slice.ensures.octets ∙ c.table_line.ensures.value in
    record {
      paged = wrong_first_paged g.K.Sink.writing g.K.Sink.beside_writes _ _ _ _ (table_text c.args.at octets) c.as_slice.result.now (record_lines (record_count octets) octets) _ _
          c.from_residual.ensures.0 (ap (λ (l : List ℕ). l ++ record_lines (record_count octets) octets) head) c.in_err-put.ensures.paged;
    }

pub returns : goal.returns
returns g c =
    let octets = c.args.octets.now in
    let head : c.as_slice.result.now ≡ table_line c.args.at (record_count octets) = c.as_slice.ensures.octets ∙ c.table_line.ensures.value in
    record {
      paged = paged_both g.K.Sink.writing g.K.Sink.beside_writes _ _ _ _ _ _ (table_text c.args.at octets) c.as_slice.result.now (record_lines (record_count octets) octets) _
          (ap (λ (l : List ℕ). l ++ record_lines (record_count octets) octets) head) c.in_ok-put.ensures.paged c.put_records.ensures.paged;
    }
