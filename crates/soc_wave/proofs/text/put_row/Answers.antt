use Rattle.std.proofs.Common.{◌≡◌, ℕ, List, ◌++◌, ap, ◌∙◌}
use Rattle.eb_io.proofs.PageLemmas.{wrong_first_paged, paged_both}
use Rattle.soc_wave.specs.Text.{port_lines, holder_line, row_text}
use Rattle.soc_wave.proofs.text.put_row.Goals as goal

pub returns-in_err-put_ports : goal.returns-in_err-put_ports
returns-in_err-put_ports g c =
    let row = c.args.row.now in
    let first : port_lines c.args.clock 0 c.ports.result.now ≡ port_lines c.args.clock 0 row.ports = ap (λ l. port_lines c.args.clock 0 l) c.ports.ensures.ports in
    record {
      paged = wrong_first_paged g.S.Sink.writing g.S.Sink.beside_writes _ _ _ _ (row_text c.args.clock row) (port_lines c.args.clock 0 c.ports.result.now) (holder_line c.args.clock row.holders) _ _
          c.from_residual.ensures.0 (ap (λ (l : List ℕ). l ++ holder_line c.args.clock row.holders) first) c.in_err-put_ports.ensures.paged;
    }

pub returns : goal.returns
returns g c =
    let row = c.args.row.now in
    let first : port_lines c.args.clock 0 c.ports.result.now ≡ port_lines c.args.clock 0 row.ports = ap (λ l. port_lines c.args.clock 0 l) c.ports.ensures.ports in
    let rest : c.as_slice.result.now ≡ holder_line c.args.clock row.holders =
    c.as_slice.ensures.octets ∙ c.holder_line.ensures.value ∙ ap (λ l. holder_line c.args.clock l) c.holders.ensures.holders in
    record {
      paged = paged_both g.S.Sink.writing g.S.Sink.beside_writes _ _ _ _ _ _ (row_text c.args.clock row) (port_lines c.args.clock 0 c.ports.result.now) c.as_slice.result.now _
          (λ i. first i ++ rest i) c.in_ok-put_ports.ensures.paged c.put.ensures.paged;
    }
