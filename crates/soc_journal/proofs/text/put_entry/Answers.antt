use Rattle.std.proofs.Common.{◌≡◌, ℕ, List, ◌++◌, ap, ◌∙◌}
use Rattle.wb_signals.specs.History.{Entry}
use Rattle.eb_io.proofs.PageLemmas.{wrong_first_paged, paged_both}
use Rattle.soc_journal.specs.Text.{cycle_line, pair_lines, entry_text}
use Rattle.soc_journal.proofs.text.put_entry.Goals as goal

pub returns-in_err-put : goal.returns-in_err-put
returns-in_err-put g c =
    let e = c.args.entry.now in
    let head : c.as_slice.result.now ≡ cycle_line e.master e.cut =
    c.as_slice.ensures.octets ∙ c.cycle_line.ensures.value ∙ ap (λ (v : Entry). cycle_line v.master v.cut) c.entry.view_is in
    record {
      paged = wrong_first_paged g.S.Sink.writing g.S.Sink.beside_writes _ _ _ _ (entry_text e) c.as_slice.result.now (pair_lines e.pairs) _ _ c.from_residual.ensures.0
          (ap (λ (l : List ℕ). l ++ pair_lines e.pairs) head) c.in_err-put.ensures.paged;
    }

pub returns : goal.returns
returns g c =
    let e = c.args.entry.now in
    let head : c.as_slice.result.now ≡ cycle_line e.master e.cut =
    c.as_slice.ensures.octets ∙ c.cycle_line.ensures.value ∙ ap (λ (v : Entry). cycle_line v.master v.cut) c.entry.view_is in
    let rest : pair_lines c.as_slice-2.result.now ≡ pair_lines e.pairs =
    ap pair_lines c.as_slice-2.ensures.items ∙ ap (λ (v : Entry). pair_lines v.pairs) c.entry.view_is in
    record {
      paged = paged_both g.S.Sink.writing g.S.Sink.beside_writes _ _ _ _ _ _ (entry_text e) c.as_slice.result.now (pair_lines c.as_slice-2.result.now) _
          (λ i. head i ++ rest i) c.in_ok-put.ensures.paged c.put_pairs.ensures.paged;
    }
