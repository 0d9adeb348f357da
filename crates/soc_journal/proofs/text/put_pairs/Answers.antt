use Rattle.std.proofs.Common.{refl, ◌∙◌, arith}
use Rattle.eb_io.proofs.PageLemmas.{paging_none, paging_item, wrong_paging_item}
use Rattle.soc_journal.specs.Text.{pair_line, pair_lines}
use Rattle.soc_journal.proofs.text.put_pairs.Goals as goal

pub loop-pair-init : goal.loop-pair-init
loop-pair-init g c = paging_none g.S.Sink.writing g.S.Sink.beside_writes c.args.sink.now c.args.page.now (pair_lines c.args.pairs.now)

pub returns-in_err-put : goal.returns-in_err-put
returns-in_err-put g c = record {
  paged = wrong_paging_item g.S.Sink.writing g.S.Sink.beside_writes pair_line pair_lines (λ p pairs. refl) _ _ _ _ _ _ c.args.pairs.now c.loop-pair.pair-index c.pair-item.result _ _ _
      c.from_residual.ensures.0 (omega arith) c.pair-item.is (c.as_slice.ensures.octets ∙ c.pair_line.ensures.value) c.loop-pair.invariant c.in_err-put.ensures.paged;
}

pub loop-pair-preserved : goal.loop-pair-preserved
loop-pair-preserved g c =
    paging_item g.S.Sink.writing g.S.Sink.beside_writes pair_line pair_lines (λ p pairs. refl) _ _ _ _ _ _ c.args.pairs.now c.loop-pair.pair-index c.pair-item.result _
    (omega arith) c.pair-item.is (c.as_slice.ensures.octets ∙ c.pair_line.ensures.value) c.loop-pair.invariant c.in_ok-put.ensures.paged
