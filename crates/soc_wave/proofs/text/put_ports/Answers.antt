use Rattle.std.proofs.Common.{refl, ◌∙◌}
use Rattle.std.proofs.lemmas.List.{get_or_default}
use Rattle.soc_wave.specs.Text.{port_line, port_lines}
use Rattle.soc_wave.proofs.Numbered.{paging_numbered, wrong_paging_numbered}
use Rattle.soc_wave.proofs.text.put_ports.Goals as goal

pub returns-in_err-put : goal.returns-in_err-put
returns-in_err-put g c = record {
  paged = wrong_paging_numbered g.S.Sink.writing g.S.Sink.beside_writes (port_line c.args.clock) (port_lines c.args.clock) (λ n. refl) (λ n p ports. refl) _ _ _ c.args.page.now _ _ (port_lines c.args.clock 0 c.args.ports.now) c.args.ports.now c.loop-m.m _ _ _ _
      c.from_residual.ensures.0 c.loop-m-test.true (get_or_default c.args.ports.now c.loop-m.m _ _ c.loop-m-test.true) (c.as_slice.ensures.octets ∙ c.port_line.ensures.value)
      c.loop-m.invariant c.in_err-put.ensures.paged;
}

pub loop-m-preserved : goal.loop-m-preserved
loop-m-preserved g c =
    paging_numbered g.S.Sink.writing g.S.Sink.beside_writes (port_line c.args.clock) (port_lines c.args.clock) (λ n. refl) (λ n p ports. refl) _ _ _ c.args.page.now _ _ (port_lines c.args.clock 0 c.args.ports.now) c.args.ports.now c.loop-m.m _ _
    c.loop-m-test.true (get_or_default c.args.ports.now c.loop-m.m _ _ c.loop-m-test.true) (c.as_slice.ensures.octets ∙ c.port_line.ensures.value)
    c.loop-m.invariant c.in_ok-put.ensures.paged
