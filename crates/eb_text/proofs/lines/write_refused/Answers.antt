use Rattle.std.proofs.Common.{sym, subst}
use Rattle.eb_io.specs.Writing.{Wrote}
use Rattle.soc_desc.specs.declared.fault.DescFault.{DescFault}
use Rattle.eb_text.specs.Lines.{refusal_line}
use Rattle.eb_text.proofs.lines.write_refused.Goals as goal

pub returns-in-Overlap : goal.returns-in-Overlap
returns-in-Overlap g c = record {
  wrote = subst (λ (f : DescFault). Wrote g.K.Sink.writing g.K.Sink.beside_writes c.args.sink.now c.write_overlap.new.sink (refusal_line f) c.write_overlap.result)
      (sym c.in-Overlap.is) c.write_overlap.ensures.wrote;
}

pub returns-in-Outside : goal.returns-in-Outside
returns-in-Outside g c = record {
  wrote = subst (λ (f : DescFault). Wrote g.K.Sink.writing g.K.Sink.beside_writes c.args.sink.now c.write_refusal-in-Outside.new.sink (refusal_line f) c.write_refusal-in-Outside.result)
      (sym c.in-Outside.is) c.write_refusal-in-Outside.ensures.wrote;
}

pub returns-in-TooMany : goal.returns-in-TooMany
returns-in-TooMany g c = record {
  wrote = subst (λ (f : DescFault). Wrote g.K.Sink.writing g.K.Sink.beside_writes c.args.sink.now c.write_refusal-in-TooMany.new.sink (refusal_line f) c.write_refusal-in-TooMany.result)
      (sym c.in-TooMany.is) c.write_refusal-in-TooMany.ensures.wrote;
}

pub returns-in-TooDeep : goal.returns-in-TooDeep
returns-in-TooDeep g c = record {
  wrote = subst (λ (f : DescFault). Wrote g.K.Sink.writing g.K.Sink.beside_writes c.args.sink.now c.write_refusal-in-TooDeep.new.sink (refusal_line f) c.write_refusal-in-TooDeep.result)
      (sym c.in-TooDeep.is) c.write_refusal-in-TooDeep.ensures.wrote;
}

pub returns-in-Name : goal.returns-in-Name
returns-in-Name g c = record {
  wrote = subst (λ (f : DescFault). Wrote g.K.Sink.writing g.K.Sink.beside_writes c.args.sink.now c.write_refusal-in-Name.new.sink (refusal_line f) c.write_refusal-in-Name.result)
      (sym c.in-Name.is) c.write_refusal-in-Name.ensures.wrote;
}
