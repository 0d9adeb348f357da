-- The stream of a port.
use Rattle.std.proofs.Common.{◌≡◌, ap, subst}
use Rattle.wb_signals.specs.Cycles.{MasterCycles}
use Rattle.wb_signals.specs.History.{IsLegal}
use Rattle.soc_desc.specs.declared.description.Description.{Description}
use Rattle.soc_core.specs.Built.{fabric_of}
use Rattle.soc_bus.specs.View.{BusState}
use Rattle.soc_bus.specs.Local.{made_since, cycles_since}
use Rattle.eb_run.proofs.SlaveLemmas.{served_by}
use Rattle.eb_run.proofs.port_slave.PortSlaveStreamSlave.serve.Goals as goal

pub returns : goal.returns
returns g c =
    let old = c.args.self.now.port in
    let now = c.serve-ending.new.master in
    let made = made_since now.began.value now.bus.now in
    let began : now.began.value ≡ old.began.value = λ i. (c.serve-ending.ensures.identity i).kept.began in
    let of_ : now.bus.now.description ≡ old.bus.now.description = λ i. (c.serve-ending.ensures.identity i).kept.description in
    let legal =
    subst (λ (b : BusState). IsLegal (fabric_of old.bus.now.description).wiring b.core.contents made) began
    (subst (λ (d : Description). IsLegal (fabric_of d).wiring now.began.value.core.contents made) of_ c.entries_are_legal.ensures.legal) in
    record {
      served =
          served_by c.args.self.now.session.slave (fabric_of old.bus.now.description).wiring old.began.value.core.contents old.m
          (cycles_since old.began.value old.bus.now old.m) (cycles_since now.began.value now.bus.now now.m)
          (g.S.Source.reading c.args.source.now) (g.S.Source.reading c.serve-ending.new.source) (g.K.Sink.writing c.args.sink.now) (g.K.Sink.writing c.serve-ending.new.sink)
          c.serve-ending.result c.requires.new.number (ap (λ (m : MasterCycles). m.made) c.requires.new.none) legal c.serve-ending.ensures.served;
    }
