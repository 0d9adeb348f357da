-- A port of a bus as it is built.
use Rattle.std.proofs.Common.{◌≡◌, ◌∙◌, ap, sym}
use Rattle.eb_session.specs.Keeping.{SessionState, new_session}
use Rattle.soc_core.specs.Core.{Core, built_core}
use Rattle.soc_core.specs.Built.{fabric_of}
use Rattle.soc_bus.specs.View.{BusState}
use Rattle.soc_bus.proofs.LocalLemmas.{built_cycles}
use Rattle.eb_run.proofs.DescribedLemmas.{port_is}
use Rattle.eb_run.proofs.port_slave.PortSlave.new.Goals as goal

pub returns : goal.returns
returns c =
    let d = c.args.description.now in
    let port = c.new-3.result in
    let fresh = c.in_ok-session.ensures.fresh in
    let slave = ap (λ (s : SessionState). s.slave) fresh in
    let was : port.began.value.core ≡ built_core (fabric_of d) = ap (λ (b : BusState). b.core) c.new-3.ensures.began ∙ c.requires.built in
    let is : port.bus.now.core ≡ built_core (fabric_of d) = ap (λ (b : BusState). b.core) c.new-3.ensures.now ∙ c.requires.built in
    record {
      new = record {
        fresh = record {
          session = fresh ∙ ap new_session (sym slave);
          width = ap (λ (s : SessionState). s.slave.bus) fresh;
          number = c.new-3.ensures.number;
          none = built_cycles d c.requires.accepted port.began.value port.bus.now port.m was is;
          room = c.in_ok-rooms.ensures.room;
        };
        system_is = port_is d c.requires.accepted c.in_ok-session.session.slave port.began.value port.bus.now slave (ap (λ (b : BusState). b.description) c.new-3.ensures.now ∙ c.requires.of) was;
      };
    }
