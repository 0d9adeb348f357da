use Rattle.std.proofs.Common.{arith, refl, sym, ap, ◌∙◌, inr}
use Rattle.eb_base.specs.declared.width.Widths.{Widths}
use Rattle.eb_host.specs.Exchange.{duplex}
use Rattle.eb_host.specs.Host.{header}
use Rattle.eb_host.specs.Opening.{common}
use Rattle.eb_host.proofs.opening.shake.Goals as goal

pub returns-in-Ok-head : goal.returns-in-Ok-head
returns-in-Ok-head g c = record {
  shakes = (
    refl,
    record {
      mid = duplex (g.L.Source.reading c.probe.new.link) (g.L.Sink.writing c.probe.new.link);
      heard = c.head.new.heard.items;
      chosen = record {
        heard = c.probe.new.heard.items;
        probed = c.in-Ok.ensures.probes.0;
        address = ap (λ (w : Widths). common c.args.widths.addresses w.addresses) (sym c.in-Ok.ensures.probes.1) ∙ sym c.common.ensures ∙ c.in-Some.is;
        port = ap (λ (w : Widths). common c.args.widths.ports w.ports) (sym c.in-Ok.ensures.probes.1) ∙ sym c.common-2.ensures ∙ c.in-Some-common.is;
        replied = refl;
      };
      headed = c.in-Ok-head.ensures.heads;
    },
  );
  room = omega (arith, c.in-Ok.ensures.room, c.in-Ok-head.ensures.room);
  other_end = c.in-Ok-head.ensures.other_end ∙ c.in-Ok.ensures.other_end;
}

pub returns-in-Err-head : goal.returns-in-Err-head
returns-in-Err-head g c = record {
  shakes = inr (inr (record {
    header_is = header c.in-Some.address c.in-Some-common.port;
    mid = duplex (g.L.Source.reading c.probe.new.link) (g.L.Sink.writing c.probe.new.link);
    heard = c.head.new.heard.items;
    chosen = record {
      heard = c.probe.new.heard.items;
      probed = c.in-Ok.ensures.probes.0;
      address = ap (λ (w : Widths). common c.args.widths.addresses w.addresses) (sym c.in-Ok.ensures.probes.1) ∙ sym c.common.ensures ∙ c.in-Some.is;
      port = ap (λ (w : Widths). common c.args.widths.ports w.ports) (sym c.in-Ok.ensures.probes.1) ∙ sym c.common-2.ensures ∙ c.in-Some-common.is;
      replied = refl;
    };
    headed = c.in-Err-head.ensures.heads;
  }));
  room = omega (arith, c.in-Ok.ensures.room, c.in-Err-head.ensures.room);
  other_end = c.in-Err-head.ensures.other_end ∙ c.in-Ok.ensures.other_end;
}
