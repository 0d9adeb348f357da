use Rattle.std.proofs.Common.{inl, inr, refl}
use Rattle.eb_host.specs.Exchange.{duplex}
use Rattle.eb_client.proofs.ListedLemmas.{no_root, walked}
use Rattle.eb_client.proofs.listing.walk_over.Goals as goal

pub returns-in-Err : goal.returns-in-Err
returns-in-Err g c = record { walks = inr (c.in-Err.fault, refl, inl c.in-Err.ensures.opens) }

pub returns-in-Err-root : goal.returns-in-Err-root
returns-in-Err-root g c = record {
  walks = no_root g.L.Source.reading g.L.Sink.writing (duplex (g.L.Source.reading c.args.link) (g.L.Sink.writing c.args.link)) c.in-Ok.host c.root.new.self c.into_link.result c.into_link-in-Err-root.result
      c.in-Err-root.fault c.in-Ok.ensures.opens c.in-Err-root.ensures.root c.into_link.ensures.link c.into_link-in-Err-root.ensures.link;
}

pub returns : goal.returns
returns g c = record {
  walks = walked g.L.Source.reading g.L.Sink.writing (λ _. tt) (duplex (g.L.Source.reading c.args.link) (g.L.Sink.writing c.args.link)) c.in-Ok.host c.root.new.self c.into_host.result
      c.new-reader.result c.discover-found.new.reader c.into_link-2.result c.into_link-3.result c.in-Ok-root.root c.discover-found.result c.in-Ok.ensures.opens c.in-Ok-root.ensures.root
      c.new-reader.ensures.new c.discover-found.ensures.origin c.into_host.ensures.read c.discover-found.ensures.walk c.into_host.ensures.host c.into_link-2.ensures.link c.into_link-3.ensures.link;
}
