use Rattle.std.proofs.Common.{refl, ap, ◌∙◌}
use Rattle.eb_base.specs.declared.width.Width.TheVariants.{W32}
use Rattle.eb_codec.specs.declared.item.Header.{Header}
use Rattle.eb_tour.proofs.TourLemmas.{same_identity, tours_by}
use Rattle.eb_tour.proofs.touring.tour_over.Goals as goal

pub new-reader-requires : goal.new-reader-requires
new-reader-requires g c = record { port = ap (λ (h : Header). h.port) c.in-Ok-root.ensures.header ∙ c.in-Ok.ensures.only_port W32 refl }

pub returns : goal.returns
returns g c = record {
  tours = tours_by g.M.Master.identity g.M.Master.cycles c.args.link c.into_link-link.result c.in-Ok.host c.root.new.self c.into_host.result c.new-reader.result c.discover-found.new.reader
      c.in-Ok.ensures.other_end c.in-Ok-root.ensures.other_end c.new-reader.ensures.new c.discover-found.ensures.origin c.into_host.ensures.read c.into_host.ensures.host c.into_link-link.ensures.link
      c.in-Ok-root.root c.discover-found.result c.requires.new c.requires.made c.session.ensures.joined c.session.ensures.runs c.in-Ok.ensures.opens (c.in-Ok.ensures.only_port W32 refl) c.in-Ok-root.ensures.root
      c.discover-found.ensures.walk;
  identity = same_identity g.M.Master.identity g.M.Master.cycles c.args.link c.into_link-link.result c.in-Ok.host c.root.new.self c.into_host.result c.new-reader.result c.discover-found.new.reader
      c.in-Ok.ensures.other_end c.in-Ok-root.ensures.other_end c.new-reader.ensures.new c.discover-found.ensures.origin c.into_host.ensures.read c.into_host.ensures.host c.into_link-link.ensures.link
      c.requires.new c.session.ensures.joined;
}
