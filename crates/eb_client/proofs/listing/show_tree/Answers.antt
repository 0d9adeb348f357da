use Rattle.std.proofs.Common.{Ok, Err}
use Rattle.eb_client.proofs.ShownLemmas.{shows_listing}
use Rattle.eb_client.proofs.listing.show_tree.Goals as goal

pub returns-in-Ok-write_listing : goal.returns-in-Ok-write_listing
returns-in-Ok-write_listing g c = record {
  shows = shows_listing g.O.Sink.writing g.O.Sink.beside_writes c.in-Ok.tree c.args.found.now c.args.out.now c.write_listing.new.sink (Ok c.in-Ok-write_listing.field-0) c.in-Ok.is
      c.in-Ok-write_listing.ensures.wrote;
}

pub returns-in-Err-write_listing : goal.returns-in-Err-write_listing
returns-in-Err-write_listing g c = record {
  shows = shows_listing g.O.Sink.writing g.O.Sink.beside_writes c.in-Ok.tree c.args.found.now c.args.out.now c.write_listing.new.sink (Err c.in-Err-write_listing.field-0) c.in-Ok.is
      c.in-Err-write_listing.ensures.wrote;
}
