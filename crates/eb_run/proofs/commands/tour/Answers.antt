use Rattle.std.proofs.Common.{List, inr, refl, subst}
use Rattle.eb_io.specs.Writing.{Took, WroteFront}
use Rattle.sdb_walk.specs.declared.found.Found.{Found}
use Rattle.soc_discovery.specs.Tree.{tree_of}
use Rattle.eb_text.specs.Listing.{listing_text}
use Rattle.eb_run.proofs.SendLemmas.{failed_text}
use Rattle.eb_run.proofs.commands.tour.Goals as goal

pub returns-in_err-write_listing : goal.returns-in_err-write_listing
returns-in_err-write_listing g c =
    let d = c.in_ok-found.found in
    let out = g.O.Sink.writing c.args.out.now in
    let out' = g.O.Sink.writing c.write_listing.new.sink in
    let wrote = subst (λ (l : List Found). WroteFront out out' (listing_text l)) c.in-Ok.ensures.tree c.in_err-write_listing.ensures.wrote.all in
    record {
      comes_to = inr (
        d,
        g.W.World.outside c.read_description.new.world,
        c.in_ok-found.ensures.description,
        (
          refl,
          inr (
            listing_text (tree_of d),
            refl,
            failed_text (listing_text (tree_of d)) out out' _ c.from_residual-in_err-write_listing.ensures.0 c.from_residual-in_err-write_listing.ensures.1 wrote,
          ),
        ),
      );
    }

pub returns : goal.returns
returns g c =
    let d = c.in_ok-found.found in
    let out = g.O.Sink.writing c.args.out.now in
    let out' = g.O.Sink.writing c.write_listing.new.sink in
    let wrote = subst (λ (l : List Found). Took out out' (listing_text l)) c.in-Ok.ensures.tree c.in_ok-write_listing.ensures.wrote.all in
    record {
      comes_to = inr (d, g.W.World.outside c.read_description.new.world, c.in_ok-found.ensures.description, (refl, inr (listing_text (tree_of d), refl, wrote)));
    }
