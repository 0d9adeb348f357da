use Rattle.std.proofs.Common.{drop}
use Rattle.eb_io.proofs.PageLemmas.{Paging}
use Rattle.eb_text.specs.Listing.{listing_text}
use Rattle.eb_text.proofs.listing.put_tree.Given as goal

abbrev pub invariant-loop-found : goal.invariant-loop-found
invariant-loop-found g l =
    Paging g.K.Sink.writing g.K.Sink.beside_writes l.initial.sink l.sink l.initial.page l.page (listing_text l.tree) (listing_text (drop l.found-index l.tree))
