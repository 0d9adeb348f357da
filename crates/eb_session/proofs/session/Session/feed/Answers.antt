use Rattle.std.proofs.Common.{subst}
use Rattle.eb_session.specs.Keeping.{SessionState, MalformedExactly}
use Rattle.eb_session.proofs.session.Session.feed.Goals as goal

pub returns-in-None-clause-malformed : goal.returns-in-None-clause-malformed
returns-in-None-clause-malformed g c = subst (λ (k : SessionState). MalformedExactly k c.args.piece.now c.feed_item.result) c.in-None.ensures.left c.feed_item.ensures.malformed
