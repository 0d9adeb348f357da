use Rattle.std.proofs.Common.{ap, arith}
use Rattle.eb_session.specs.Keeping.{SessionState, octets_taken}
use Rattle.eb_loopback.proofs.JoinedLemmas.{joined_new}
use Rattle.eb_loopback.proofs.loopback.Loopback.new.Goals as goal

pub invariant_of-result : goal.invariant_of-result
invariant_of-result g c = (
  omega arith,
  omega (arith, ap octets_taken c.requires.fresh),
  joined_new g.M.Master.identity g.M.Master.cycles c.args.session c.args.master c.of-began.result.value c.new-2.result c.new-3.result c.new.result.items c.requires.fresh c.requires.width c.requires.none_open c.of-began.ensures
      c.new-2.ensures.items c.new-3.ensures.items c.new.ensures.items,
  λ none. ap (λ (s : SessionState). s.ending) c.requires.fresh,
)
