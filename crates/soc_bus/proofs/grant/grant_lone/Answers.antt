-- The arbiter looks at the one port that waits.
use Rattle.std.proofs.Common.{sym, subst}
use Rattle.soc_core.specs.Core.{held}
use Rattle.soc_bus.specs.View.{states, wanting}
use Rattle.wb_crossbar.specs.Grant.{IsGrant}
use Rattle.wb_crossbar.specs.Alone.{lone_grant}
use Rattle.soc_bus.proofs.Nobody.{held_seen, is_lone}
use Rattle.soc_bus.proofs.grant.grant_lone.Goals as goal

pub returns-clause-grant : goal.returns-clause-grant
returns-clause-grant g c =
    let cs = states c.args.cycles.now in
    let granted : IsGrant c.args.arbiter.now (wanting cs) c.args.look.held (lone_grant c.step_lone-granted.result c.args.look.last) =
    c.step_lone-granted.ensures.grant (wanting cs) (is_lone c.args.cycles.now c.args.look c.requires.look c.requires.lone) in
    subst (IsGrant c.args.arbiter.now (wanting cs) (held cs)) (sym c.lone_grant.ensures.grant)
    (subst (λ h. IsGrant c.args.arbiter.now (wanting cs) h (lone_grant c.step_lone-granted.result c.args.look.last)) (held_seen cs c.args.look c.requires.look) granted)
