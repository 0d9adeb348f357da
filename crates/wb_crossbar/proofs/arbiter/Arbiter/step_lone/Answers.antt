-- One port alone waits.
use Rattle.std.proofs.Common.{◌≡◌, ◌<◌, ◌^◌, ap, sym, ◌∙◌, subst}
use Rattle.wb_crossbar.specs.Grant.{Turn, port_after, IsNext}
use Rattle.wb_crossbar.proofs.LoneGrant.{none_granted, lone_granted, none_next, lone_next}
use Rattle.wb_crossbar.proofs.arbiter.Arbiter.step_lone.Goals as goal

pub returns-then-held-set-ne0-clause-grant : goal.returns-then-held-set-ne0-clause-grant
returns-then-held-set-ne0-clause-grant c = λ wants lone. none_granted c.args.self.now wants c.args.held.0 c.args.port c.args.set.0 lone c.if-held-set-ne0.true

pub returns-then-held-set-ne0-clause-next : goal.returns-then-held-set-ne0-clause-next
returns-then-held-set-ne0-clause-next c = none_next c.args.self.now (subst (λ (t : Turn). t.first < t.ports) c.self.view_is c.self.invariant.0)

pub returns-clause-grant : goal.returns-clause-grant
returns-clause-grant c = λ wants lone.
    lone_granted c.args.self.now wants c.args.held.0 c.args.port c.args.set.0 lone (subst (λ (t : Turn). t.first < t.ports) c.self.view_is c.self.invariant.0) c.requires c.if-held-set-ne0.false

pub returns-clause-next : goal.returns-clause-next
returns-clause-next c =
    let next : c.port_after-self-inside.result ≡ port_after c.args.self.now.ports c.args.port =
    c.port_after-self-inside.ensures.port ∙ ap (λ (t : Turn). port_after t.ports c.args.port) c.self.view_is in
    subst (IsNext c.args.self.now (2 ^ c.args.port)) (sym next) (lone_next c.args.self.now (subst (λ (t : Turn). t.first < t.ports) c.self.view_is c.self.invariant.0) c.args.port c.requires)
