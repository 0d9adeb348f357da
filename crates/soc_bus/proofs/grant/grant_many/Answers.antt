-- The arbiter looks at what the cycles ask for.
use Rattle.std.proofs.Common.{◌≡◌, ℕ, take, length, subst}
use Rattle.soc_bus.specs.View.{states, wanting}
use Rattle.wb_crossbar.specs.Looks.{wanted}
use Rattle.wb_crossbar.specs.Grant.{IsGrant}
use Rattle.soc_bus.proofs.CycleLists.{wanted_is}
use Rattle.soc_bus.proofs.Nobody.{held_seen}
use Rattle.soc_bus.proofs.grant.grant_many.Goals as goal

pub returns-clause-grant : goal.returns-clause-grant
returns-clause-grant g c =
    let n : ℕ = length c.args.cycles.now in
    let same : wanted (take n c.wants_in-wants.result) ≡ wanting (states c.args.cycles.now) =
    (λ i m. wanted_is (take n c.wants_in-wants.result) (states c.args.cycles.now) c.wants_in-wants.ensures.wants m i) in
    subst (λ h. IsGrant c.args.arbiter.now (wanting (states c.args.cycles.now)) h c.step-grant.result) (held_seen (states c.args.cycles.now) c.args.look c.requires.look)
    (subst (λ w. IsGrant c.args.arbiter.now w c.args.look.held c.step-grant.result) same c.step-grant.ensures.grant)
