use Rattle.std.proofs.Common.{◌≡◌, ◌<◌, Some, refl, sym, subst, arith}
use Rattle.soc_turn.specs.Views.{PassView}
use Rattle.soc_bus.specs.View.{BusState}
use Rattle.eb_shared.specs.Lanes.{IsThere}
use Rattle.eb_shared.proofs.PassLemmas.{built_stake}
use Rattle.eb_shared.proofs.passes.new_pass.Goals as goal

pub returns-clause-there : goal.returns-clause-there
returns-clause-there c =
    let few = c.requires.few in let masters = c.requires.masters in
    let within : c.args.root.now.made < c.args.root.now.origin.description.masters = omega (arith, few, masters) in
    subst (λ (p : PassView BusState). IsThere c.args.turn.now (Some p)) (sym c.pass.ensures.pass)
    (refl, (refl, within, built_stake c.args.root.now.origin c.args.root.now.made c.requires.built))
