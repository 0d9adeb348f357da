use Rattle.std.proofs.Common.{rules, ◌≡◌, ℕ, ap, ◌∙◌}
use Rattle.soc_turn.specs.Views.{PassView}
use Rattle.wb_signals.specs.Cycles.{made_with}
use Rattle.soc_core.specs.Core.{stake}
use Rattle.soc_bus.specs.View.{BusState}
use Rattle.eb_shared.proofs.TurnLemmas.{ended_made}
use Rattle.eb_shared.proofs.turns.release_turn.Goals as goal

pub returns-clause-made : goal.returns-clause-made
returns-clause-made g c =
    let x : BusState = c.take-held.result.1 in
    let number : c.put.result.number ≡ c.args.pass.number = search rules in
    ended_made c.args.pass c.put.result x c.release.new.bus c.args.cut number (ap (λ (p : PassView BusState). p.last) c.put.ensures.pass) c.take-held.ensures.value
    (c.release.ensures.journal ∙ ap (λ (k : ℕ). made_with k c.args.cut x.core.journal (stake x.core k).opened) c.number-m.ensures.number)
