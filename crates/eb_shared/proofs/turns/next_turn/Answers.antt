use Rattle.std.proofs.Common.{rules, ◌≡◌, ◌∙◌, ap, subst, sym}
use Rattle.soc_desc.specs.declared.description.Description.{Description}
use Rattle.soc_core.specs.Fabric.{AllGoIn}
use Rattle.soc_core.specs.Built.{fabric_of, set_of_cycle}
use Rattle.soc_turn.specs.Views.{PassView}
use Rattle.soc_bus.specs.View.{BusState}
use Rattle.soc_bus.proofs.LocalLemmas.{set_goes}
use Rattle.eb_shared.proofs.TurnLemmas.{found_description, next_came}
use Rattle.eb_shared.proofs.turns.next_turn.Goals as goal

pub go_on-reached-requires-clause-go : goal.go_on-reached-requires-clause-go
go_on-reached-requires-clause-go g c =
    let x : BusState = c.take-held.result.1 in
    let same : x.description ≡ c.args.pass.last.description = found_description c.args.pass.number c.args.pass.last x c.take-held.ensures.value in
    let is : c.args.way.set.0 ≡ set_of_cycle (fabric_of x.description) c.args.part.ops.now c.requires.set.0 =
    c.requires.set.1 ∙ ap (λ (d : Description). set_of_cycle (fabric_of d) c.args.part.ops.now c.requires.set.0) (sym same) in
    subst (λ s. AllGoIn (fabric_of x.description) s c.args.part.ops.now) (sym is) (set_goes (fabric_of x.description) c.journal.ensures.kept.fabric c.args.part.ops.now c.requires.set.0)

pub returns-clause-came : goal.returns-clause-came
returns-clause-came g c =
    let number : c.put.result.number ≡ c.args.pass.number = search rules in
    next_came c.go_on-reached.result c.args.pass c.put.result c.take-held.result.1 c.go_on-reached.new.bus c.number-m.result c.args.way.set.0
    c.args.part.ops.now c.args.part.last c.go_on-reached.new.answers.items
    c.number-m.ensures.number number (ap (λ (p : PassView BusState). p.last) c.put.ensures.pass) c.take-held.ensures.value c.go_on-reached.ensures.came
