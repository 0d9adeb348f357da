use Rattle.std.proofs.Common.{rules, ◌≡◌, ◌<◌, ◌^◌, ℕ, ap, subst, sym}
use Rattle.soc_core.specs.Fabric.{AllGoIn}
use Rattle.soc_core.specs.Built.{fabric_of}
use Rattle.soc_turn.specs.Views.{PassView}
use Rattle.soc_bus.specs.View.{BusState}
use Rattle.soc_bus.proofs.LocalLemmas.{set_below, set_goes}
use Rattle.eb_shared.proofs.TurnLemmas.{first_came}
use Rattle.eb_shared.proofs.turns.first_turn.Goals as goal

pub open_cycle-reached-requires-clause-below : goal.open_cycle-reached-requires-clause-below
open_cycle-reached-requires-clause-below g c =
    let f = fabric_of c.take-held.result.1.description in
    subst (λ (n : ℕ). n < 2 ^ f.slaves) (sym c.set_of-set.ensures.set) (set_below f c.journal.ensures.kept.fabric c.args.part.ops.now c.args.part.last)

pub open_cycle-reached-requires-clause-go : goal.open_cycle-reached-requires-clause-go
open_cycle-reached-requires-clause-go g c =
    let f = fabric_of c.take-held.result.1.description in
    subst (λ (n : ℕ). AllGoIn f n c.args.part.ops.now) (sym c.set_of-set.ensures.set) (set_goes f c.journal.ensures.kept.fabric c.args.part.ops.now c.args.part.last)

pub returns-clause-came : goal.returns-clause-came
returns-clause-came g c =
    let number : c.put.result.number ≡ c.args.pass.number = search rules in
    first_came c.open_cycle-reached.result c.args.pass c.put.result c.take-held.result.1 c.open_cycle-reached.new.bus c.number-m.result c.set_of-set.result.0
    c.args.part.ops.now c.args.part.last c.open_cycle-reached.new.answers.items
    c.number-m.ensures.number number (ap (λ (p : PassView BusState). p.last) c.put.ensures.pass) c.take-held.ensures.value c.open_cycle-reached.ensures.came
