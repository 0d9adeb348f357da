use Rattle.std.proofs.Common.{rules, ◌≡◌, ◌∙◌, Bool, true, ap, refl}
use Rattle.soc_core.specs.Built.{fabric_of, set_of_cycle}
use Rattle.eb_shared.proofs.RecordLemmas.{between_at_once, between_later}
use Rattle.eb_shared.proofs.records.first_record.Goals as goal

pub returns-else-not-done-clause-between : goal.returns-else-not-done-clause-between
returns-else-not-done-clause-between g c = λ _.
    let p = c.args.pass in let ops = c.args.part.ops.now in let last : Bool = c.args.part.last in
    let first = c.first_turn-pass.ensures in let end = c.turns_to_end-pass.ensures in
    let done : c.turns_to_end-pass.result.1 ≡ true = search rules in
    between_later p c.first_turn-pass.result.1.0 ops last c.requires.some (c.requires.between.rest refl) c.requires.between.within
    (λ goes. first.set ∙ ap (λ (b : Bool). set_of_cycle (fabric_of p.last.description) ops b) goes)
    c.first_turn-pass.result.2 c.in-Goes.stage c.first_turn-pass.result.0 c.turns_to_end-pass.result.0 c.first_turn-pass.new.answers.items c.turns_to_end-pass.new.answers.items
    c.in-Goes.is first.same first.came end.same (end.count done) (end.stake done) (end.made done)

pub returns-in-Taken-clause-between : goal.returns-in-Taken-clause-between
returns-in-Taken-clause-between g c = λ _.
    let p = c.args.pass in let ops = c.args.part.ops.now in let last : Bool = c.args.part.last in
    let first = c.first_turn-pass.ensures in
    between_at_once p c.first_turn-pass.result.1.0 ops last c.requires.some (c.requires.between.rest refl) c.requires.between.within
    (λ goes. first.set ∙ ap (λ (b : Bool). set_of_cycle (fabric_of p.last.description) ops b) goes)
    c.first_turn-pass.result.2 c.first_turn-pass.result.0 c.first_turn-pass.new.answers.items c.in-Taken.is first.same first.came
