use Rattle.std.proofs.Common.{false, refl}
use Rattle.eb_shared.specs.Shared.{stake_by}
use Rattle.eb_shared.proofs.TurnLemmas.{same_self}
use Rattle.eb_shared.proofs.RecordLemmas.{recorded, between_after}
use Rattle.eb_shared.proofs.records.later_record.Goals as goal

pub turns_to_end-requires-clause-set : goal.turns_to_end-requires-clause-set
turns_to_end-requires-clause-set g c = (false, c.requires.between.all refl)

pub returns-clause-recorded : goal.returns-clause-recorded
returns-clause-recorded g c = λ done.
    let p = c.args.pass in let end = c.turns_to_end.ensures in
    recorded p p c.turns_to_end.result.0 c.args.set.0 (stake_by p).opened c.args.part.ops.now c.turns_to_end.new.answers.items c.args.part.last
    (same_self p) end.same c.requires.some (end.count done) refl refl refl (end.stake done) (end.made done)

pub returns-clause-between : goal.returns-clause-between
returns-clause-between g c = λ done.
    let p = c.args.pass in let end = c.turns_to_end.ensures in
    between_after p p c.turns_to_end.result.0 c.args.set.0 (stake_by p).opened c.args.part.ops.now c.turns_to_end.new.answers.items c.args.part.last
    (same_self p) end.same c.requires.some (end.count done) refl refl refl (end.stake done) (end.made done)
    c.requires.between.within (λ goes. c.requires.between.all refl)
