use Rattle.std.proofs.Common.{◌≡◌, get_or, refl}
use Rattle.std.proofs.lemmas.List.{get_or_default}
use Rattle.soc_bus.specs.View.{CycleView, rooms}
use Rattle.soc_bus.proofs.CycleLists.{rooms_more}
use Rattle.soc_bus.proofs.Nobody.{lone_steps}
use Rattle.soc_bus.proofs.grant.step_lone.Goals as goal

pub returns-else-look-clause-states : goal.returns-else-look-clause-states
returns-else-look-clause-states g c =
    let r : CycleView = get_or c.args.cycles.now c.args.look.last c.index-cycles-look.result in
    let is : r ≡ get_or c.args.cycles.now c.args.look.last r = get_or_default c.args.cycles.now c.args.look.last c.index-cycles-look.result r c.requires.within in
    lone_steps c.args.cycles.now c.args.look c.args.granted r c.step.new.self c.requires.look c.requires.lone c.if-look.false is c.step.ensures.state

pub returns-else-look-clause-rooms : goal.returns-else-look-clause-rooms
returns-else-look-clause-rooms g c =
    let r : CycleView = get_or c.args.cycles.now c.args.look.last c.index-cycles-look.result in
    let is : r ≡ get_or c.args.cycles.now c.args.look.last r = get_or_default c.args.cycles.now c.args.look.last c.index-cycles-look.result r c.requires.within in
    rooms_more c.args.cycles.now c.args.look.last c.step.new.self r (rooms c.args.cycles.now) is c.step.ensures.room refl
