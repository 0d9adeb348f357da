use Rattle.std.proofs.Common.{◌≡◌, ◌-◌, length, arith}
use Rattle.soc_bus.proofs.Holders.{held_all}
use Rattle.soc_bus.proofs.clock.hold_all.Goals as goal

pub returns-clause-holders : goal.returns-clause-holders
returns-clause-holders g c =
    let none_left : length c.args.cycles.now - c.loop-i.i ≡ 0 = omega (arith, c.loop-i-test.false) in
    held_all c.args.cycles.now c.loop-i.holders (length c.args.holders.now) (length c.args.cycles.now - c.loop-i.i) none_left c.loop-i.invariant
