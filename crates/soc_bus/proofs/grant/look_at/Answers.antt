use Rattle.std.proofs.Common.{◌≡◌, ◌<◌, length, ◌∙◌, ap, arith}
use Rattle.soc_bus.specs.View.{states}
use Rattle.soc_bus.specs.Look.{nothing_seen, seen, looked_from}
use Rattle.soc_bus.proofs.Nobody.{look_few, look_more}
use Rattle.soc_bus.proofs.grant.look_at.Goals as goal

pub loop-i-preserved : goal.loop-i-preserved
loop-i-preserved g c =
    let within : c.loop-i.i < length c.args.cycles.now = omega (arith, c.loop-i-test.true) in
    let step : c.see.new.look ≡ seen c.index-cycles-i.result.state.phase c.loop-i.i c.loop-i.look =
    c.see.ensures.seen ∙ ap (λ p. seen p c.loop-i.i c.loop-i.look) c.phase.ensures.phase in
    record {
      few = look_few c.index-cycles-i.result.state.phase c.loop-i.i c.loop-i.look c.see.new.look step c.loop-i.invariant.few;
      rest = look_more c.args.cycles.now c.loop-i.i c.index-cycles-i.result c.loop-i.look c.see.new.look (looked_from 0 (states c.args.cycles.now) nothing_seen) within c.index-cycles-i.is step c.loop-i.invariant.rest;
    }
