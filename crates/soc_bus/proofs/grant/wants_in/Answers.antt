use Rattle.std.proofs.Common.{◌∙◌, arith}
use Rattle.std.proofs.lemmas.List.{length-set}
use Rattle.soc_bus.proofs.CycleLists.{wants_more}
use Rattle.soc_bus.proofs.grant.wants_in.Goals as goal

pub loop-i-preserved : goal.loop-i-preserved
loop-i-preserved g c = record {
  long = length-set c.loop-i.wants c.loop-i.i c.wants.result ∙ c.loop-i.invariant.long;
  so_far = wants_more c.loop-i.wants c.args.cycles.now c.loop-i.i c.wants.result c.index-cycles-i.result (omega (arith, c.loop-i.invariant.long)) c.loop-i-test.true c.index-cycles-i.is c.wants.ensures.wants c.loop-i.invariant.so_far;
}
