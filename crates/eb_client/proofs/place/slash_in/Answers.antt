use Rattle.std.proofs.Common.{◌≢◌, ◌<◌, length, get_or, rules}
use Rattle.eb_client.proofs.PlaceLemmas.{no_slash_more}
use Rattle.eb_client.proofs.place.slash_in.Goals as goal

pub loop-i-preserved : goal.loop-i-preserved
loop-i-preserved c =
    let lt : c.loop-i.i < length c.args.word.now = search rules in
    let other : get_or c.args.word.now c.loop-i.i 0 ≢ 47 = search rules in
    no_slash_more c.args.word.now c.loop-i.i lt c.loop-i.invariant other
