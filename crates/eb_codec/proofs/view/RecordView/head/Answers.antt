use Rattle.std.proofs.Common.{arith}
use Rattle.eb_codec.proofs.ViewLemmas.{views}
use Rattle.eb_codec.proofs.view.RecordView.head.Goals as goal

pub read_head-requires : goal.read_head-requires
read_head-requires c = let v = views c.self.inside.header c.self.inside.octets.now c.args.self.now c.self.invariant c.self.view_is in omega (arith, v.long)
