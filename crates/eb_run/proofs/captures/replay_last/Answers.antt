use Rattle.eb_run.proofs.OpenLemmas.{taken_fresh}
use Rattle.eb_run.proofs.captures.replay_last.Goals as goal

pub replay-files-requires-clause-fresh : goal.replay-files-requires-clause-fresh
replay-files-requires-clause-fresh g c κs within =
    taken_fresh g.W.File.Source.reading c.args.count (g.W.World.outside c.args.world.now) c.in_ok-others.others.items c.in_ok-others.files.items c.requires.fresh c.in_ok-others.ensures.taken
    c.in_ok-others.ensures.count
