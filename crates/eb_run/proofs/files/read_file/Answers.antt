use Rattle.eb_run.proofs.FileLemmas.{reads_text}
use Rattle.eb_run.proofs.files.read_file.Goals as goal

pub returns-in-All : goal.returns-in-All
returns-in-All g c = record {
  file =
      reads_text g.W.File.Source.reading (g.W.World.outside c.args.world.now) (g.W.World.outside c.open.new.self) (g.W.World.outside c.read_last.new.world) c.args.name.now c.in-All.octets
      c.in-Done.ensures.opens c.in-All.ensures.last;
}
