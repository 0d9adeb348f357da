use Rattle.std.proofs.Common.{map, string_bytes}
use Rattle.eb_run.specs.Run.{run_of}
use Rattle.eb_run.proofs.RanLemmas.{ran}
use Rattle.eb_run.proofs.shared.run_shared.Goals as goal

pub returns : goal.returns
returns g c =
    let run =
    run_of g.W.File.Source.reading (g.W.World.outside c.args.world.now) (g.W.World.outside c.run_shared_words-ran.new.world) (g.O.Sink.writing c.args.out.now)
    (g.O.Sink.writing c.run_shared_words-ran.new.out) in
    record {
      ran =
          ran run (g.E.Sink.writing c.args.err.now) (g.E.Sink.writing c.tell.new.err) (map string_bytes c.args.words.now) c.run_shared_words-ran.result c.tell.result
          c.run_shared_words-ran.ensures.comes_to c.tell.ensures.status c.tell.ensures.tells;
    }
