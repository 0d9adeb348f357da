use Rattle.eb_run.specs.Run.{run_of}
use Rattle.eb_run.proofs.FileLemmas.{answers}
use Rattle.eb_run.proofs.streams.answer_capture.Goals as goal

pub returns-in-Done : goal.returns-in-Done
returns-in-Done g c =
    let run =
    run_of g.W.File.Source.reading (g.W.World.outside c.args.world.now) (g.W.World.outside c.serve_last.new.world) (g.O.Sink.writing c.args.out.now) (g.O.Sink.writing c.serve_last.new.out) in
    record {
      answers =
          answers run (g.W.World.outside c.open.new.self) c.args.capture.now (g.L.StreamSlave.system c.args.slave.now) (g.L.StreamSlave.entries c.serve_last.new.slave) c.serve_last.result c.result_of.result
          c.in-Done.ensures.opens c.serve_last.ensures.last c.result_of.ensures.result;
    }
