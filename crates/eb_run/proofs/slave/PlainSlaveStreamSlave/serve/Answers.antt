use Rattle.std.proofs.Common.{ap}
use Rattle.eb_run.proofs.SlaveLemmas.{served_on}
use Rattle.eb_run.proofs.slave.PlainSlaveStreamSlave.serve.Goals as goal

pub returns : goal.returns
returns g c = record {
  served =
      served_on c.args.self.now.session.slave c.args.self.now.master c.serve-ending.new.master (g.S.Source.reading c.args.source.now) (g.S.Source.reading c.serve-ending.new.source)
      (g.K.Sink.writing c.args.sink.now) (g.K.Sink.writing c.serve-ending.new.sink) c.serve-ending.result c.requires.new.master (ap (λ q. q.kept) c.serve-ending.ensures.identity) c.recorder.ensures.legal c.serve-ending.ensures.served;
}
