use Rattle.std.proofs.Common.{Option, Result, sym, subst}
use Rattle.eb_serve.specs.declared.unclean.Unclean.{Unclean}
use Rattle.eb_serving.specs.declared.fault.ServingFault.{ServingFault}
use Rattle.eb_serving.specs.ServingRuns.{TellsServing}
use Rattle.eb_serving.proofs.run.tell.Goals as goal

pub returns-in-Err-clause-tells : goal.returns-in-Err-clause-tells
returns-in-Err-clause-tells g c =
    subst (λ (r : Result (Option Unclean) ServingFault). TellsServing (g.E.Sink.writing c.args.err.now) (g.E.Sink.writing c.write_serving_line.new.sink) r) (sym c.in-Err.is)
    (c.write_serving_line.result, c.write_serving_line.ensures.wrote.all)
