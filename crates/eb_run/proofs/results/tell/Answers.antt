use Rattle.std.proofs.Common.{Result, sym, subst}
use Rattle.eb_server.specs.declared.ending.Ending.{Ending}
use Rattle.eb_text.specs.declared.fault.Fault.{Fault}
use Rattle.eb_run.specs.Top.{Tells}
use Rattle.eb_run.proofs.results.tell.Goals as goal

pub returns-in-Err-clause-tells : goal.returns-in-Err-clause-tells
returns-in-Err-clause-tells g c =
    subst (λ (r : Result Ending Fault). Tells (g.E.Sink.writing c.args.err.now) (g.E.Sink.writing c.write_line.new.sink) r) (sym c.in-Err.is)
    (c.write_line.result, c.write_line.ensures.wrote.all)
