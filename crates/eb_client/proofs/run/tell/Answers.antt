use Rattle.std.proofs.Common.{Result, sym, subst}
use Rattle.std.specs.Bool.{⊤}
use Rattle.eb_client.specs.declared.fault.ClientFault.{ClientFault}
use Rattle.eb_client.specs.RanClient.{TellsClient}
use Rattle.eb_client.proofs.run.tell.Goals as goal

pub returns-in-Err-clause-tells : goal.returns-in-Err-clause-tells
returns-in-Err-clause-tells g c =
    subst (λ (r : Result ⊤ ClientFault). TellsClient (g.E.Sink.writing c.args.err.now) (g.E.Sink.writing c.write_client_line.new.sink) r) (sym c.in-Err.is)
    (c.write_client_line.result, c.write_client_line.ensures.wrote.all)
