use Rattle.eb_client.proofs.AskingLemmas.{not_opened_inside}
use Rattle.eb_client.proofs.asking.open_for.Goals as goal

pub returns-in-Err-clause-opens : goal.returns-in-Err-clause-opens
returns-in-Err-clause-opens g c = not_opened_inside g.L.Source.reading g.L.Sink.writing c.args.width c.bit.result c.args.link c.into_link.result c.new.result c.in-Err.link c.in-Err.fault
    c.bit.ensures c.new.ensures.link c.into_link.ensures.link c.in-Err.ensures.opens
