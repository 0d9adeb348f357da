use Rattle.eb_host.proofs.AskLemmas.{one_written}
use Rattle.eb_host.proofs.asks.put_write.Goals as goal

pub returns-clause-items : goal.returns-clause-items
returns-clause-items c =
    one_written c.args.header c.all_lanes.result c.trailing.result c.args.out.now.items c.put_front.new.out.items c.put_field.new.out.items c.put_zeros.new.out.items c.all_lanes.ensures c.put_zeros.ensures.items
    c.args.op c.requires.write c.trailing.ensures.value c.put_front.ensures.items c.put_field.ensures.items
