use Rattle.eb_host.proofs.AskLemmas.{closing_asked}
use Rattle.eb_host.proofs.asks.put_closing.Goals as goal

pub returns-clause-items : goal.returns-clause-items
returns-clause-items c =
    closing_asked c.args.header c.all_lanes.result c.trailing.result c.args.out.now.items c.put_front.new.out.items c.put_addresses.new.out.items c.put_zeros.new.out.items c.all_lanes.ensures c.put_zeros.ensures.items
    c.args.at c.words_in_8-reads.result c.words_in_8-reads.ensures c.trailing.ensures.value c.put_front.ensures.items c.put_addresses.ensures.items
