use Rattle.std.proofs.Common.{map, string_bytes}
use Rattle.eb_client.specs.RanClient.{client_run}
use Rattle.eb_client.proofs.RanClientLemmas.{ran_client}
use Rattle.eb_client.proofs.run.run_client.Goals as goal

pub returns : goal.returns
returns g c =
    let run =
    client_run g.N.Link.Source.reading g.N.Link.Sink.writing (g.N.Net.network c.args.net.now) (g.N.Net.network c.run_words-ran.new.net) g.O.Sink.writing g.O.Sink.beside_writes c.args.out.now c.run_words-ran.new.out in
    record {
      ran =
          ran_client run (g.E.Sink.writing c.args.err.now) (g.E.Sink.writing c.tell.new.err) (map string_bytes c.args.words.now) c.run_words-ran.result c.tell.result
          c.run_words-ran.ensures.comes_to c.tell.ensures.status c.tell.ensures.tells;
    }
