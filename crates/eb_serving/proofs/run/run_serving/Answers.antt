use Rattle.std.proofs.Common.{map, string_bytes}
use Rattle.eb_ports.specs.Connections.{door_told}
use Rattle.eb_serving.specs.ServingRuns.{port_run, serving_run}
use Rattle.eb_serving.proofs.RanServingLemmas.{ran_serving}
use Rattle.eb_serving.proofs.run.run_serving.Goals as goal

pub returns : goal.returns
returns g c =
    let told = door_told g.N.Door.Link.Source.reading g.N.Door.Link.Sink.writing g.N.Door.Door.standing g.N.Door.Door.accepting in
    let ports = port_run told g.N.Post.Post.posting (g.N.Net.network c.args.around.now.net) (g.N.Net.network c.run_words-ran.new.around.net) (g.O.Sink.writing c.args.out.now) (g.O.Sink.writing c.run_words-ran.new.out) in
    let run = serving_run g.W.File.Source.reading (g.W.World.outside c.args.around.now.world) (g.W.World.outside c.run_words-ran.new.around.world) ports in
    record {
      ran =
          ran_serving run (g.E.Sink.writing c.args.err.now) (g.E.Sink.writing c.tell.new.err) (map string_bytes c.args.words.now) c.run_words-ran.result c.tell.result
          c.run_words-ran.ensures.comes_to c.tell.ensures.status c.tell.ensures.tells;
    }
