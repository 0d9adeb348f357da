use Rattle.std.proofs.Common.{refl}
use Rattle.eb_ports.specs.Connections.{door_told}
use Rattle.eb_serving.specs.ServingWords.{ask_seen}
use Rattle.eb_serving.specs.ServingRuns.{port_run}
use Rattle.eb_serving.proofs.PostLemmas.{comes_answered, comes_unanswered}
use Rattle.eb_serving.proofs.posts.post_described.Goals as goal

pub returns-in-Ok : goal.returns-in-Ok
returns-in-Ok g c =
    let told = door_told g.N.Door.Link.Source.reading g.N.Door.Link.Sink.writing g.N.Door.Door.standing g.N.Door.Door.accepting in
    let run = port_run told g.N.Post.Post.posting (g.N.Net.network c.args.net.now) (g.N.Net.network c.serve_post.new.net) (g.O.Sink.writing c.args.out.now) (g.O.Sink.writing c.tell_datagrams.new.out) in
    record { serves = comes_answered run c.args.description.now (ask_seen c.args.asked) (g.N.Net.network c.make_post.new.net) c.in_ok-make_post.ensures.makes c.in-Ok.served c.tell_datagrams.result c.in-Ok.ensures.serves c.tell_datagrams.ensures.tells }

pub returns-in-Err : goal.returns-in-Err
returns-in-Err g c =
    let told = door_told g.N.Door.Link.Source.reading g.N.Door.Link.Sink.writing g.N.Door.Door.standing g.N.Door.Door.accepting in
    let out = g.O.Sink.writing c.args.out.now in
    let run = port_run told g.N.Post.Post.posting (g.N.Net.network c.args.net.now) (g.N.Net.network c.serve_post.new.net) out out in
    record { serves = comes_unanswered run c.args.description.now (ask_seen c.args.asked) (g.N.Net.network c.make_post.new.net) c.in_ok-make_post.ensures.makes c.in-Err.field-0 c.in-Err.ensures.serves refl }
