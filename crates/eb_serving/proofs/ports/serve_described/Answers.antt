use Rattle.std.proofs.Common.{◌≤◌, ◌+◌, ℕ, subst, refl, arith}
use Rattle.eb_ports.specs.Connections.{door_told}
use Rattle.eb_serving.specs.ServingWords.{ask_seen}
use Rattle.eb_serving.specs.Doors.{MadeDoors}
use Rattle.eb_serving.specs.ServingRuns.{port_run}
use Rattle.eb_serving.proofs.ServedLemmas.{comes_served, comes_unserved}
use Rattle.eb_serving.proofs.ports.serve_described.Goals as goal

pub returns-in-Ok : goal.returns-in-Ok
returns-in-Ok g c =
    let told = door_told g.N.Door.Link.Source.reading g.N.Door.Link.Sink.writing g.N.Door.Door.standing g.N.Door.Door.accepting in
    let net = g.N.Net.network c.args.net.now in
    let mid = g.N.Net.network c.make_doors.new.net in
    let port = c.args.asked.port in
    let d = c.args.description.now in
    let run = port_run told g.N.Post.Post.posting net (g.N.Net.network c.serve_last.new.net) (g.O.Sink.writing c.args.out.now) (g.O.Sink.writing c.tell_served.new.out) in
    let enough : port + d.masters ≤ 65536 = omega (arith, c.if-from-gt-PORTS.false, c.from.ensures, c.from-2.ensures) in
    let made : MadeDoors told net mid port d.masters = subst (λ (n : ℕ). MadeDoors told net mid port n) c.from-3.ensures c.in_ok-make_doors.ensures.makes in
    record { serves = comes_served run d (ask_seen c.args.asked) enough mid made c.in-Ok.served c.tell_served.result c.in-Ok.ensures.serves c.tell_served.ensures.tells }

pub returns-in-Err : goal.returns-in-Err
returns-in-Err g c =
    let told = door_told g.N.Door.Link.Source.reading g.N.Door.Link.Sink.writing g.N.Door.Door.standing g.N.Door.Door.accepting in
    let net = g.N.Net.network c.args.net.now in
    let mid = g.N.Net.network c.make_doors.new.net in
    let port = c.args.asked.port in
    let d = c.args.description.now in
    let out = g.O.Sink.writing c.args.out.now in
    let run = port_run told g.N.Post.Post.posting net (g.N.Net.network c.serve_last.new.net) out out in
    let enough : port + d.masters ≤ 65536 = omega (arith, c.if-from-gt-PORTS.false, c.from.ensures, c.from-2.ensures) in
    let made : MadeDoors told net mid port d.masters = subst (λ (n : ℕ). MadeDoors told net mid port n) c.from-3.ensures c.in_ok-make_doors.ensures.makes in
    record { serves = comes_unserved run d (ask_seen c.args.asked) enough mid made c.in-Err.field-0 c.in-Err.ensures.serves refl }
