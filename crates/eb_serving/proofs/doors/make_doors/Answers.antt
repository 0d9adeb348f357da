use Rattle.std.proofs.Common.{◌≡◌, ℕ, ◌+◌, suc, subst, arith}
use Rattle.eb_ports.specs.Connections.{door_told}
use Rattle.eb_serving.specs.Doors.{MadeDoors}
use Rattle.eb_serving.proofs.DoorLemmas.{made_none, made_more}
use Rattle.eb_serving.proofs.doors.make_doors.Goals as goal

pub loop-m-init : goal.loop-m-init
loop-m-init g c = made_none (door_told g.N.Door.Link.Source.reading g.N.Door.Link.Sink.writing g.N.Door.Door.standing g.N.Door.Door.accepting) (g.N.Net.network c.args.net.now) c.args.port

pub loop-m-preserved : goal.loop-m-preserved
loop-m-preserved g c =
    let told = door_told g.N.Door.Link.Source.reading g.N.Door.Link.Sink.writing g.N.Door.Door.standing g.N.Door.Door.accepting in
    let old = g.N.Net.network c.args.net.now in
    let new = g.N.Net.network c.listen.new.self in
    let next : suc c.loop-m.m ≡ c.loop-m.m + 1 = omega arith in
    subst (λ (k : ℕ). MadeDoors told old new c.args.port k) next
    (made_more told old (g.N.Net.network c.loop-m.net) new c.args.port c.loop-m.m c.loop-m.invariant c.in-Done.ensures.listens)
