use Rattle.std.proofs.Common.{◌≡◌, ℕ, ◌<◌, [], ◌∷◌, length, sym, subst, ◌∙◌, ap, arith, length-append}
use Rattle.eb_net.specs.Accepting.{DoorState}
use Rattle.wb_signals.specs.Cycles.{MasterCycles}
use Rattle.eb_server.specs.declared.ending.Ending.{Ending}
use Rattle.eb_ports.specs.Ends.{EndsState, endings_added}
use Rattle.eb_ports.specs.Connections.{door_told, ServedConnection, ServedConnections, ServedPort}
use Rattle.eb_ports.proofs.ConnectionLemmas.{connected_more}
use Rattle.eb_ports.proofs.port.serve_port.Goals as goal

pub returns-in-Failed-clause-served : goal.returns-in-Failed-clause-served
returns-in-Failed-clause-served g c =
    let i = c.serving.invariant in
    let old : DoorState = door_told g.D.Link.Source.reading g.D.Link.Sink.writing g.D.Door.standing g.D.Door.accepting c.args.door.now in
    let last : DoorState = door_told g.D.Link.Source.reading g.D.Link.Sink.writing g.D.Door.standing g.D.Door.accepting c.serving.door in
    let new : DoorState = door_told g.D.Link.Source.reading g.D.Link.Sink.writing g.D.Door.standing g.D.Door.accepting c.accept.new.self in
    let fewer : length c.serving.ends.endings < c.args.connections = omega (arith, i.count, c.serving-test.true) in
    subst (λ (k : EndsState). ServedPort (g.M.Master.identity c.args.master.now).number c.args.slave c.args.connections old new (g.M.Master.cycles c.args.master.now) (g.M.Master.cycles c.serving.master) k) (sym c.fail.ensures.failed)
    record { last = last; connections = i.served; stops = (fewer, c.in-Failed.ensures.accepts) }

pub serving-preserved : goal.serving-preserved
serving-preserved g c =
    let i = c.serving.invariant in
    let m = (g.M.Master.identity c.args.master.now).number in
    let e : Ending = c.serve_connection-ending.result in
    let old : DoorState = door_told g.D.Link.Source.reading g.D.Link.Sink.writing g.D.Door.standing g.D.Door.accepting c.args.door.now in
    let mid : DoorState = door_told g.D.Link.Source.reading g.D.Link.Sink.writing g.D.Door.standing g.D.Door.accepting c.serving.door in
    let opened : DoorState = door_told g.D.Link.Source.reading g.D.Link.Sink.writing g.D.Door.standing g.D.Door.accepting c.accept.new.self in
    let new : DoorState = door_told g.D.Link.Source.reading g.D.Link.Sink.writing g.D.Door.standing g.D.Door.accepting c.serve_connection-ending.new.door in
    let first : MasterCycles = g.M.Master.cycles c.args.master.now in
    let between : MasterCycles = g.M.Master.cycles c.serving.master in
    let after : MasterCycles = g.M.Master.cycles c.serve_connection-ending.new.master in
    let one : ServedConnection (g.M.Master.identity c.serving.master).number c.args.slave mid new between after e = record { opened = opened; accept = c.in-Open.ensures.accepts; served = c.serve_connection-ending.ensures.served } in
    let mine : ServedConnection m c.args.slave mid new between after e = subst (λ (n : ℕ). ServedConnection n c.args.slave mid new between after e) (ap (λ q. q.number) i.identity) one in
    let added : c.add.new.self ≡ endings_added c.serving.ends (e ∷ []) = c.add.ensures.added in
    record {
      served = subst (λ (k : EndsState). ServedConnections m c.args.slave old new first after k.endings) (sym added)
          (connected_more m c.args.slave old mid new first between after c.serving.ends.endings e i.served mine);
      count = omega (arith, ap (λ (k : EndsState). length k.endings) added, length-append c.serving.ends.endings (e ∷ []), i.count);
      sound = ap (λ (k : EndsState). k.door_failed) added ∙ i.sound;
      room = ap (λ (k : EndsState). k.most) added ∙ i.room;
      none_open = c.serve_connection-ending.ensures.none_open;
      identity = c.serve_connection-ending.ensures.identity ∙ i.identity;
    }
