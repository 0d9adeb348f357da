use Rattle.std.proofs.Common.{◌≡◌, length, ap, ◌∙◌, refl, arith}
use Rattle.soc_turn.specs.Views.{RootView}
use Rattle.soc_bus.specs.View.{BusState}
use Rattle.wb_signals.specs.History.{own}
use Rattle.eb_ports.specs.Connections.{door_told}
use Rattle.eb_serve.proofs.SeatLemmas.{all_there, all_await, passes_of, all_served, serves}
use Rattle.eb_serve.proofs.running.run.Goals as goal

pub returns : goal.returns
returns g c =
    let pr = c.requires.readied in
    let told = door_told g.D.Link.Source.reading g.D.Link.Sink.writing g.D.Door.standing g.D.Door.accepting in
    let d = c.args.readied.root.origin.description in
    let n = c.args.connections in
    let journal = c.gather-bus.result.core.journal in
    let made : c.seat.new.root.made ≡ length c.args.doors.items = ap (λ (r : RootView BusState). r.made) c.seat.ensures.root in
    let origin = ap (λ (r : RootView BusState). r.origin) c.seat.ensures.root in
    record {
      served = serves told d c.args.readied.turn n c.args.doors.items c.add_all.new.self.doors.items c.seat.new.lanes.items c.serve_lanes.new.lanes.items
          c.add_all.new.self.passes.items c.add_all.new.self.ports.items journal c.gather-bus.result refl (c.gather-bus.ensures.description ∙ ap (λ (b : BusState). b.description) origin)
          c.gather-bus.ensures.legal c.seat.ensures.count c.serve_lanes.ensures.count c.add_all.ensures.kept
          (all_served told d c.args.readied.turn n c.args.doors.items c.add_all.new.self.doors.items c.seat.new.lanes.items c.serve_lanes.new.lanes.items
          c.add_all.new.self.passes.items c.add_all.new.self.ports.items journal c.seat.ensures.count c.serve_lanes.ensures.count c.seat.ensures.seated c.args.readied.slave pr.slave
          c.serve_lanes.ensures.served c.serve_lanes.ensures.passes c.add_all.ensures.kept c.gather-bus.ensures.own)
          (λ m le. c.gather-bus.ensures.rest m (omega (arith, le, made)) ∙ ap (λ (b : BusState). own m b.core.journal) origin ∙ ap (λ k. own m k.journal) pr.built);
    }

pub serve_lanes-requires-clause-passes : goal.serve_lanes-requires-clause-passes
serve_lanes-requires-clause-passes g c = λ lifetimes lives.
    all_there c.args.readied.turn c.args.connections c.args.doors.items c.seat.new.lanes.items c.seat.ensures.seated

pub serve_lanes-requires-clause-ends : goal.serve_lanes-requires-clause-ends
serve_lanes-requires-clause-ends g c = λ lifetimes lives.
    all_await c.args.readied.turn c.args.connections c.args.doors.items c.seat.new.lanes.items c.seat.ensures.seated

pub add_all-requires-clause-there : goal.add_all-requires-clause-there
add_all-requires-clause-there g c = λ i d lt. (c.serve_lanes.ensures.passes i d lt).0

pub gather-bus-requires-clause-of : goal.gather-bus-requires-clause-of
gather-bus-requires-clause-of g c =
    passes_of c.args.readied.turn c.serve_lanes.new.lanes.items c.add_all.new.self.passes.items c.add_all.ensures.kept.passes_are c.serve_lanes.ensures.passes
