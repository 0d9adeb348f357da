use Rattle.std.proofs.Common.{◌≡◌, length, ap, ◌∙◌, refl, arith}
use Rattle.soc_turn.specs.Views.{RootView}
use Rattle.soc_bus.specs.View.{BusState}
use Rattle.wb_signals.specs.History.{own}
use Rattle.eb_replay.specs.Replay.{replay_slave}
use Rattle.eb_replay.proofs.LaneLemmas.{all_there, all_fresh, all_rooms, passes_of, all_served, replays}
use Rattle.eb_replay.proofs.running.run.Goals as goal

pub returns : goal.returns
returns g c =
    let pr = c.requires.prepared in
    let d = c.args.prepared.root.origin.description in
    let journal = c.gather-bus.result.core.journal in
    let made : c.seat.new.root.made ≡ length c.args.files.items = ap (λ (r : RootView BusState). r.made) c.seat.ensures.root in
    let origin = ap (λ (r : RootView BusState). r.origin) c.seat.ensures.root in
    record {
      replayed = replays g.F.Source.reading d c.args.prepared.turn c.args.files.items c.add_all.new.self.files.items c.seat.new.lanes.items c.serve.new.lanes.items
          c.add_all.new.self.passes.items c.add_all.new.self.ports.items journal c.gather-bus.result refl (c.gather-bus.ensures.description ∙ ap (λ (b : BusState). b.description) origin)
          c.gather-bus.ensures.legal c.seat.ensures.count c.serve.ensures.count c.add_all.ensures.ended
          (all_served g.F.Source.reading d c.args.prepared.turn c.args.files.items c.add_all.new.self.files.items c.seat.new.lanes.items c.serve.new.lanes.items
          c.add_all.new.self.passes.items c.add_all.new.self.ports.items journal c.requires.fresh c.seat.ensures.count c.serve.ensures.count c.seat.ensures.seated c.serve.ensures.served
          c.add_all.ensures.ended c.gather-bus.ensures.own)
          (λ m le. c.gather-bus.ensures.rest m (omega (arith, le, made)) ∙ ap (λ (b : BusState). own m b.core.journal) origin ∙ ap (λ k. own m k.journal) pr.built);
    }

pub serve-requires-clause-passes : goal.serve-requires-clause-passes
serve-requires-clause-passes g c = λ lifetimes lives.
    all_there c.args.prepared.turn (replay_slave c.args.prepared.root.origin.description) c.args.files.items c.seat.new.lanes.items c.seat.ensures.seated

pub serve-requires-clause-sessions : goal.serve-requires-clause-sessions
serve-requires-clause-sessions g c = λ lifetimes lives.
    all_fresh c.args.prepared.turn c.args.prepared.root.origin.description c.args.files.items c.seat.new.lanes.items c.seat.ensures.seated

pub serve-requires-clause-rooms : goal.serve-requires-clause-rooms
serve-requires-clause-rooms g c = λ lifetimes lives.
    all_rooms c.args.prepared.turn (replay_slave c.args.prepared.root.origin.description) c.args.files.items c.seat.new.lanes.items c.seat.ensures.seated

pub add_all-requires-clause-there : goal.add_all-requires-clause-there
add_all-requires-clause-there g c = λ i d lt. (c.serve.ensures.passes i d lt).0

pub gather-bus-requires-clause-of : goal.gather-bus-requires-clause-of
gather-bus-requires-clause-of g c =
    passes_of c.args.prepared.turn c.serve.new.lanes.items c.add_all.new.self.passes.items c.add_all.ensures.ended.passes_are c.serve.ensures.passes
