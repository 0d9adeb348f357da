use Rattle.std.proofs.Common.{ap, ◌∙◌}
use Rattle.soc_turn.specs.Views.{RootView}
use Rattle.soc_bus.specs.View.{BusState}
use Rattle.eb_replay.proofs.running.prepare.Goals as goal

pub returns-in-Ok : goal.returns-in-Ok
returns-in-Ok g c =
    let root = c.in-Ok.ensures.ok in
    record {
      prepared = record {
        turn = ap (λ (r : RootView BusState). r.turn) root;
        made = ap (λ (r : RootView BusState). r.made) root;
        masters = ap (λ (r : RootView BusState). r.masters) root;
        few = c.requires.few;
        description = ap (λ (r : RootView BusState). r.origin.description) root ∙ c.in_ok-bus.ensures.description;
        built = ap (λ (r : RootView BusState). r.origin.core) root ∙ c.in_ok-bus.ensures.core;
        rooms = c.in_ok-rooms.ensures.count;
        ready = c.in_ok-rooms.ensures.ready;
        lanes = c.in_ok-lanes.ensures.items;
        space = c.in_ok-lanes.ensures.capacity;
        none = c.in_ok-ended.ensures.none;
        kept_space = c.in_ok-ended.ensures.space;
      };
    }
