use Rattle.std.proofs.Common.{refl, ap, ◌∙◌}
use Rattle.soc_turn.specs.Views.{RootView}
use Rattle.soc_bus.specs.View.{BusState}
use Rattle.eb_serve.proofs.datagrams.ready.Goals as goal

pub returns-in-Ok : goal.returns-in-Ok
returns-in-Ok c =
    let root = c.in-Ok.ensures.ok in
    record {
      readied = record {
        slave = refl;
        turn = ap (λ (r : RootView BusState). r.turn) root;
        made = ap (λ (r : RootView BusState). r.made) root;
        masters = ap (λ (r : RootView BusState). r.masters) root;
        few = c.requires.accepted.masters_least;
        description = ap (λ (r : RootView BusState). r.origin.description) root ∙ c.in_ok-bus.ensures.description;
        built = ap (λ (r : RootView BusState). r.origin.core) root ∙ c.in_ok-bus.ensures.core;
        ends = c.in_ok-ends.ensures.none;
        passes = c.in_ok-passes.ensures.items;
        space = c.in_ok-passes.ensures.capacity;
      };
    }
