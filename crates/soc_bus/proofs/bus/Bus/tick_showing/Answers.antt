-- The tick, and then who holds each top slave.
use Rattle.std.proofs.Common.{◌≡◌, List, length, ap, ◌∙◌}
use Rattle.wb_tree.specs.Tree.{node_slave}
use Rattle.wb_crossbar.specs.Inside.{crossbar_of}
use Rattle.soc_core.specs.Built.{fabric_of}
use Rattle.soc_bus.specs.View.{CycleView, BusState, states}
use Rattle.soc_wave.specs.Shown.{holders_from}
use Rattle.soc_bus.proofs.BusLemmas.{holders_now}
use Rattle.soc_bus.proofs.bus.Bus.tick_showing.Goals as goal

pub returns-clause-shows : goal.returns-clause-shows
returns-clause-shows g c =
    let b = c.self.inside in
    let n = length c.args.holders.now in
    let shows = c.tick_over.ensures.shows in
    let are : c.hold_all.new.holders ≡ holders_from c.tick_over.new.self.core.ports 0 (fabric_of c.args.self.now.description).slaves =
    c.hold_all.ensures.holders ∙ ap (λ (cs : List CycleView). holders_from (states cs) 0 n) c.deref.ensures.value
    ∙ holders_now b.description.value (crossbar_of node_slave b.crossbar) b.cycles.items b.ports.items b.arbiter (g.R.BusRecorder.journal b.journal) c.self.invariant.0 c.self.invariant.1 n
    ∙ ap (λ (s : BusState). holders_from s.core.ports 0 n) c.self.view_is
    ∙ ap (holders_from c.tick_over.new.self.core.ports 0) c.requires.holders in
    (shows.0, (λ i. record { ports = c.tick_over.new.rows; holders = are i }) ∙ shows.1)
