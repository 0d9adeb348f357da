-- A clock in which nothing is requested or answered.
use Rattle.std.proofs.Common.{◌≡◌, length, ◌∙◌, subst}
use Rattle.std.proofs.lemmas.List.{length-map}
use Rattle.wb_tree.specs.Tree.{node_slave}
use Rattle.wb_crossbar.specs.Inside.{crossbar_of}
use Rattle.soc_bus.specs.View.{CycleView, states}
use Rattle.soc_bus.specs.Alone.{AreAllDone}
use Rattle.soc_wave.specs.Shown.{holders_from}
use Rattle.soc_bus.proofs.LoneLemmas.{quiet_crossbar, quiet_engines}
use Rattle.soc_bus.proofs.clock.unseen_clock.Goals as goal

pub returns-in-Nobody-clause-crossbar : goal.returns-in-Nobody-clause-crossbar
returns-in-Nobody-clause-crossbar g c =
    let x = crossbar_of node_slave c.args.crossbar.now in
    let cs = states c.args.cycles.now in
    let ps = c.args.ports.now.items in
    let n : length cs ≡ length ps = length-map c.args.cycles.now (λ (p : CycleView). p.state) ∙ c.requires.cycles in
    let all : AreAllDone ps = subst AreAllDone c.deref.ensures.value c.in-Nobody.ensures.active in
    quiet_crossbar x (holders_from cs 0 (length x.children)) cs ps c.requires.served all n

pub returns-in-Nobody-clause-ports : goal.returns-in-Nobody-clause-ports
returns-in-Nobody-clause-ports g c =
    let x = crossbar_of node_slave c.args.crossbar.now in
    let cs = states c.args.cycles.now in
    let ps = c.args.ports.now.items in
    let n : length cs ≡ length ps = length-map c.args.cycles.now (λ (p : CycleView). p.state) ∙ c.requires.cycles in
    let all : AreAllDone ps = subst AreAllDone c.deref.ensures.value c.in-Nobody.ensures.active in
    quiet_engines x (holders_from cs 0 (length x.children)) cs ps c.requires.served all n
