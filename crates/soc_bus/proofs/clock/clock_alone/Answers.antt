-- The rows of the others rest.
use Rattle.std.proofs.Common.{◌≡◌, length, set, ◌∙◌, ap, sym}
use Rattle.std.proofs.lemmas.List.{length-map}
use Rattle.wb_tree.specs.Tree.{node_slave}
use Rattle.wb_crossbar.specs.Inside.{crossbar_of}
use Rattle.soc_bus.specs.View.{CycleView, states}
use Rattle.soc_bus.specs.Clocked.{sampled_all}
use Rattle.soc_wave.specs.Shown.{holders_from}
use Rattle.soc_bus.proofs.LoneLemmas.{rest_but, others_rest}
use Rattle.soc_bus.proofs.clock.clock_alone.Goals as goal

pub returns-clause-rows : goal.returns-clause-rows
returns-clause-rows g c =
    let x = crossbar_of node_slave c.args.crossbar.now in
    let cs = states c.args.cycles.now in
    let ps = c.args.ports.now.items in
    let n : length cs ≡ length ps = length-map c.args.cycles.now (λ (p : CycleView). p.state) ∙ c.requires.cycles in
    let rest = others_rest x (holders_from cs 0 (length x.children)) cs ps c.args.m c.requires.served c.requires.others n in
    ap (λ rows. set rows c.args.m c.clock_one-row.result) c.rest_all.ensures.rows
    ∙ rest_but cs ps c.args.m c.clock_one-row.result n rest ∙ sym c.clock_one-row.ensures.row

pub returns-clause-ports : goal.returns-clause-ports
returns-clause-ports g c =
    let x = crossbar_of node_slave c.args.crossbar.now in
    let cs = states c.args.cycles.now in
    let ps = c.args.ports.now.items in
    let n : length cs ≡ length ps = length-map c.args.cycles.now (λ (p : CycleView). p.state) ∙ c.requires.cycles in
    let rest = others_rest x (holders_from cs 0 (length x.children)) cs ps c.args.m c.requires.served c.requires.others n in
    c.clock_one-row.ensures.ports
    ∙ ap (sampled_all ps) (sym (ap (λ rows. set rows c.args.m c.clock_one-row.result) c.rest_all.ensures.rows ∙ rest_but cs ps c.args.m c.clock_one-row.result n rest))
