-- The port drives its row, and the others are as they were.
use Rattle.std.proofs.Common.{◌≡◌, ◌<◌, length, map, ◌∙◌, sym, ap, subst}
use Rattle.std.specs.Option.{is_some}
use Rattle.wb_signals.specs.Parts.{contents_in}
use Rattle.wb_signals.specs.Turn.{owed_by}
use Rattle.wb_tree.specs.Tree.{node_slave}
use Rattle.wb_crossbar.specs.Inside.{crossbar_of, parts_of}
use Rattle.wb_port.specs.Port.{PortState, driven, sampled}
use Rattle.soc_bus.specs.View.{states}
use Rattle.soc_bus.specs.Clocked.{driven_rows}
use Rattle.soc_wave.specs.Shown.{holders_from}
use Rattle.soc_bus.proofs.BusLemmas.{same_engine}
use Rattle.soc_bus.proofs.LoneLemmas.{alone_here, rows_now, passes_now, answers_now, sampled_now}
use Rattle.soc_bus.proofs.alone.clock_one.Goals as goal

pub tick_alone-requires-clause-can : goal.tick_alone-requires-clause-can
tick_alone-requires-clause-can g c =
    let s = c.args.crossbar.now in
    let parts = parts_of node_slave s.slots.items in
    let owed = map (owed_by parts) s.ports.items in
    let cs = c.args.cycles.now in
    let ps = c.args.ports.now.items in
    let rows = driven_rows (states cs) ps in
    let holders = holders_from (states cs) 0 (length (crossbar_of node_slave s).children) in
    let alone = alone_here s.width parts (contents_in parts) owed holders c.requires.sound.owed.fits cs ps c.args.m c.requires.served c.requires.others c.requires.cycles c.requires.within c.index-cycles-m.result c.index-cycles-m.is c.index.result.now c.index.ensures c.is_busy.result c.is_busy.ensures.busy c.driving-row.result c.driving-row.ensures.row c.driving-row.ensures.operation in
    (rows, alone)

pub sample-requires-clause-passes : goal.sample-requires-clause-passes
sample-requires-clause-passes g c =
    let s = c.args.crossbar.now in
    let parts = parts_of node_slave s.slots.items in
    let owed = map (owed_by parts) s.ports.items in
    let cs = c.args.cycles.now in
    let ps = c.args.ports.now.items in
    let rows = driven_rows (states cs) ps in
    let holders = holders_from (states cs) 0 (length (crossbar_of node_slave s).children) in
    let alone = alone_here s.width parts (contents_in parts) owed holders c.requires.sound.owed.fits cs ps c.args.m c.requires.served c.requires.others c.requires.cycles c.requires.within c.index-cycles-m.result c.index-cycles-m.is c.index.result.now c.index.ensures c.is_busy.result c.is_busy.ensures.busy c.driving-row.result c.driving-row.ensures.row c.driving-row.ensures.operation in
    let rows_are = c.tick_alone.ensures.rows rows alone in
    let same : c.index_mut.result.now ≡ c.index.result.now = same_engine c.args.m ps c.index_mut.result.now c.index.result.now c.requires.within c.index_mut.ensures.value c.index.ensures in
    λ sent none. passes_now s.width parts (contents_in parts) owed holders c.requires.sound.owed.fits cs ps c.args.m c.requires.served c.requires.others c.requires.cycles c.requires.within c.index-cycles-m.result c.index-cycles-m.is c.index.result.now c.index.ensures c.is_busy.result c.is_busy.ensures.busy c.driving-row.result c.driving-row.ensures.row c.tick_alone.new.row rows_are (sym c.is_sent.ensures.passed ∙ sent) (ap driven (sym same) ∙ none)

pub sample-requires-clause-answers : goal.sample-requires-clause-answers
sample-requires-clause-answers g c =
    let s = c.args.crossbar.now in
    let parts = parts_of node_slave s.slots.items in
    let owed = map (owed_by parts) s.ports.items in
    let cs = c.args.cycles.now in
    let ps = c.args.ports.now.items in
    let rows = driven_rows (states cs) ps in
    let holders = holders_from (states cs) 0 (length (crossbar_of node_slave s).children) in
    let alone = alone_here s.width parts (contents_in parts) owed holders c.requires.sound.owed.fits cs ps c.args.m c.requires.served c.requires.others c.requires.cycles c.requires.within c.index-cycles-m.result c.index-cycles-m.is c.index.result.now c.index.ensures c.is_busy.result c.is_busy.ensures.busy c.driving-row.result c.driving-row.ensures.row c.driving-row.ensures.operation in
    let rows_are = c.tick_alone.ensures.rows rows alone in
    let same : c.index_mut.result.now ≡ c.index.result.now = same_engine c.args.m ps c.index_mut.result.now c.index.result.now c.requires.within c.index_mut.ensures.value c.index.ensures in
    λ got. subst (λ (p : PortState). length p.answers < p.passed) (sym same) (answers_now s.width parts (contents_in parts) owed holders c.requires.sound.owed.fits cs ps c.args.m c.requires.served c.requires.others c.requires.cycles c.requires.within c.index-cycles-m.result c.index-cycles-m.is c.index.result.now c.index.ensures c.is_busy.result c.is_busy.ensures.busy c.driving-row.result c.driving-row.ensures.row c.tick_alone.new.row rows_are (ap is_some (sym c.answer_got.ensures.answer) ∙ got))

pub returns-clause-row : goal.returns-clause-row
returns-clause-row g c =
    let s = c.args.crossbar.now in
    let parts = parts_of node_slave s.slots.items in
    let owed = map (owed_by parts) s.ports.items in
    let cs = c.args.cycles.now in
    let ps = c.args.ports.now.items in
    let rows = driven_rows (states cs) ps in
    let holders = holders_from (states cs) 0 (length (crossbar_of node_slave s).children) in
    let alone = alone_here s.width parts (contents_in parts) owed holders c.requires.sound.owed.fits cs ps c.args.m c.requires.served c.requires.others c.requires.cycles c.requires.within c.index-cycles-m.result c.index-cycles-m.is c.index.result.now c.index.ensures c.is_busy.result c.is_busy.ensures.busy c.driving-row.result c.driving-row.ensures.row c.driving-row.ensures.operation in
    let rows_are = c.tick_alone.ensures.rows rows alone in
    rows_now s.width parts (contents_in parts) owed holders c.requires.sound.owed.fits cs ps c.args.m c.requires.served c.requires.others c.requires.cycles c.requires.within c.index-cycles-m.result c.index-cycles-m.is c.index.result.now c.index.ensures c.is_busy.result c.is_busy.ensures.busy c.driving-row.result c.driving-row.ensures.row c.tick_alone.new.row rows_are

pub returns-clause-crossbar : goal.returns-clause-crossbar
returns-clause-crossbar g c =
    let s = c.args.crossbar.now in
    let parts = parts_of node_slave s.slots.items in
    let owed = map (owed_by parts) s.ports.items in
    let cs = c.args.cycles.now in
    let ps = c.args.ports.now.items in
    let rows = driven_rows (states cs) ps in
    let holders = holders_from (states cs) 0 (length (crossbar_of node_slave s).children) in
    let alone = alone_here s.width parts (contents_in parts) owed holders c.requires.sound.owed.fits cs ps c.args.m c.requires.served c.requires.others c.requires.cycles c.requires.within c.index-cycles-m.result c.index-cycles-m.is c.index.result.now c.index.ensures c.is_busy.result c.is_busy.ensures.busy c.driving-row.result c.driving-row.ensures.row c.driving-row.ensures.operation in
    c.tick_alone.ensures.crossbar rows alone

pub returns-clause-ports : goal.returns-clause-ports
returns-clause-ports g c =
    let s = c.args.crossbar.now in
    let parts = parts_of node_slave s.slots.items in
    let owed = map (owed_by parts) s.ports.items in
    let cs = c.args.cycles.now in
    let ps = c.args.ports.now.items in
    let rows = driven_rows (states cs) ps in
    let holders = holders_from (states cs) 0 (length (crossbar_of node_slave s).children) in
    let alone = alone_here s.width parts (contents_in parts) owed holders c.requires.sound.owed.fits cs ps c.args.m c.requires.served c.requires.others c.requires.cycles c.requires.within c.index-cycles-m.result c.index-cycles-m.is c.index.result.now c.index.ensures c.is_busy.result c.is_busy.ensures.busy c.driving-row.result c.driving-row.ensures.row c.driving-row.ensures.operation in
    let rows_are = c.tick_alone.ensures.rows rows alone in
    let same : c.index_mut.result.now ≡ c.index.result.now = same_engine c.args.m ps c.index_mut.result.now c.index.result.now c.requires.within c.index_mut.ensures.value c.index.ensures in
    sampled_now s.width parts (contents_in parts) owed holders c.requires.sound.owed.fits cs ps c.args.m c.requires.served c.requires.others c.requires.cycles c.requires.within c.index-cycles-m.result c.index-cycles-m.is c.index.result.now c.index.ensures c.is_busy.result c.is_busy.ensures.busy c.driving-row.result c.driving-row.ensures.row c.tick_alone.new.row rows_are c.sample.new.self (c.sample.ensures.sampled ∙ (λ i. sampled (same i) (c.is_sent.ensures.passed i) (c.answer_got.ensures.answer i)))
