-- The turn of the port that is alone.
use Rattle.std.proofs.Common.{◌≡◌, List, [], ap, sym, ◌∙◌, subst, length, map, get_or, set, arith}
use Rattle.std.proofs.Math.ListN.{get_or-map}
use Rattle.std.proofs.lemmas.List.{length-map}
use Rattle.wb_signals.specs.Bus.{Child, bus}
use Rattle.wb_signals.specs.Parts.{child_of}
use Rattle.wb_signals.specs.Rows.{row_after}
use Rattle.wb_signals.specs.Turn.{owed_by}
use Rattle.wb_crossbar.specs.Alone.{unanswered}
use Rattle.wb_crossbar.specs.Inside.{part_of, parts_of, AreOwed}
use Rattle.wb_signals.specs.declared.debtor.Debtor.TheVariants.{Nobody}
use Rattle.wb_crossbar.proofs.AloneLemmas.{in_ports, can_alone, alone_ticked, rows_alone}
use Rattle.wb_crossbar.proofs.TickLemmas.{ends}
use Rattle.wb_crossbar.proofs.crossbar.Crossbar.tick_alone.Goals as goal

pub turn-requires-clause-can : goal.turn-requires-clause-can
turn-requires-clause-can g c =
    let s = c.args.self.now in
    let rows = c.requires.can.0 in
    let alone = c.requires.can.1 in
    can_alone s.width (parts_of g.S.Clocked.slave s.slots.items) s.ports.items rows c.requires.sound.owed alone.can.0 alone.can.1 c.args.m c.args.row.now alone.own alone.asks alone.owed

pub turn-requires-clause-m_in : goal.turn-requires-clause-m_in
turn-requires-clause-m_in g c =
    let s = c.args.self.now in
    let rows = c.requires.can.0 in
    let alone = c.requires.can.1 in
    in_ports s.width (parts_of g.S.Clocked.slave s.slots.items) s.ports.items rows c.requires.sound.owed alone.can.0 alone.can.1 c.args.m c.args.row.now alone.own alone.asks alone.owed

pub returns-clause-rows : goal.returns-clause-rows
returns-clause-rows g c = λ rows alone.
    let s = c.args.self.now in
    let parts = parts_of g.S.Clocked.slave s.slots.items in
    let wiring = bus s.width (map child_of parts) in
    let owed = map (owed_by parts) s.ports.items in
    let own : get_or owed c.args.m [] ≡ owed_by parts (get_or s.ports.items c.args.m Nobody) = get_or-map (owed_by parts) s.ports.items c.args.m Nobody in
    rows_alone wiring owed rows c.args.m c.args.row.now alone.can.1.ports alone.own alone.asks alone.owed
    ∙ ap (λ owed. set (map unanswered rows) c.args.m (row_after wiring owed c.args.row.now)) own
    ∙ ap (set (map unanswered rows) c.args.m) (sym c.turn.ensures.row)

pub returns-clause-crossbar : goal.returns-clause-crossbar
returns-clause-crossbar g c = λ rows alone.
    let s = c.args.self.now in
    let now = c.turn.new.self in
    let parts = parts_of g.S.Clocked.slave s.slots.items in
    let parts_now = parts_of g.S.Clocked.slave now.slots.items in
    let all = alone_ticked s.width parts s.ports.items rows c.requires.sound.owed alone.can.0 alone.can.1 c.args.m c.args.row.now alone.own alone.asks alone.owed
    parts_now now.ports.items c.turn.ensures.turn in
    ends s.width alone.can.0 parts s.ports.items rows parts_now now.ports.items all.0 (length rows) all.1 alone.can.1 (omega arith) now.width c.turn.ensures.width

pub returns-clause-sound : goal.returns-clause-sound
returns-clause-sound g c =
    let s = c.args.self.now in
    let now = c.turn.new.self in
    let parts = parts_of g.S.Clocked.slave s.slots.items in
    let parts_now = parts_of g.S.Clocked.slave now.slots.items in
    let alone = c.requires.can.1 in
    let all = alone_ticked s.width parts s.ports.items c.requires.can.0 c.requires.sound.owed alone.can.0 alone.can.1 c.args.m c.args.row.now alone.own alone.asks alone.owed
    parts_now now.ports.items c.turn.ensures.turn in
    let count = ap (λ (children : List Child). length children) all.1.children in
    let parts_count = length-map s.slots.items (part_of g.S.Clocked.slave) in
    let now_count = length-map now.slots.items (part_of g.S.Clocked.slave) in
    record {
      few = omega (arith, count, length-map parts_now child_of, length-map parts child_of, parts_count, now_count, c.requires.sound.few);
      sound = c.turn.ensures.sound;
      owed = subst (λ width. AreOwed width parts_now now.ports.items) (sym c.turn.ensures.width) all.1.owed;
    }
