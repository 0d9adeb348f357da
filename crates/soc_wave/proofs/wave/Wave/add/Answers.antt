use Rattle.std.proofs.Common.{◌≡◌, ◌+◌, ◌-◌, ◌++◌, ◌∷◌, [], suc, length, sym, ap, ◌∙◌, arith}
use Rattle.soc_wave.specs.Flat.{WaveState, rows_in}
use Rattle.soc_wave.proofs.FlatRows.{rows-add}
use Rattle.soc_wave.proofs.wave.Wave.add.Goals as goal

pub returns : goal.returns
returns c =
    let w = c.self.inside in
    let p = w.port_count in
    let s = w.slave_count in
    let one : w.rows + 1 ≡ suc w.rows = omega arith in
    let ports : length c.args.ports.now ≡ p = c.requires.ports ∙ sym (ap (λ (x : WaveState). x.ports) c.self.view_is) in
    let holders : length c.args.holders.now ≡ s = c.requires.holders ∙ sym (ap (λ (x : WaveState). x.slaves) c.self.view_is) in
    let rows : rows_in (w.rows + 1) p s c.append.new.room.items c.append-2.new.room.items
    ≡ c.args.self.now.rows ++ record { ports = c.args.ports.now; holders = c.args.holders.now } ∷ [] =
    (λ i. rows_in (one i) p s (c.append.ensures.items i) (c.append-2.ensures.items i))
    ∙ rows-add w.rows p s w.ports.items c.args.ports.now w.holders.items c.args.holders.now c.self.invariant.2.all c.self.invariant.3.all ports holders
    ∙ ap (λ (x : WaveState). x.rows ++ record { ports = c.args.ports.now; holders = c.args.holders.now } ∷ []) c.self.view_is in
    record { added = λ i. record { rows = rows i; spare = (c.self.view_is i).spare - 1; ports = (c.self.view_is i).ports; slaves = (c.self.view_is i).slaves } }
