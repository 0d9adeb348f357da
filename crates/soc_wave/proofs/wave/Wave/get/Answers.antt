use Rattle.std.proofs.Common.{◌≡◌, ◌*◌, length, take, drop, sym, ap, ◌∙◌, arith, Some}
use Rattle.std.specs.Prelude.{slice_get, vec_capacity}
use Rattle.wb_signals.specs.Wave.{WaveRowState}
use Rattle.soc_wave.specs.Flat.{WaveState}
use Rattle.soc_wave.proofs.FlatRows.{length-rows_in, length-part, part_within, row_in, row_here}
use Rattle.soc_wave.proofs.wave.Wave.get.Goals as goal

pub part-requires : goal.part-requires
part-requires c =
    let w = c.self.inside in
    let rows : length c.args.self.now.rows ≡ w.rows =
    sym (ap (λ (x : WaveState). length x.rows) c.self.view_is) ∙ length-rows_in w.rows w.port_count w.slave_count w.ports.items w.holders.items in
    let fits = part_within w.rows w.port_count c.args.i (length w.ports.items) (vec_capacity w.ports) w.spare (omega (arith, rows, c.requires.in_range)) c.self.invariant.2 in
    record { within = omega (arith, fits, ap (λ l. length l) c.deref.ensures.value) }

pub part-requires-2 : goal.part-requires-2
part-requires-2 c =
    let w = c.self.inside in
    let rows : length c.args.self.now.rows ≡ w.rows =
    sym (ap (λ (x : WaveState). length x.rows) c.self.view_is) ∙ length-rows_in w.rows w.port_count w.slave_count w.ports.items w.holders.items in
    let fits = part_within w.rows w.slave_count c.args.i (length w.holders.items) (vec_capacity w.holders) w.spare (omega (arith, rows, c.requires.in_range)) c.self.invariant.3 in
    record { within = omega (arith, fits, ap (λ l. length l) c.deref-2.ensures.value) }

pub returns-clause-row : goal.returns-clause-row
returns-clause-row c =
    let w = c.self.inside in
    let rows : length c.args.self.now.rows ≡ w.rows =
    sym (ap (λ (x : WaveState). length x.rows) c.self.view_is) ∙ length-rows_in w.rows w.port_count w.slave_count w.ports.items w.holders.items in
    let is = row_in w.rows w.port_count w.slave_count c.args.i w.ports.items w.holders.items (omega (arith, rows, c.requires.in_range)) in
    let ports : c.part.result.now ≡ take w.port_count (drop (c.args.i * w.port_count) w.ports.items) =
    c.part.ensures.part ∙ ap (λ l. take w.port_count (drop (c.args.i * w.port_count) l)) c.deref.ensures.value in
    let holders : c.part-2.result.now ≡ take w.slave_count (drop (c.args.i * w.slave_count) w.holders.items) =
    c.part-2.ensures.part ∙ ap (λ l. take w.slave_count (drop (c.args.i * w.slave_count) l)) c.deref-2.ensures.value in
    let shown : c.of.result ≡ row_here w.port_count w.slave_count (drop (c.args.i * w.port_count) w.ports.items) (drop (c.args.i * w.slave_count) w.holders.items) =
    c.of.ensures.row ∙ (λ j. record { ports = ports j; holders = holders j }) in
    sym (ap (λ (x : WaveState). slice_get x.rows c.args.i) c.self.view_is) ∙ is ∙ sym (ap (λ (r : WaveRowState). Some r) shown)

pub returns-clause-ports : goal.returns-clause-ports
returns-clause-ports c =
    let w = c.self.inside in
    let rows : length c.args.self.now.rows ≡ w.rows =
    sym (ap (λ (x : WaveState). length x.rows) c.self.view_is) ∙ length-rows_in w.rows w.port_count w.slave_count w.ports.items w.holders.items in
    let fits = part_within w.rows w.port_count c.args.i (length w.ports.items) (vec_capacity w.ports) w.spare (omega (arith, rows, c.requires.in_range)) c.self.invariant.2 in
    let ports : c.part.result.now ≡ take w.port_count (drop (c.args.i * w.port_count) w.ports.items) =
    c.part.ensures.part ∙ ap (λ l. take w.port_count (drop (c.args.i * w.port_count) l)) c.deref.ensures.value in
    ap (λ (r : WaveRowState). length r.ports) c.of.ensures.row ∙ ap (λ l. length l) ports ∙ length-part w.port_count c.args.i w.ports.items fits
    ∙ ap (λ (x : WaveState). x.ports) c.self.view_is

pub returns-clause-holders : goal.returns-clause-holders
returns-clause-holders c =
    let w = c.self.inside in
    let rows : length c.args.self.now.rows ≡ w.rows =
    sym (ap (λ (x : WaveState). length x.rows) c.self.view_is) ∙ length-rows_in w.rows w.port_count w.slave_count w.ports.items w.holders.items in
    let fits = part_within w.rows w.slave_count c.args.i (length w.holders.items) (vec_capacity w.holders) w.spare (omega (arith, rows, c.requires.in_range)) c.self.invariant.3 in
    let holders : c.part-2.result.now ≡ take w.slave_count (drop (c.args.i * w.slave_count) w.holders.items) =
    c.part-2.ensures.part ∙ ap (λ l. take w.slave_count (drop (c.args.i * w.slave_count) l)) c.deref-2.ensures.value in
    ap (λ (r : WaveRowState). length r.holders) c.of.ensures.row ∙ ap (λ l. length l) holders ∙ length-part w.slave_count c.args.i w.holders.items fits
    ∙ ap (λ (x : WaveState). x.slaves) c.self.view_is
