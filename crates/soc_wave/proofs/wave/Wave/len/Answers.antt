use Rattle.std.proofs.Common.{sym, ap, length, ◌∙◌}
use Rattle.soc_wave.specs.Flat.{WaveState}
use Rattle.soc_wave.proofs.FlatRows.{length-rows_in}
use Rattle.soc_wave.proofs.wave.Wave.len.Goals as goal

pub returns : goal.returns
returns c = record {
  len = sym (length-rows_in c.self.inside.rows c.self.inside.port_count c.self.inside.slave_count c.self.inside.ports.items c.self.inside.holders.items)
      ∙ ap (λ (w : WaveState). length w.rows) c.self.view_is;
}
