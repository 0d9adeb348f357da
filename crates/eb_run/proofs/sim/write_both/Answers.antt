use Rattle.std.proofs.Common.{◌≡◌, ◌++◌, true, List, ap}
use Rattle.wb_signals.specs.Wave.{WaveRowState}
use Rattle.soc_journal.specs.Text.{journal_text}
use Rattle.soc_wave.specs.Text.{wave_text}
use Rattle.eb_io.proofs.WritingLemmas.{wrong_first, wrote_both}
use Rattle.eb_run.specs.Commands.{run_text}
use Rattle.eb_run.proofs.sim.write_both.Goals as goal

pub returns-in_err-write : goal.returns-in_err-write
returns-in_err-write g c =
    let rows = c.args.bus.now.rows in
    let entries = c.args.bus.now.core.journal in
    let parts : wave_text c.wave.result.now.rows ++ journal_text entries ≡ run_text true rows entries = ap (λ (r : List WaveRowState). wave_text r ++ journal_text entries) c.wave.ensures.rows in
    record {
      wrote = wrong_first g.K.Sink.writing g.K.Sink.beside_writes _ _ (run_text true rows entries) (wave_text c.wave.result.now.rows) (journal_text entries) _ _ c.from_residual.ensures.0 parts c.in_err-write.ensures.wrote;
    }

pub returns : goal.returns
returns g c =
    let rows = c.args.bus.now.rows in
    let entries = c.args.bus.now.core.journal in
    let wave = wave_text c.wave.result.now.rows in
    let journal = journal_text c.journal.result.now.entries in
    let parts : wave ++ journal ≡ run_text true rows entries = λ i. wave_text (c.wave.ensures.rows i) ++ journal_text (c.journal.ensures.entries i) in
    record {
      wrote = wrote_both g.K.Sink.writing g.K.Sink.beside_writes _ _ _ (run_text true rows entries) wave journal _ parts c.in_ok-write.ensures.wrote c.write-2.ensures.wrote;
    }
