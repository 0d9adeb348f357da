use Rattle.std.proofs.Common.{◌<◌, ◌%◌, ◌^◌, ℕ, sym, ap, ◌∙◌, subst}
use Rattle.eb_base.specs.Width.{octets}
use Rattle.eb_base.specs.Lanes.{selected, placed_dat, placed_sel}
use Rattle.eb_base.proofs.LaneLemmas.{placed_adr-aligned, placed_sel-some, placed_sel-lt, placed_dat-selected, placed_dat-zero}
use Rattle.wb_signals.specs.Request.{placed}
use Rattle.eb_session.proofs.operations.access.Goals as goal

pub invariant_of-result : goal.invariant_of-result
invariant_of-result c =
    let a = c.args in
    let e = c.lanes_of-lanes.ensures in
    record {
      some_lane = λ none. placed_sel-some a.port a.bus a.adr a.sel c.requires.some_lane (sym e.sel ∙ none);
      selected_only =
          ap (λ (n : ℕ). selected 8 n c.lanes_of-lanes.result.dat) e.sel ∙ ap (λ (n : ℕ). selected 8 (placed_sel a.port a.bus a.adr a.sel) n) e.dat
          ∙ placed_dat-selected a.port a.bus a.adr a.dat a.sel c.requires.narrow c.requires.lanes ∙ sym e.dat;
      no_data = λ read. e.dat ∙ ap (λ (n : ℕ). placed_dat a.port a.bus a.adr n a.sel) (c.requires.no_data read) ∙ placed_dat-zero a.port a.bus a.adr a.sel;
    }

pub returns-clause-value : goal.returns-clause-value
unfolding placed
returns-clause-value c =
    let e = c.lanes_of-lanes.ensures in
    λ i. record { write = c.args.write; adr = e.adr i; dat = e.dat i; sel = e.sel i }

pub returns-clause-fits : goal.returns-clause-fits
returns-clause-fits c =
    let a = c.args in
    let e = c.lanes_of-lanes.ensures in (
      ap (λ (n : ℕ). n % octets a.bus) e.adr ∙ placed_adr-aligned a.port a.bus a.adr,
      subst (λ (n : ℕ). n < 2 ^ octets a.bus) (sym e.sel) (placed_sel-lt a.port a.bus a.adr a.sel c.requires.narrow c.requires.lanes),
    )
