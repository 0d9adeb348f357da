use Rattle.std.proofs.Common.{rules, ◌≢◌, ◌<◌, ◌^◌, ℕ, sym, ap, ◌∙◌, arith}
use Rattle.eb_base.specs.Width.{octets}
use Rattle.eb_base.specs.declared.width.Width.TheVariants.{W32}
use Rattle.eb_base.specs.Lanes.{selected, placed_dat, placed_sel}
use Rattle.eb_base.proofs.LaneLemmas.{placed_sel-some, placed_dat-selected, placed_dat-zero}
use Rattle.soc_script.proofs.operation.access_of.Goals as goal

pub invariant_of-result : goal.invariant_of-result
invariant_of-result c =
    let a = c.args in
    let e = c.place-lanes.ensures in
    let lanes : 15 < 2 ^ octets W32 = omega arith in
    let some : 15 ≢ 0 = search rules in
    record {
      some_lane = λ none. placed_sel-some W32 a.bus a.adr 15 some (sym e.sel ∙ none);
      selected_only =
          ap (λ (n : ℕ). selected 8 n c.place-lanes.result.dat) e.sel ∙ ap (λ (n : ℕ). selected 8 (placed_sel W32 a.bus a.adr 15) n) e.dat
          ∙ placed_dat-selected W32 a.bus a.adr a.dat 15 c.requires.wide lanes ∙ sym e.dat;
      no_data = λ read. e.dat ∙ ap (λ (n : ℕ). placed_dat W32 a.bus a.adr n 15) (c.requires.no_data read) ∙ placed_dat-zero W32 a.bus a.adr 15;
    }
