use Rattle.std.proofs.Common.{◌/◌, ◌^◌, sym, ap, ◌∙◌}
use Rattle.eb_base.specs.Width.{octets}
use Rattle.eb_base.specs.Lanes.{selected}
use Rattle.eb_base.proofs.LaneLemmas.{octet-pow}
use Rattle.eb_base.proofs.lanes.word.Goals as goal

pub returns : goal.returns
returns c =
    let k = c.lanes_up.result in
    let n = octets c.args.port in
    record {
      value = c.selected.ensures.value ∙ ap (λ m. selected n c.args.sel (c.args.dat / m)) (sym (octet-pow k))
          ∙ ap (λ m. selected n c.args.sel (c.args.dat / 256 ^ m)) c.lanes_up.ensures.value;
    }
