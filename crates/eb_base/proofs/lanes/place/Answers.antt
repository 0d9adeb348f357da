use Rattle.std.proofs.Common.{◌≡◌, ◌+◌, ◌*◌, ◌^◌, ◌<◌, ◌≤◌, sym, ap, ◌∙◌, arith}
use Rattle.std.proofs.lemmas.Nat.{shl_whole}
use Rattle.eb_base.specs.Width.{octets}
use Rattle.eb_base.specs.Lanes.{selected}
use Rattle.eb_base.proofs.LaneLemmas.{octet-pow, octets_le}
use Rattle.eb_base.proofs.lanes.place.Goals as goal

pub returns-clause-dat : goal.returns-clause-dat
returns-clause-dat c =
    let d = c.selected.result in
    let k = c.lanes_up-lanes.result in
    let n = octets c.args.port in
    let fits : d < 2 ^ (8 * n) = rw (octet-pow n) at c.selected.ensures.fits in
    let most = octets_le c.args.bus in
    let room : 8 * n + 8 * k ≤ 64 = omega arith in
    let up : d * 2 ^ (8 * k) ≡ d * 256 ^ k = ap (λ m. d * m) (sym (octet-pow k)) in
    shl_whole d (8 * n) (8 * k) 64 fits room ∙ up ∙ ap (λ m. m * 256 ^ k) c.selected.ensures.value
    ∙ ap (λ m. selected n c.args.sel c.args.dat * 256 ^ m) c.lanes_up-lanes.ensures.value

pub returns-clause-sel : goal.returns-clause-sel
returns-clause-sel c =
    let k = c.lanes_up-lanes.result in
    let n = octets c.args.port in
    let most = octets_le c.args.bus in
    let room : n + k ≤ 8 = omega arith in
    shl_whole c.args.sel n k 8 c.requires.lanes room ∙ ap (λ m. c.args.sel * 2 ^ m) c.lanes_up-lanes.ensures.value
