use Rattle.std.proofs.Common.{◌≡◌, ◌<◌, length, ap, arith}
use Rattle.eb_base.specs.Width.{octets}
use Rattle.eb_base.proofs.FieldLemmas.{with_number-set}
use Rattle.eb_base.proofs.fields.put.Goals as goal

pub returns-in-W8 : goal.returns-in-W8
returns-in-W8 c =
    let one : octets c.args.width ≡ 1 = ap octets c.in-W8.is in
    let inside : c.args.at < length c.args.bytes.now = omega arith in
    let fits : c.args.value < 256 = rw c.in-W8.is at c.requires.fits in
    rw c.in-W8.is (record { written = with_number-set c.args.bytes.now c.args.at c.args.value inside fits })
