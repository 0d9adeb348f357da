use Rattle.std.proofs.Common.{arith}
use Rattle.eb_base.specs.Field.{IsBytes}
use Rattle.eb_io.proofs.DigitLemmas.{made_upper}
use Rattle.eb_io.proofs.line.put_digits.Goals as goal

pub returns : goal.returns
returns c =
    let written = rw c.unwrap.ensures at c.encode_to_slice.ensures.written in
    let bytes : IsBytes c.args.octets.now = λ i. omega (arith, c.type_inv.octets i) in
    record { value = made_upper _ _ _ bytes written c.make_ascii_uppercase.ensures.after }
