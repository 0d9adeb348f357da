use Rattle.std.proofs.Common.{◌<◌, get_or, sym, ◌∙◌, arith}
use Rattle.soc_desc.proofs.Digits.{fits, digit_below}
use Rattle.eb_client.proofs.numbers.digits_of.Goals as goal

pub overflow_mul-n : goal.overflow_mul-n
overflow_mul-n c =
    let small = fits c.loop-octet.n c.loop-octet.octet-index (omega arith) c.loop-octet.invariant.1 in omega arith

pub overflow_add-n : goal.overflow_add-n
overflow_add-n c =
    let small = fits c.loop-octet.n c.loop-octet.octet-index (omega arith) c.loop-octet.invariant.1 in
    let d : c.in-Some.d < 16 = digit_below (get_or c.args.digits.now c.loop-octet.octet-index 0) c.in-Some.d (sym c.digit.ensures ∙ c.in-Some.is) in
    omega arith
