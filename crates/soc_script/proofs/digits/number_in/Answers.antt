use Rattle.std.proofs.Common.{◌*◌, ◌<◌, ◌≤◌, get_or, sym, ◌∙◌, arith}
use Rattle.std.proofs.lemmas.Grind.{common_steps}
use Rattle.soc_script.proofs.DigitLemmas.{base_most, digit_below-lt, one_more, small}
use Rattle.soc_script.proofs.digits.number_in.Goals as goal

pub overflow_mul-number : goal.overflow_mul-number
overflow_mul-number c =
    let l = c.loop-octet in
    let n = small l.number l.octet-index (omega arith) l.invariant.small in
    let m : c.args.base * l.number ≤ 16 * l.number = base_most c.args.base l.number c.requires.base in
    omega arith

pub overflow_add-number : goal.overflow_add-number
overflow_add-number c =
    let l = c.loop-octet in
    let n = small l.number l.octet-index (omega arith) l.invariant.small in
    let m : c.args.base * l.number ≤ 16 * l.number = base_most c.args.base l.number c.requires.base in
    let d : c.in-Some.digit < c.args.base = digit_below-lt c.args.base (get_or c.args.digits.now l.octet-index 0) c.in-Some.digit (sym c.digit_below.ensures.value ∙ c.in-Some.is) in
    let b : c.args.base ≤ 16 = c.requires.base in
    omega arith

pub loop-octet-preserved : goal.loop-octet-preserved
loop-octet-preserved c =
    let l = c.loop-octet in
    let e = sym c.digit_below.ensures.value ∙ c.in-Some.is in
    record {
      same = grind (arith, common_steps, e, l.invariant.same);
      small = one_more c.args.base l.number c.in-Some.digit l.octet-index c.requires.base l.invariant.small (digit_below-lt c.args.base (get_or c.args.digits.now l.octet-index 0) c.in-Some.digit e);
    }
