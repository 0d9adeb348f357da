use Rattle.std.proofs.Common.{◌<◌, length, get_or, arith, rules}
use Rattle.eb_text.specs.Command.{IsDigit}
use Rattle.eb_text.proofs.DecimalLemmas.{digit_in, goes_on, digits_more}
use Rattle.eb_serving.proofs.numbers.number_of.Goals as goal

pub returns-then-not-is_ascii_digit : goal.returns-then-not-is_ascii_digit
returns-then-not-is_ascii_digit c = λ digits.
    let lt : c.loop-octet.octet-index < length c.args.text.now = omega arith in
    let digit : IsDigit (get_or c.args.text.now c.loop-octet.octet-index 0) = digit_in c.args.text.now c.loop-octet.octet-index lt digits in
    let bad : IsDigit (get_or c.args.text.now c.loop-octet.octet-index 0) → ⊥ = search rules in
    bad digit

pub loop-octet-preserved : goal.loop-octet-preserved
loop-octet-preserved c =
    let lt : c.loop-octet.octet-index < length c.args.text.now = omega arith in
    let digit : IsDigit (get_or c.args.text.now c.loop-octet.octet-index 0) = search rules in
    record {
      digits = digits_more c.args.text.now c.loop-octet.octet-index lt c.loop-octet.invariant.digits digit;
      number = goes_on c.args.text.now c.loop-octet.octet-index c.loop-octet.number c.saturating_mul.result c.saturating_add-number.result lt c.loop-octet.invariant.number (search rules) (search rules);
    }
