use Rattle.std.proofs.Common.{◌≡◌, ◌-◌, ◌^◌, min, take}
use Rattle.eb_text.specs.Command.{AreDigits, decimal_value}
use Rattle.eb_serving.proofs.numbers.number_of.Given as goal

abbrev pub invariant-loop-octet : goal.invariant-loop-octet
invariant-loop-octet l = record {
  digits : AreDigits (take l.octet-index l.text);
  number : l.number ≡ min (decimal_value (take l.octet-index l.text)) (2 ^ 64 - 1);
}
