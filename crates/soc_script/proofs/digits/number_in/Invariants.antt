use Rattle.std.proofs.Common.{◌≡◌, ◌<◌, ◌^◌, drop}
use Rattle.soc_script.specs.Digits.{number_behind}
use Rattle.soc_script.proofs.digits.number_in.Given as goal

abbrev pub invariant-loop-octet : goal.invariant-loop-octet
invariant-loop-octet l = record {
  same : number_behind l.base l.number (drop l.octet-index l.digits) ≡ number_behind l.base 0 l.digits;
  small : l.number < 16 ^ l.octet-index;
}
