use Rattle.std.proofs.Common.{◌≡◌, ◌<◌, ◌^◌, drop}
use Rattle.soc_desc.specs.Checks.{digits_after}
use Rattle.eb_client.proofs.numbers.digits_of.Given as goal

abbrev pub invariant-loop-octet : goal.invariant-loop-octet
invariant-loop-octet l = (digits_after l.n (drop l.octet-index l.digits) ≡ digits_after 0 l.digits) × (l.n < 16 ^ l.octet-index)
