use Rattle.std.proofs.Common.{◌≡◌, ◌+◌, ◌-◌, ◌*◌, ◌++◌, length}
use Rattle.eb_load.specs.Draws.{state_after}
use Rattle.eb_load.specs.Stream.{values_from}
use Rattle.eb_load.proofs.DrawLemmas.{octets_of_all}
use Rattle.eb_load.proofs.record.put_values.Given as goal

abbrev pub invariant-loop : goal.invariant-loop
invariant-loop l = record {
  items : l.out ++ octets_of_all (values_from (l.count - l.counter) l.draws) ≡ l.initial.out ++ octets_of_all (values_from l.count l.initial.draws);
  len : length l.out ≡ length l.initial.out + 4 * l.counter;
  draws : state_after (2 * (l.count - l.counter)) l.draws ≡ state_after (2 * l.count) l.initial.draws;
}
