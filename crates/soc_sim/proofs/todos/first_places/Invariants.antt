-- The places of the masters so far.
use Rattle.std.proofs.Common.{◌≡◌, length}
use Rattle.soc_script_wave.specs.Runner.{todos_from}
use Rattle.soc_sim.specs.Todos.{AreOwnPlaces, todos_at}
use Rattle.soc_sim.proofs.todos.first_places.Given as goal

abbrev pub invariant-loop-m : goal.invariant-loop-m
invariant-loop-m l = record {
  count : length l.places.items ≡ l.m;
  todos : todos_at l.lines 0 l.places.items ≡ todos_from l.lines 0 l.m;
  own : AreOwnPlaces l.lines 0 l.places.items;
}
