use Rattle.std.proofs.Common.{◌≡◌, ◌≤◌, length}
use Rattle.std.specs.Prelude.{All, vec_capacity}
use Rattle.eb_ports.specs.Ends.{no_ends}
use Rattle.eb_serve.proofs.lanes.take_ends.Given as goal

abbrev pub invariant-loop : goal.invariant-loop
invariant-loop l = (length l.ends.items ≡ l.counter) × (l.count ≤ vec_capacity l.ends) × All (λ e. e ≡ no_ends l.connections) l.ends.items
