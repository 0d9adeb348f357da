use Rattle.std.proofs.Common.{◌≡◌, List, [], ◌++◌, map, All}
use Rattle.soc_turn.specs.declared.knows.Knows.TheVariants.{Rooted}
use Rattle.soc_turn.specs.Views.{PassView, seen_pair}
use Rattle.soc_turn.proofs.turn.Turn.close.Given as goal

abbrev pub invariant-loop-pass : goal.invariant-loop-pass
invariant-loop-pass g l = (l.place.table_id ≡ l.fn.self) × All (λ p. p.turn ≡ l.fn.self) l.passes.items
    × ((gone : List (PassView g.row.T.Denot)) × (l.place.me ≡ (Rooted l.fn.root.origin l.fn.root.made (map seen_pair gone), [])) × (l.fn.passes.items ≡ l.passes.items ++ gone))

abbrev pub decreases-loop-pass : goal.decreases-loop-pass
decreases-loop-pass g l = goal.left-loop-pass g l
