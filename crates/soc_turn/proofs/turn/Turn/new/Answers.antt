use Rattle.std.proofs.Common.{rules, ◌≡◌, [], ◌∷◌, sym, subst, List, Option, Some}
use Rattle.atomic_table.specs.Table.{State, opening}
use Rattle.soc_turn.specs.declared.knows.Knows.{Knows}
use Rattle.soc_turn.specs.Turns.{Ruled, rooted}
use Rattle.soc_turn.proofs.StepLemmas.{opens}
use Rattle.soc_turn.proofs.turn.Turn.new.Goals as goal

pub new-made-requires : goal.new-made-requires
new-made-requires g c = let is : c.push.new.self.items ≡ Some c.args.value ∷ [] = search rules in let same : c.of-origin.result.value ≡ c.args.value = search rules in
    let R : State (Option g.row.T.Denot) (Knows g.row.T.Denot) → Type 0 = Ruled g.T.Ledgered.history g.T.Ledgered.stake g.T.Ledgered.charter in
    subst (λ (l : List (Option g.row.T.Denot)). R (opening (0 ∷ 0 ∷ []) l (rooted c.of-origin.result.value))) (sym is) (subst (λ (v : g.row.T.Denot). R (opening (0 ∷ 0 ∷ []) (Some c.args.value ∷ []) (rooted v))) (sym same) (opens g.T.Ledgered.history g.T.Ledgered.stake g.T.Ledgered.charter c.args.value))
