-- One more place.
use Rattle.std.proofs.Common.{◌≡◌, ◌+◌, ℕ, suc, List, [], ◌∷◌, ◌++◌, length, ap, sym, ◌∙◌, subst, arith, length-append}
use Rattle.soc_script.specs.Script.{ScriptLine}
use Rattle.soc_script.specs.Cycles.{own_lines}
use Rattle.soc_script_wave.specs.Runner.{todos_from}
use Rattle.soc_sim.specs.Todos.{AreOwnPlaces, todos_at}
use Rattle.soc_sim.proofs.TodoLemmas.{todos_more, places_more, todos_from_more}
use Rattle.soc_sim.proofs.todos.first_places.Goals as goal

pub loop-m-preserved : goal.loop-m-preserved
loop-m-preserved c =
    let script = c.args.lines.now in
    let places = c.loop-m.places.items in
    let m = c.loop-m.m in
    let inv = c.loop-m.invariant in
    let at = c.first_place.result in
    let pushed : c.push.new.self.items ≡ places ++ at ∷ [] = c.in_ok-push.ensures.items in
    let nth : m ≡ 0 + length places = omega (arith, inv.count) in
    let one : m + 1 ≡ suc m = omega arith in
    record {
      count = omega (arith, ap (λ (ps : List ℕ). length ps) pushed, length-append places (at ∷ []), inv.count);
      todos = ap (todos_at script 0) pushed ∙ todos_more script 0 m places at nth ∙ ap (λ ls. todos_at script 0 places ++ ls ∷ []) c.first_place.ensures.own
          ∙ ap (λ (ls : List (List ScriptLine)). ls ++ own_lines m script ∷ []) inv.todos ∙ sym (todos_from_more script 0 m m (omega arith)) ∙ ap (todos_from script 0) (sym one);
      own = subst (AreOwnPlaces script 0) (sym pushed) (places_more script 0 m places at nth c.first_place.ensures.within c.first_place.ensures.first inv.own);
    }
