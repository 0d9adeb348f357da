-- The next line of a master.
use Rattle.std.proofs.Common.{rules, ◌<◌, ◌≤◌, List, length, ap, arith}
use Rattle.std.proofs.lemmas.List.{get_or_default}
use Rattle.soc_script.specs.Script.{ScriptLine}
use Rattle.soc_sim.proofs.TodoLemmas.{length-todos_at, line_is, none_is}
use Rattle.soc_sim.proofs.todos.Todos.next.Goals as goal

pub index-at-requires : goal.index-at-requires
index-at-requires c =
    let lt : c.args.m < length c.self.inside.places.items = omega (arith, c.requires.within, ap (λ (ls : List (List ScriptLine)). length ls) c.self.view_is, length-todos_at c.self.inside.lines.now 0 c.self.inside.places.items) in
    search (rules, lt)

pub returns-then-at-self : goal.returns-then-at-self
returns-then-at-self c =
    let t = c.self.inside in
    let lt : c.args.m < length t.places.items = omega (arith, c.requires.within, ap (λ (ls : List (List ScriptLine)). length ls) c.self.view_is, length-todos_at t.lines.now 0 t.places.items) in
    let below : c.index-at.result.now < length t.lines.now = omega (arith, c.if-at-self.true) in
    record {
      next = line_is t.lines.now t.places.items c.args.self.now c.self.view_is c.args.m c.index-at.result.now lt c.index-at.ensures c.self.invariant _ below
          (get_or_default t.lines.now c.index-at.result.now c.index-self-at.result _ below);
    }

pub returns-else-at-self : goal.returns-else-at-self
returns-else-at-self c =
    let t = c.self.inside in
    let lt : c.args.m < length t.places.items = omega (arith, c.requires.within, ap (λ (ls : List (List ScriptLine)). length ls) c.self.view_is, length-todos_at t.lines.now 0 t.places.items) in
    let above : length t.lines.now ≤ c.index-at.result.now = omega (arith, c.if-at-self.false) in
    record { next = none_is t.lines.now t.places.items c.args.self.now c.self.view_is c.args.m c.index-at.result.now lt c.index-at.ensures c.self.invariant above }
