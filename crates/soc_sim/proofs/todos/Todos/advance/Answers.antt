-- A master's place moves on.
use Rattle.std.proofs.Common.{rules, ◌<◌, ◌≤◌, List, length, ap, arith}
use Rattle.soc_script.specs.Script.{ScriptLine}
use Rattle.soc_sim.proofs.TodoLemmas.{length-todos_at, places_set, behind_is, nothing_behind}
use Rattle.soc_sim.proofs.todos.Todos.advance.Goals as goal

pub index-at-requires : goal.index-at-requires
index-at-requires c =
    let lt : c.args.m < length c.self.inside.places.items = omega (arith, c.requires.within, ap (λ (ls : List (List ScriptLine)). length ls) c.self.view_is, length-todos_at c.self.inside.lines.now 0 c.self.inside.places.items) in
    search (rules, lt)

pub index_mut-requires : goal.index_mut-requires
index_mut-requires c =
    let lt : c.args.m < length c.self.inside.places.items = omega (arith, c.requires.within, ap (λ (ls : List (List ScriptLine)). length ls) c.self.view_is, length-todos_at c.self.inside.lines.now 0 c.self.inside.places.items) in
    search (rules, lt)

pub invariant_of-self : goal.invariant_of-self
invariant_of-self c =
    let t = c.self.inside in
    places_set t.lines.now 0 c.args.m c.args.m t.places.items c.first_place.result (omega arith) c.first_place.ensures.within c.first_place.ensures.first c.self.invariant

pub returns-then-at-self : goal.returns-then-at-self
returns-then-at-self c =
    let t = c.self.inside in
    let lt : c.args.m < length t.places.items = omega (arith, c.requires.within, ap (λ (ls : List (List ScriptLine)). length ls) c.self.view_is, length-todos_at t.lines.now 0 t.places.items) in
    let below : c.index-at.result.now < length t.lines.now = omega (arith, c.if-at-self.true) in
    record { next = behind_is t.lines.now t.places.items c.args.self.now c.self.view_is c.args.m c.index-at.result.now lt c.index-at.ensures c.self.invariant c.first_place.result below c.first_place.ensures.own }

pub returns-else-at-self : goal.returns-else-at-self
returns-else-at-self c =
    let t = c.self.inside in
    let lt : c.args.m < length t.places.items = omega (arith, c.requires.within, ap (λ (ls : List (List ScriptLine)). length ls) c.self.view_is, length-todos_at t.lines.now 0 t.places.items) in
    let above : length t.lines.now ≤ c.index-at.result.now = omega (arith, c.if-at-self.false) in
    record { next = nothing_behind t.lines.now t.places.items c.args.self.now c.self.view_is c.args.m c.index-at.result.now lt c.index-at.ensures c.self.invariant above }
