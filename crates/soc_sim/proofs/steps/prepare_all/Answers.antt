-- One more master is prepared.
use Rattle.std.proofs.Common.{◌≡◌, ℕ, suc, ◌+◌, ◌<◌, [], List, length, ap, ◌∙◌, subst, arith}
use Rattle.std.specs.Prelude.{slice_index_or}
use Rattle.soc_desc.specs.declared.description.Description.{Description}
use Rattle.soc_core.specs.Built.{fabric_of}
use Rattle.soc_script.specs.Script.{ScriptLine}
use Rattle.soc_script_wave.specs.Runner.{prepared}
use Rattle.soc_sim.specs.Watched.{WatchedState}
use Rattle.soc_sim.proofs.Preparing.{PreparesRest, prepares_step}
use Rattle.soc_sim.proofs.steps.prepare_all.Goals as goal

pub loop-m-preserved : goal.loop-m-preserved
loop-m-preserved g c =
    let began = c.args.bus.now in
    let b = c.loop-m.bus in
    let inv = c.loop-m.invariant in
    let m = c.loop-m.m in
    let t = c.args.t in
    let next = c.prepare.new.bus in
    let todo : List ScriptLine = slice_index_or c.loop-m.todos m [] in
    let made = c.in_ok-prepare.ensures.prepared in
    let same : b.description ≡ began.description = ap (λ (w : WatchedState). w.description) inv.frame in
    let core : next.core ≡ prepared (fabric_of began.description) t m todo b.core = ap (λ (w : WatchedState). w.core) made ∙ ap (λ (d : Description). prepared (fabric_of d) t m todo b.core) same in
    let count : c.bus.result.now.description.masters ≡ began.description.masters = ap (λ (d : Description). d.masters) c.bus.ensures.description in
    let lt : m < length c.args.todos.now = omega (arith, c.loop-m-test.true, c.masters-m-end.ensures.masters, count, c.requires.count) in
    let one : suc m ≡ m + 1 = omega arith in
    let description : next.description ≡ began.description = ap (λ (w : WatchedState). w.description) made ∙ same in
    let rows = ap (λ (w : WatchedState). w.rows) made ∙ ap (λ (w : WatchedState). w.rows) inv.frame in
    let spare = ap (λ (w : WatchedState). w.spare) made ∙ ap (λ (w : WatchedState). w.spare) inv.frame in
    record {
      rest = subst (λ (n : ℕ). PreparesRest (fabric_of began.description) t c.args.todos.now began.core n c.prepare.new.todos next.core) one
          (prepares_step (fabric_of began.description) t c.args.todos.now began.core m c.loop-m.todos b.core inv.rest lt c.prepare.new.todos next.core c.prepare.ensures.left core);
      frame = λ i. record { description = description i; core = next.core; rows = rows i; spare = spare i };
    }
