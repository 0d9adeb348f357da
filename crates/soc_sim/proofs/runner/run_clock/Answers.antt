-- A clock of a script.
use Rattle.std.proofs.Common.{◌≡◌, List, length, max, sym, ap, ◌∙◌}
use Rattle.soc_desc.specs.declared.description.Description.{Description}
use Rattle.soc_script.specs.Script.{ScriptLine}
use Rattle.soc_script_wave.proofs.Scripted.{length-left}
use Rattle.soc_sim.specs.Watched.{WatchedState}
use Rattle.soc_sim.proofs.UnderWay.{clock_leads}
use Rattle.soc_sim.proofs.runner.run_clock.Goals as goal

pub is_over-over-requires : goal.is_over-over-requires
is_over-over-requires g c =
    let same : c.bus.result.now.description ≡ c.args.bus.now.description =
    c.bus.ensures.description ∙ ap (λ (w : WatchedState). w.description) c.in_ok-prepare_all.ensures.prepared ∙ ap (λ (w : WatchedState). w.description) c.in_ok-room.ensures.ok in
    record {
      count = ap (λ (ls : List (List ScriptLine)). length ls) c.in_ok-prepare_all.ensures.left ∙ length-left 0 c.args.todos.now c.room.new.self.core ∙ c.requires.count
          ∙ sym (ap (λ (d : Description). d.masters) same);
    }

pub returns-clause-clock : goal.returns-clause-clock
returns-clause-clock g c =
    clock_leads c.args.bus.now c.room.new.self c.prepare_all.new.bus c.tick.new.self c.args.todos.now c.clock-t.result (max c.args.bus.now.spare 1)
    c.in_ok-room.ensures.ok c.in_ok-prepare_all.ensures.prepared c.clock-t.ensures.clock c.tick.ensures.tick
