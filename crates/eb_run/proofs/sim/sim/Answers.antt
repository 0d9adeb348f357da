use Rattle.std.proofs.Common.{inl, inr, refl}
use Rattle.eb_run.specs.Commands.{run_text}
use Rattle.eb_run.proofs.SendLemmas.{failed_text}
use Rattle.eb_run.proofs.SimLemmas.{shows_run, taken_lines}
use Rattle.eb_run.proofs.sim.sim.Goals as goal

pub run_script-requires-clause-lines : goal.run_script-requires-clause-lines
run_script-requires-clause-lines g c =
    taken_lines g.W.File.Source.reading (g.W.World.outside c.read_description.new.world) (g.W.World.outside c.read_script.new.world) c.args.names.1.now c.in_ok-described.described c.in_ok-script.script
    c.in_ok-described.ensures.accepted c.in_ok-script.ensures.script

pub returns-in_default : goal.returns-in_default
returns-in_default g c = record {
  comes_to = inr (
    c.in_ok-described.described,
    g.W.World.outside c.read_description.new.world,
    c.in_ok-described.ensures.description,
    inr (c.in_ok-script.script, c.in_ok-script.ensures.script, inl (refl, refl)),
  );
}

pub returns-in_err-write_run : goal.returns-in_err-write_run
returns-in_err-write_run g c =
    let w = c.in-Ok.bus in
    let text = run_text c.args.wave w.rows w.core.journal in
    record {
      comes_to = inr (
        c.in_ok-described.described,
        g.W.World.outside c.read_description.new.world,
        c.in_ok-described.ensures.description,
        inr (
          c.in_ok-script.script,
          c.in_ok-script.ensures.script,
          inr (
            text,
            shows_run c.in_ok-described.described c.in_ok-script.script c.args.wave w c.in-Ok.ensures.description c.in-Ok.ensures.ran c.in-Ok.ensures.own,
            failed_text text _ _ _ c.from_residual-in_err-write_run.ensures.0 c.from_residual-in_err-write_run.ensures.1 c.in_err-write_run.ensures.wrote.all,
          ),
        ),
      );
    }

pub returns : goal.returns
returns g c =
    let w = c.in-Ok.bus in
    let text = run_text c.args.wave w.rows w.core.journal in
    record {
      comes_to = inr (
        c.in_ok-described.described,
        g.W.World.outside c.read_description.new.world,
        c.in_ok-described.ensures.description,
        inr (
          c.in_ok-script.script,
          c.in_ok-script.ensures.script,
          inr (
            text,
            shows_run c.in_ok-described.described c.in_ok-script.script c.args.wave w c.in-Ok.ensures.description c.in-Ok.ensures.ran c.in-Ok.ensures.own,
            c.in_ok-write_run.ensures.wrote.all,
          ),
        ),
      );
    }
