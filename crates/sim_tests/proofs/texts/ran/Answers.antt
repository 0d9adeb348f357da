-- The bus takes the lines that were read for it.
use Rattle.sim_tests.proofs.texts.ran.Goals as goal

pub run_script-requires-clause-lines : goal.run_script-requires-clause-lines
run_script-requires-clause-lines c = c.scripts.ensures.lines c.in-Ok.description c.in-Ok.ensures.accepted c.args.script.now c.in-Ok-read_script.script c.in-Ok-read_script.ensures.script
