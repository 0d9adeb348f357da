use Rattle.eb_text.proofs.CommandLemmas.{no_command}
use Rattle.eb_text.proofs.command.command_of.Goals as goal

pub returns-in-None : goal.returns-in-None
returns-in-None c = record {
  command = no_command _ c.in_default.ensures c.in_default-answer_of.ensures c.in_default-sim_of.ensures c.in_default-build_of.ensures c.in_default-tour_of.ensures c.in_default-load_of.ensures c.in_default-replay_of.ensures c.in-None.ensures;
}
