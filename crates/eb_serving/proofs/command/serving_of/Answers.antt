use Rattle.std.proofs.Common.{map, string_bytes}
use Rattle.eb_serving.proofs.AskLemmas.{no_serving}
use Rattle.eb_serving.proofs.command.serving_of.Goals as goal

pub returns-in-None : goal.returns-in-None
returns-in-None c = record { command = no_serving (map string_bytes c.args.words.now) c.in_default.ensures c.in-None.ensures }
