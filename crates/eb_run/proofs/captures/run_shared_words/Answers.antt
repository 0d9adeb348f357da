use Rattle.std.proofs.Common.{map, string_bytes, inl, inr, refl}
use Rattle.eb_text.specs.Command.{Replay}
use Rattle.eb_run.proofs.captures.run_shared_words.Goals as goal

pub returns : goal.returns
returns g c = record { comes_to = inr (Replay c.in-Some.description.now (map string_bytes c.in-Some.captures.now), c.in-Some.ensures, c.replay_captures.ensures.comes_to) }
