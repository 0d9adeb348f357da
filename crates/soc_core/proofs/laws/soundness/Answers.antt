use Rattle.soc_core.proofs.BuiltLemmas.{described_fabric}
use Rattle.soc_core.proofs.Ticks.{built_sound, events_sound}
use Rattle.soc_core.proofs.laws.soundness.Goals as goal

pub returns : goal.returns
returns c = record { built = built_sound; events = events_sound; described = described_fabric }
