use Rattle.soc_desc.proofs.Sound.{top_of_sound, items_of_sound, apart_on_sound}
use Rattle.soc_desc.proofs.Wider.{sound_wider}
use Rattle.soc_desc.proofs.laws.sound_bus.Goals as goal

pub returns-clause-top : goal.returns-clause-top
returns-clause-top c = top_of_sound

pub returns-clause-items : goal.returns-clause-items
returns-clause-items c = items_of_sound

pub returns-clause-apart : goal.returns-clause-apart
returns-clause-apart c = apart_on_sound

pub returns-clause-wider : goal.returns-clause-wider
returns-clause-wider c = sound_wider
