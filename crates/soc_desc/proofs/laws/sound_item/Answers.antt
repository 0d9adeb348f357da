use Rattle.soc_desc.proofs.Sound.{ram_of_sound, regs_of_sound, fifo_of_sound, bridge_of_sound}
use Rattle.soc_desc.proofs.laws.sound_item.Goals as goal

pub returns-clause-ram : goal.returns-clause-ram
returns-clause-ram c = ram_of_sound

pub returns-clause-regs : goal.returns-clause-regs
returns-clause-regs c = regs_of_sound

pub returns-clause-fifo : goal.returns-clause-fifo
returns-clause-fifo c = fifo_of_sound

pub returns-clause-bridge : goal.returns-clause-bridge
returns-clause-bridge c = bridge_of_sound
