use Rattle.soc_core.proofs.Rooms.{tick_room}
use Rattle.soc_core.proofs.laws.room.Goals as goal

pub returns : goal.returns
returns c = record { tick = tick_room }
