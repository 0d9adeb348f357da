-- Connections of a port, one after another.
use Rattle.std.proofs.Common.{ℕ, List, [], ◌∷◌, ◌++◌, refl, subst}
use Rattle.eb_net.specs.Accepting.{DoorState}
use Rattle.wb_signals.specs.Cycles.{MasterCycles}
use Rattle.eb_session.specs.declared.slave.Slave.{Slave}
use Rattle.eb_server.specs.declared.ending.Ending.{Ending}
use Rattle.eb_ports.specs.Connections.{ServedConnection, ServedConnections}

-- one more connection was served
pub connected_more : (m : ℕ) (s : Slave) (old mid new : DoorState) (first between after : MasterCycles) (endings : List Ending) (e : Ending)
    → ServedConnections m s old mid first between endings → ServedConnection m s mid new between after e → ServedConnections m s old new first after (endings ++ e ∷ [])
connected_more m s old mid new first between after [] e before one =
    (new, after, subst (λ (d : DoorState). ServedConnection m s d new first after e) before.0 (subst (λ (k : MasterCycles). ServedConnection m s mid new k after e) before.1 one), (refl, refl))
connected_more m s old mid new first between after (f ∷ endings) e before one =
    (before.0, before.1, before.2, connected_more m s before.0 mid new before.1 between after endings e before.3 one)
