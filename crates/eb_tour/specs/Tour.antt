-- What discovery comes to through a host and a session in memory.
use Rattle.std.specs.Prelude.{◌≡◌, ◌⊎◌, ◌^◌, ◌<◌, List, Result, Ok, Err}
use Rattle.eb_base.specs.declared.width.Width.TheVariants.{W32}
use Rattle.wb_signals.specs.Cycles.{MasterCycles}
use Rattle.wb_signals.specs.History.{IsLegal}
use Rattle.sdb_walk.specs.declared.found.Found.{Found}
use Rattle.sdb_walk.specs.declared.fault.WalkFault.{WalkFault}
use Rattle.sdb_walk.specs.declared.fault.WalkFault.TheVariants as fault
use Rattle.soc_desc.specs.declared.description.Description.{Description}
use Rattle.soc_desc.specs.Accepted.{IsAccepted}
use Rattle.soc_machine.specs.Described.{described_wiring, described_contents}
use Rattle.soc_discovery.specs.Tree.{tree_of}
use Rattle.eb_host.specs.declared.op.HostFault.{HostFault}
use Rattle.eb_loopback.specs.Joined.{LoopbackState}

-- Discovery found this tree, or there was no memory for it, or the host had no answer.
abbrev pub FindsUnlessStopped : List Found → Result (List Found) (WalkFault HostFault) → Type 0
FindsUnlessStopped tree result = (result ≡ Ok tree) ⊎ ((result ≡ Err fault.NoMemory) ⊎ ((f : HostFault) × (result ≡ Err (fault.Reader f))))

-- What discovery came to over a link to a new session: where the slave is that of an accepted description, and the entries that
-- the link's master made are a legal history from the described system as it is built, it found the description's tree.
abbrev pub Tours : {M : Type 0} → (M → MasterCycles) → LoopbackState M → LoopbackState M → Result (List Found) (WalkFault HostFault) → Type 0
Tours cycles old new result = (d : Description) → IsAccepted d → old.session.slave ≡ record { bus = W32; root = d.bus.sdb } → d.bus.sdb < 2 ^ 64
    → IsLegal (described_wiring d) (described_contents d) (cycles new.master).made → FindsUnlessStopped (tree_of d) result
