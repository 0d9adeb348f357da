-- What the octets of a description's file decide of a server: whether its task is refused, and by which fault, or is begun.
use Rattle.std.specs.Prelude.{◌≡◌, ◌⊎◌, ◌<◌, ◌≤◌, ℕ, ◌+◌, List, [], ◌∷◌, ◌++◌, Option, Result, Ok, Err}
use Rattle.eb_io.specs.Counts.{Rose}
use Rattle.eb_io.specs.Writing.{Writing}
use Rattle.soc_desc.specs.Described.{described}
use Rattle.soc_desc.specs.declared.description.Description.{Description}
use Rattle.soc_desc.specs.declared.fault.DescFault.{DescFault}
use Rattle.eb_serve.specs.declared.unclean.Unclean.{Unclean}
use Rattle.eb_text.specs.declared.status.Status.{Status}
use Rattle.eb_text.specs.declared.fault.Fault.{Fault}
use Rattle.eb_text.specs.declared.fault.Fault.TheVariants as fault
use Rattle.eb_run.specs.Top.{HoldsOctets}
use Rattle.eb_serving.specs.declared.fault.ServingFault.{ServingFault}
use Rattle.eb_serving.specs.ServingWords.{ServingTask, PortsTask, PostTask}
use Rattle.eb_serving.specs.ServingRuns.{PortRun, ServingRun, ServesPorts, ServesPost, serving_status_for, TellsServing}

-- One file was opened, and no count of its faults or of the world's rose. It tells all its octets, which are these.
pub record HoldsDescription {F D P L : Type 0} (run : ServingRun F D P L) (text : List ℕ) : Type 0 where
  pub file : F
  pub files : run.world'.files ≡ run.world.files ++ file ∷ []
  pub hold : HoldsOctets (run.reading file) text
  pub open_faults : Rose run.world.faults run.world'.faults → ⊥
  pub read_faults : Rose 0 (run.reading file).faults → ⊥

-- There is a port for each master of the description; a post is at one alone.
abbrev pub HasPorts : ServingTask → Description → Type 0
HasPorts (PortsTask ask) d = ask.port + d.masters ≤ 65536
HasPorts (PostTask ask) d = Unit {0}

-- There are too few.
abbrev pub LacksPorts : ServingTask → Description → Type 0
LacksPorts (PortsTask ask) d = 65536 < ask.port + d.masters
LacksPorts (PostTask ask) d = ⊥

-- The octets are refused as a description, and this is their first fault; or they are one of more masters than there are ports.
abbrev pub RefusesTask : ServingTask → List ℕ → Fault → Type 0
RefusesTask task text f =
    ((first : DescFault) × (described text ≡ Err first) × (f ≡ fault.Description first))
    ⊎ ((d : Description) × (described text ≡ Ok d) × LacksPorts task d × (f ≡ fault.Usage))

-- The octets are accepted with this description, and there are ports enough for it.
abbrev pub AcceptsTask : ServingTask → List ℕ → Description → Type 0
AcceptsTask task text d = (described text ≡ Ok d) × HasPorts task d

-- what serving a task on a described bus came to
abbrev pub ServesTask : {D P L : Type 0} → PortRun D P L → ServingTask → Description → Result (Option Unclean) ServingFault → Type 0
ServesTask run (PortsTask ask) d result = ServesPorts run d ask result
ServesTask run (PostTask ask) d result = ServesPost run d ask result

-- The task was begun on this description and came to this, which standard error tells, and the status is of it.
pub record BeganServing {F D P L : Type 0} (run : ServingRun F D P L) (err err' : Writing) (task : ServingTask) (d : Description) (ended : Status) : Type 0 where
  pub result : Result (Option Unclean) ServingFault
  pub serves : ServesTask run.ports task d result
  pub is : ended ≡ serving_status_for result
  pub tells : TellsServing err err' result
