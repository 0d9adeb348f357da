-- What a server meets, and what it came to.
use Rattle.std.specs.Prelude.{◌≡◌, ◌⊎◌, ◌<◌, ◌≤◌, ℕ, ◌+◌, List, ◌++◌, Option, Some, None, Result, Ok, Err, ⊤}
use Rattle.eb_io.specs.Reading.{Reading}
use Rattle.eb_io.specs.Writing.{Writing, WritesAll}
use Rattle.eb_io.specs.Outside.{Outside}
use Rattle.eb_io.specs.declared.sink.WriteFault.{WriteFault}
use Rattle.soc_desc.specs.declared.description.Description.{Description}
use Rattle.eb_net.specs.Accepting.{DoorState}
use Rattle.eb_net.specs.Posting.{Posting}
use Rattle.eb_net.specs.Network.{Network}
use Rattle.eb_server.specs.declared.ending.Ending.{Ending}
use Rattle.eb_serve.specs.Serves.{ServeState, Serves}
use Rattle.eb_serve.specs.Text.{serve_text}
use Rattle.eb_serve.specs.Datagrams.{PostState, ServesDatagrams}
use Rattle.eb_serve.specs.DatagramText.{datagrams_text}
use Rattle.eb_serve.specs.Unclean.{first_unclean_port, first_unclean_of}
use Rattle.eb_serve.specs.declared.unclean.Unclean.{Unclean}
use Rattle.eb_serve.specs.declared.unclean.Unclean.TheVariants as unclean
use Rattle.eb_text.specs.declared.status.Status.{Status}
use Rattle.eb_text.specs.declared.status.TheConstants.Status as status
use Rattle.eb_text.specs.declared.fault.Fault.{Fault}
use Rattle.eb_text.specs.declared.fault.Fault.TheVariants as fault
use Rattle.eb_run.specs.Files.{ReadsDescription}
use Rattle.eb_run.specs.Top.{ending_status}
use Rattle.eb_serving.specs.declared.fault.ServingFault.{ServingFault}
use Rattle.eb_serving.specs.declared.fault.ServingFault.TheVariants as serving
use Rattle.eb_serving.specs.ServingWords.{ServingAsk, ServingTask, PortsTask, PostTask, IsServingTask, IsNoServing}
use Rattle.eb_serving.specs.ServingLines.{serving_status, serving_line}
use Rattle.eb_serving.specs.Doors.{MadeDoors, StopsAtDoor}
use Rattle.eb_serving.specs.Posts.{MadePost, NoPostMade}

-- What a server meets and leaves by its ports: what doors and a post tell, and the net and the output before and after it.
pub record PortRun (D P L : Type 0) : Type 0 where
  pub state : D → DoorState
  pub posting : P → Posting
  pub net : Network D P L
  pub net' : Network D P L
  pub out : Writing
  pub out' : Writing

abbrev pub port_run : {D P L : Type 0} → (D → DoorState) → (P → Posting) → Network D P L → Network D P L → Writing → Writing → PortRun D P L
port_run state posting net net' out out' = record { state = state; posting = posting; net = net; net' = net'; out = out; out' = out' }

-- Besides that, what files tell, and the world before and after it.
pub record ServingRun (F D P L : Type 0) : Type 0 where
  pub reading : F → Reading
  pub world : Outside F
  pub world' : Outside F
  pub ports : PortRun D P L

abbrev pub serving_run : {F D P L : Type 0} → (F → Reading) → Outside F → Outside F → PortRun D P L → ServingRun F D P L
serving_run reading world world' ports = record { reading = reading; world = world; world' = world'; ports = ports }

-- Neither the net nor the output was touched.
abbrev pub LeavesPorts : {D P L : Type 0} → PortRun D P L → Type 0
LeavesPorts run = (run.net' ≡ run.net) × (run.out' ≡ run.out)

-- ---- what a server came to

-- the answer by what first didn't end clean and by the write of the text that tells it: a failed write is the answer only where all
-- ended clean
abbrev pub served_answer : Option Unclean → Result ⊤ WriteFault → Result (Option Unclean) ServingFault
served_answer None (Ok done) = Ok None
served_answer None (Err f) = Err (serving.Common fault.WriteFault)
served_answer (Some u) wrote = Ok (Some u)

-- A text goes out that tells this as the first that didn't end clean, or a front of it where a write fails.
abbrev pub TellsServed : Writing → Writing → List ℕ → Option Unclean → Result (Option Unclean) ServingFault → Type 0
TellsServed out out' text first result = (wrote : Result ⊤ WriteFault) × WritesAll out out' text wrote × (result ≡ served_answer first wrote)

-- The doors of all masters were made, and stand in the net. There was no memory to serve them, and they are new and nothing was
-- written; or they were served on the bus of the description, each as one master, and the text of that went out.
pub record ServedDoors {D P L : Type 0} (run : PortRun D P L) (d : Description) (ask : ServingAsk) (result : Result (Option Unclean) ServingFault) : Type 0 where
  pub between : Network D P L
  pub making : MadeDoors run.state run.net between ask.port d.masters
  pub doors : List D
  pub net_is : run.net' ≡ record between { doors = run.net.doors ++ doors }
  pub came : ((result ≡ Err (serving.Common fault.NoMemory)) × (doors ≡ making.made) × (run.out' ≡ run.out))
      ⊎ ((r : ServeState) × Serves run.state d ask.count making.made doors r × TellsServed run.out run.out' (serve_text r) (first_unclean_port r.ports) result)

-- What serving the ports of a described bus came to: there are not so many ports behind the first, and nothing was touched; or the
-- door of one could not be made, and nothing was written; or they were served.
abbrev pub ServesPorts : {D P L : Type 0} → PortRun D P L → Description → ServingAsk → Result (Option Unclean) ServingFault → Type 0
ServesPorts run d ask result =
    ((result ≡ Err (serving.Common fault.Usage)) × (65536 < ask.port + d.masters) × LeavesPorts run)
    ⊎ ((ask.port + d.masters ≤ 65536) × (f : ServingFault) × (result ≡ Err f) × StopsAtDoor run.state run.net run.net' ask.port d.masters f × (run.out' ≡ run.out))
    ⊎ ((ask.port + d.masters ≤ 65536) × ServedDoors run d ask result)

-- the first datagram that didn't end clean is told like a connection
abbrev pub unclean_datagram : Option Ending → Option Unclean
unclean_datagram None = None
unclean_datagram (Some e) = Some (unclean.Connection e)

-- The post was made, and stands in the net. There was no memory to serve it, and it is new and nothing was written; or it was served
-- on the bus of the description by the master 0, and the text of that went out.
pub record ServedOwnPost {D P L : Type 0} (run : PortRun D P L) (d : Description) (ask : ServingAsk) (result : Result (Option Unclean) ServingFault) : Type 0 where
  pub between : Network D P L
  pub making : MadePost run.posting run.net between ask.port
  pub post : P
  pub net_is : run.net' ≡ record between { post = Some post }
  pub came : ((result ≡ Err (serving.Common fault.NoMemory)) × (post ≡ making.post) × (run.out' ≡ run.out))
      ⊎ ((r : PostState) × ServesDatagrams d ask.count (run.posting making.post) (run.posting post) r
      × TellsServed run.out run.out' (datagrams_text r) (unclean_datagram (first_unclean_of r.ends.endings)) result)

-- What serving a post on a described bus came to: it could not be made, and nothing was written; or it was served.
abbrev pub ServesPost : {D P L : Type 0} → PortRun D P L → Description → ServingAsk → Result (Option Unclean) ServingFault → Type 0
ServesPost run d ask result =
    ((f : ServingFault) × (result ≡ Err f) × NoPostMade run.net run.net' ask.port f × (run.out' ≡ run.out)) ⊎ ServedOwnPost run d ask result

-- What a task came to: its description could not be read, and neither the net nor the output was touched; or its ports
-- or its post were served.
abbrev pub ServingComesTo : {F D P L : Type 0} → ServingRun F D P L → ServingTask → Result (Option Unclean) ServingFault → Type 0
ServingComesTo run (PortsTask ask) result =
    ((f : Fault) × (result ≡ Err (serving.Common f)) × ReadsDescription run.reading run.world run.world' ask.description (Err f) × LeavesPorts run.ports)
    ⊎ ((d : Description) × ReadsDescription run.reading run.world run.world' ask.description (Ok d) × ServesPorts run.ports d ask result)
ServingComesTo run (PostTask ask) result =
    ((f : Fault) × (result ≡ Err (serving.Common f)) × ReadsDescription run.reading run.world run.world' ask.description (Err f) × LeavesPorts run.ports)
    ⊎ ((d : Description) × ReadsDescription run.reading run.world run.world' ask.description (Ok d) × ServesPost run.ports d ask result)

-- Words are no task, and nothing was touched; or a task ran.
abbrev pub ServingWordsComeTo : {F D P L : Type 0} → ServingRun F D P L → List (List ℕ) → Result (Option Unclean) ServingFault → Type 0
ServingWordsComeTo run words result =
    ((result ≡ Err (serving.Common fault.Usage)) × IsNoServing words × (run.world' ≡ run.world) × LeavesPorts run.ports)
    ⊎ ((task : ServingTask) × IsServingTask words task × ServingComesTo run task result)

-- ---- the status, and standard error

-- the status of what the output tells first as not clean
abbrev pub unclean_status : Option Unclean → Status
unclean_status None = status.OK
unclean_status (Some (unclean.Connection e)) = ending_status e
unclean_status (Some unclean.Door) = status.DOOR

-- the status of a result
abbrev pub serving_status_for : Result (Option Unclean) ServingFault → Status
serving_status_for (Ok first) = unclean_status first
serving_status_for (Err f) = serving_status f

-- Standard error got the line of a fault, all of it unless a write failed, and nothing where the output tells how the streams ended.
abbrev pub TellsServing : Writing → Writing → Result (Option Unclean) ServingFault → Type 0
TellsServing err err' (Ok first) = err' ≡ err
TellsServing err err' (Err f) = (wrote : Result ⊤ WriteFault) × WritesAll err err' (serving_line f) wrote
