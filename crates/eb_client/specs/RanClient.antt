-- What a run of a client's words met and did.
use Rattle.std.specs.Prelude.{◌≡◌, ◌⊎◌, ℕ, List, [], ◌∷◌, ◌++◌, Contains, Some, Result, Ok, Err}
use Rattle.std.specs.Bool.{⊤}
use Rattle.eb_io.specs.Reading.{Reading}
use Rattle.eb_io.specs.Writing.{Writing, WritesAll}
use Rattle.eb_io.specs.declared.sink.WriteFault.{WriteFault}
use Rattle.eb_host.specs.Exchange.{duplex}
use Rattle.eb_net.specs.Network.{Network, link_to, asking, IsNewLink, DialFailed}
use Rattle.eb_text.specs.declared.status.Status.{Status}
use Rattle.eb_text.specs.declared.status.TheConstants.Status as status
use Rattle.eb_text.specs.declared.fault.Fault.TheVariants as fault
use Rattle.eb_client.specs.declared.fault.ClientFault.{ClientFault}
use Rattle.eb_client.specs.declared.fault.ClientFault.TheVariants as client
use Rattle.eb_client.specs.declared.fault.WalkWhy.{WalkWhy}
use Rattle.eb_client.specs.ClientWords.{ClientTask, LsTask, ReadTask, WriteTask, IsTask, IsNoTask}
use Rattle.eb_client.specs.ClientLines.{client_status, client_line}
use Rattle.eb_client.specs.Tasks.{DoesTask}

-- the address that a task dials
abbrev pub dialled : ClientTask → List ℕ
dialled (LsTask address) = address
dialled (ReadTask address place width) = address
dialled (WriteTask address place width value) = address

-- What a client meets and leaves: what links and its output tell, and the net and the output before and after it.
pub record ClientRun (D P L O : Type 0) : Type 0 where
  pub reading : L → Reading
  pub writing : L → Writing
  pub net : Network D P L
  pub net' : Network D P L
  pub shown : O → Writing
  pub beside : O → Reading
  pub out : O
  pub out' : O

abbrev pub client_run : {D P L O : Type 0} → (L → Reading) → (L → Writing) → Network D P L → Network D P L → (O → Writing) → (O → Reading) → O → O → ClientRun D P L O
client_run reading writing net net' shown beside out out' =
    record { reading = reading; writing = writing; net = net; net' = net'; shown = shown; beside = beside; out = out; out' = out' }

-- The net has a link, the task ran over it, and it stands in the net again as the task left it. Nothing else of the net changed.
pub record RunsThere {D P L O : Type 0} (run : ClientRun D P L O) (task : ClientTask) (result : Result ⊤ ClientFault) : Type 0 where
  pub link : L
  pub left : L
  pub there : run.net.link ≡ Some link
  pub stands : run.net' ≡ record run.net { link = Some left }
  pub does : DoesTask run.shown run.beside task (duplex (run.reading link) (run.writing link)) (duplex (run.reading left) (run.writing left)) run.out run.out' result

-- The address of the task was dialled, and a link is there, new. The task ran over it, and it stands in the net as the task left
-- it. Nothing else of the net changed.
pub record RunsDialled {D P L O : Type 0} (run : ClientRun D P L O) (task : ClientTask) (result : Result ⊤ ClientFault) : Type 0 where
  pub link : L
  pub left : L
  pub is_new : IsNewLink (run.reading link) (run.writing link)
  pub stands : run.net' ≡ record (asking run.net (link_to (dialled task))) { link = Some left }
  pub does : DoesTask run.shown run.beside task (duplex (run.reading link) (run.writing link)) (duplex (run.reading left) (run.writing left)) run.out run.out' result

-- What a task came to: the dial of its address failed, which the count of failed dials says; or there was no memory for it, and
-- the net is as it was; or it ran over the link that was dialled. Nothing is written but by the task.
abbrev pub TaskComesTo : {D P L O : Type 0} → ClientRun D P L O → ClientTask → Result ⊤ ClientFault → Type 0
TaskComesTo run task result =
    ((result ≡ Err client.Door) × DialFailed (asking run.net (link_to (dialled task))) run.net' × (run.out' ≡ run.out))
    ⊎ (((result ≡ Err (client.Common fault.NoMemory)) × (run.net' ≡ run.net) × (run.out' ≡ run.out))
    ⊎ RunsDialled run task result)

-- What words came to: they are no task, and neither the net nor the output was touched; or a task ran.
abbrev pub ClientComesTo : {D P L O : Type 0} → ClientRun D P L O → List (List ℕ) → Result ⊤ ClientFault → Type 0
ClientComesTo run words result =
    ((result ≡ Err (client.Common fault.Usage)) × IsNoTask words × (run.net' ≡ run.net) × (run.out' ≡ run.out))
    ⊎ ((task : ClientTask) × IsTask words task × TaskComesTo run task result)

-- the status of a result
abbrev pub client_status_for : Result ⊤ ClientFault → Status
client_status_for (Ok done) = status.OK
client_status_for (Err f) = client_status f

-- Standard error got the line of a fault, all of it unless a write failed, and nothing where there is none.
abbrev pub TellsClient : Writing → Writing → Result ⊤ ClientFault → Type 0
TellsClient err err' (Ok done) = err' ≡ err
TellsClient err err' (Err f) = (wrote : Result ⊤ WriteFault) × WritesAll err err' (client_line f) wrote

-- The words are a task, it came to this, and standard error tells that.
pub record CameClient {D P L O : Type 0} (run : ClientRun D P L O) (err err' : Writing) (words : List (List ℕ)) (result : Result ⊤ ClientFault) : Type 0 where
  pub task : ClientTask
  pub is_task : IsTask words task
  pub comes_to : TaskComesTo run task result
  pub tells : TellsClient err err' result

-- The words are a task, and the dial of its address failed: the count of failed dials says so, and nothing else of the net changed
-- but that the address was asked for. Nothing was written but the line of that.
pub record FoundNoDoor {D P L O : Type 0} (run : ClientRun D P L O) (err err' : Writing) (words : List (List ℕ)) : Type 0 where
  pub task : ClientTask
  pub is_task : IsTask words task
  pub failed : DialFailed (asking run.net (link_to (dialled task))) run.net'
  pub out_is : run.out' ≡ run.out
  pub tells : TellsClient err err' (Err client.Door)

-- The words came to this, which standard error tells, and the status is of it.
pub record EndedClient {D P L O : Type 0} (run : ClientRun D P L O) (err err' : Writing) (words : List (List ℕ)) (ended : Status) : Type 0 where
  pub result : Result ⊤ ClientFault
  pub comes_to : ClientComesTo run words result
  pub is : ended ≡ client_status_for result
  pub tells : TellsClient err err' result

-- It is a fault of what the peer answered: it ended, or sent what no reply is, or has no width in common, or too small a width.
abbrev pub IsOfPeer : ClientFault → Type 0
IsOfPeer (client.Ended octets) = Unit {0}
IsOfPeer (client.BadReply place) = Unit {0}
IsOfPeer (client.NoCommonWidth widths) = Unit {0}
IsOfPeer (client.TooWide adr) = Unit {0}
IsOfPeer f = ⊥

-- A run of a client's words on a net, an output and standard error, which ended with this status.
pub record RanClient {D P L O : Type 0} (run : ClientRun D P L O) (err err' : Writing) (words : List (List ℕ)) (ended : Status) : Type 0 where
  -- The task was done, and all of its output was written. Standard error is as it was.
  pub ok : ended ≡ status.OK → CameClient run err err' words (Ok tt)
  -- The words are no task, exactly then, and the net and the output are as they were.
  pub usage : ended ≡ status.USAGE → IsNoTask words × (run.net' ≡ run.net) × (run.out' ≡ run.out)
  pub no_task : IsNoTask words → ended ≡ status.USAGE
  -- The address could not be dialled.
  pub door : ended ≡ status.DOOR → FoundNoDoor run err err' words
  -- A read of the link failed.
  pub read_fault : ended ≡ status.READ_FAULT → CameClient run err err' words (Err (client.Common fault.ReadFault))
  -- A write to the link or of the output failed.
  pub write_fault : ended ≡ status.WRITE_FAULT → CameClient run err err' words (Err (client.Common fault.WriteFault))
  -- The host has this fault of what the peer answered.
  pub peer : ended ≡ status.PEER → (f : ClientFault) × IsOfPeer f × CameClient run err err' words (Err f)
  -- The bus answered the access to this address with an error.
  pub bus_error : ended ≡ status.BUS_ERROR → (adr : ℕ) × CameClient run err err' words (Err (client.BusError adr))
  -- The record at this address breaks this rule of the walk first.
  pub walk : ended ≡ status.WALK → (at : ℕ) × (why : WalkWhy) × CameClient run err err' words (Err (client.Walk at why))
  -- There was no memory to go on.
  pub no_memory : ended ≡ status.NO_MEMORY → CameClient run err err' words (Err (client.Common fault.NoMemory))
  -- There is no other status.
  pub listed : Contains (0 ∷ 2 ∷ 4 ∷ 5 ∷ 8 ∷ 9 ∷ 10 ∷ 11 ∷ 13 ∷ []) ended.0
  -- The net was asked for a link to the address of the task, and for nothing else; or there was no memory, and it is as it was.
  pub asked : (task : ClientTask) → IsTask words task
      → (run.net'.asked ≡ run.net.asked ++ link_to (dialled task) ∷ []) ⊎ ((run.net' ≡ run.net) × (ended ≡ status.NO_MEMORY))
  -- What the words came to; the status is of that, and standard error gets the line of its fault, all of it unless a write there
  -- fails, and nothing where there is none.
  pub came : EndedClient run err err' words ended
