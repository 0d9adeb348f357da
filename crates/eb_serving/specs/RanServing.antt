-- What a run of a server's words met and did.
use Rattle.std.specs.Prelude.{◌≡◌, ◌≢◌, ◌⊎◌, ◌<◌, ℕ, zero, suc, ◌+◌, List, [], ◌∷◌, ◌++◌, Contains, Option, Some, None, Result, Ok, Err}
use Rattle.eb_io.specs.Writing.{Writing}
use Rattle.eb_codec.specs.declared.item.Why.{Why}
use Rattle.soc_desc.specs.declared.description.Description.{Description}
use Rattle.soc_desc.specs.declared.fault.DescFault.{DescFault}
use Rattle.eb_net.specs.Network.{Wanted, post_at}
use Rattle.eb_server.specs.declared.ending.Ending.TheVariants as ending
use Rattle.eb_serve.specs.declared.unclean.Unclean.{Unclean}
use Rattle.eb_serve.specs.declared.unclean.Unclean.TheVariants as unclean
use Rattle.eb_text.specs.Lines.{status_of}
use Rattle.eb_text.specs.declared.status.Status.{Status}
use Rattle.eb_text.specs.declared.status.TheConstants.Status as status
use Rattle.eb_text.specs.declared.fault.Fault.{Fault}
use Rattle.eb_text.specs.declared.fault.Fault.TheVariants as fault
use Rattle.eb_run.specs.Files.{ReadsDescription}
use Rattle.eb_serving.specs.declared.fault.ServingFault.{ServingFault}
use Rattle.eb_serving.specs.declared.fault.ServingFault.TheVariants as serving
use Rattle.eb_serving.specs.ServingWords.{ServingAsk, ServingTask, PortsTask, PostTask, IsServingTask, IsNoServing}
use Rattle.eb_serving.specs.Doors.{doors_at}
use Rattle.eb_serving.specs.Deciding.{HoldsDescription, RefusesTask, AcceptsTask, BeganServing}
use Rattle.eb_serving.specs.Quiet.{IsQuietServing}
use Rattle.eb_serving.specs.ServingRuns.{ServingRun, LeavesPorts, ServingComesTo, ServingWordsComeTo, serving_status_for, TellsServing}

-- The words are a task, it came to this, and standard error tells that.
pub record CameServing {F D P L : Type 0} (run : ServingRun F D P L) (err err' : Writing) (words : List (List ℕ)) (result : Result (Option Unclean) ServingFault) : Type 0 where
  pub task : ServingTask
  pub is_serving : IsServingTask words task
  pub comes_to : ServingComesTo run task result
  pub tells : TellsServing err err' result

-- It came to this fault, or its output tells this as the first that didn't end clean.
abbrev pub CameServingBy : {F D P L : Type 0} → ServingRun F D P L → Writing → Writing → List (List ℕ) → ServingFault → Unclean → Type 0
CameServingBy run err err' words f u = CameServing run err err' words (Err f) ⊎ CameServing run err err' words (Ok (Some u))

-- The words serve a description with more masters than there are ports from theirs on. It was read and is accepted; nothing else
-- was touched.
pub record HasNoPorts {F D P L : Type 0} (run : ServingRun F D P L) (words : List (List ℕ)) : Type 0 where
  pub ask : ServingAsk
  pub is_serving : IsServingTask words (PortsTask ask)
  pub d : Description
  pub read : ReadsDescription run.reading run.world run.world' ask.description (Ok d)
  pub beyond : 65536 < ask.port + d.masters
  pub leaves : LeavesPorts run.ports

-- The words came to this, which standard error tells, and the status is of it.
pub record EndedServing {F D P L : Type 0} (run : ServingRun F D P L) (err err' : Writing) (words : List (List ℕ)) (ended : Status) : Type 0 where
  pub result : Result (Option Unclean) ServingFault
  pub comes_to : ServingWordsComeTo run words result
  pub is : ended ≡ serving_status_for result
  pub tells : TellsServing err err' result

-- what a task asks the net for, where it asks so often
abbrev pub asked_for : ServingTask → ℕ → List Wanted
asked_for (PortsTask ask) n = doors_at ask.port n
asked_for (PostTask ask) zero = []
asked_for (PostTask ask) (suc n) = post_at ask.port ∷ []

-- A run of a server's words on a world, a net, an output and standard error, which ended with this status.
pub record RanServing {F D P L : Type 0} (run : ServingRun F D P L) (err err' : Writing) (words : List (List ℕ)) (ended : Status) : Type 0 where
  -- It served to the end, all ended clean, no accept failed, and all of the output was written. Standard error is as it was.
  pub ok : ended ≡ status.OK → CameServing run err err' words (Ok None)
  -- The words are no task, and then nothing was touched; or there are too few ports for the masters, and then the description alone
  -- was read.
  pub usage : ended ≡ status.USAGE → (IsNoServing words × (run.world' ≡ run.world) × LeavesPorts run.ports) ⊎ HasNoPorts run words
  pub no_task : IsNoServing words → ended ≡ status.USAGE
  -- The file of the description was read, and this is its first fault.
  pub description : ended ≡ status.DESCRIPTION → (f : DescFault) × CameServing run err err' words (Err (serving.Common (fault.Description f)))
  -- An open or a read of the description failed; or a read of a connection, or a receive of a datagram, the first that didn't end clean.
  pub read_fault : ended ≡ status.READ_FAULT → CameServingBy run err err' words (serving.Common fault.ReadFault) (unclean.Connection ending.ReadFault)
  -- A write of the output failed; or one to a connection, or a send of a datagram, the first that didn't end clean.
  pub write_fault : ended ≡ status.WRITE_FAULT → CameServingBy run err err' words (serving.Common fault.WriteFault) (unclean.Connection ending.WriteFault)
  -- A connection or datagram has its first bad octet at this place, and is the first that didn't end clean.
  pub malformed : ended ≡ status.MALFORMED → (place : ℕ) × (why : Why) × CameServing run err err' words (Ok (Some (unclean.Connection (ending.Malformed place why))))
  -- A connection or datagram ended inside an item, of which so many octets had come, and is the first that didn't end clean.
  pub truncated : ended ≡ status.TRUNCATED → (count : ℕ) × CameServing run err err' words (Ok (Some (unclean.Connection (ending.Truncated count))))
  -- As many octets of a connection were read as are served of one, and it is the first that didn't end clean.
  pub too_long : ended ≡ status.TOO_LONG → CameServing run err err' words (Ok (Some (unclean.Connection ending.TooLong)))
  -- A door or the post could not be made; or an accept failed, and all of the port before it and of the ports before it ended clean.
  pub door : ended ≡ status.DOOR → CameServingBy run err err' words serving.Door unclean.Door
  -- There was no memory to go on; or none for a connection or datagram, the first that didn't end clean.
  pub no_memory : ended ≡ status.NO_MEMORY → CameServingBy run err err' words (serving.Common fault.NoMemory) (unclean.Connection ending.NoMemory)
  -- There is no other status.
  pub listed : Contains (0 ∷ 2 ∷ 3 ∷ 4 ∷ 5 ∷ 6 ∷ 7 ∷ 8 ∷ 12 ∷ 13 ∷ []) ended.0
  -- Where the file of the description tells its octets and no count of its faults or the world's rose, these decide whether the
  -- task is refused, with 3 for the description or 2 for the ports, or begun; unless memory was wanting.
  pub decided : (text : List ℕ) (task : ServingTask) → HoldsDescription run text → IsServingTask words task
      → (ended ≡ status.NO_MEMORY) ⊎ (((f : Fault) × RefusesTask task text f × (ended ≡ status_of f))
      ⊎ ((d : Description) × AcceptsTask task text d × BeganServing run err err' task d ended))
  -- Octets that refuse the task leave no other status but for memory, and then neither the net nor the output was touched.
  pub refuses : (text : List ℕ) (task : ServingTask) (f : Fault) → HoldsDescription run text → IsServingTask words task → RefusesTask task text f
      → ((ended ≡ status_of f) ⊎ (ended ≡ status.NO_MEMORY)) × LeavesPorts run.ports
  -- Octets that accept it don't end so: the task was begun on their description, or memory was wanting before.
  pub accepts : (text : List ℕ) (task : ServingTask) (d : Description) → HoldsDescription run text → IsServingTask words task → AcceptsTask task text d
      → (ended ≢ status.USAGE) × (ended ≢ status.DESCRIPTION) × (((ended ≡ status.NO_MEMORY) × LeavesPorts run.ports) ⊎ BeganServing run err err' task d ended)
  -- And where its doors, its peers and the output don't fail, and the streams are whole, nothing but memory may be wanting.
  pub complete : (text : List ℕ) (task : ServingTask) (d : Description) → HoldsDescription run text → IsServingTask words task → AcceptsTask task text d
      → IsQuietServing run.ports task → (ended ≡ status.OK) ⊎ (ended ≡ status.NO_MEMORY)
  -- The net was asked for doors at the ports of the task, from the first on, in order, or once for a post at its port, and for
  -- nothing else.
  pub asked : (task : ServingTask) → IsServingTask words task → (n : ℕ) × (run.ports.net'.asked ≡ run.ports.net.asked ++ asked_for task n)
  -- What the words came to; the status is of that, and standard error gets the line of its fault, all of it unless a write there
  -- fails, and nothing where there is none or the output tells how the streams ended.
  pub came : EndedServing run err err' words ended
