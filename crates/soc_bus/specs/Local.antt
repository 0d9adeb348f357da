-- One port of a bus whose other ports are idle.
use Rattle.std.specs.Prelude.{◌≡◌, ◌≢◌, ◌<◌, ◌^◌, ◌-◌, ℕ, Bool, List, [], ◌++◌, length, take, drop}
use Rattle.wb_signals.specs.Request.{Request}
use Rattle.wb_signals.specs.Cycles.{MasterCycles, paired, made_after, opened_after}
use Rattle.wb_signals.specs.declared.answer.Answer.{Answer}
use Rattle.wb_signals.specs.History.{Entry, IsLegal, after}
use Rattle.soc_desc.specs.declared.description.Description.{Description}
use Rattle.soc_core.specs.Fabric.{Fabric}
use Rattle.soc_core.specs.Built.{fabric_of}
use Rattle.soc_core.specs.Core.{Idle, Holds, Core, port}
use Rattle.soc_bus.specs.View.{BusState}

-- No port asks for anything.
abbrev pub AllIdle : Core → Type 0
AllIdle core = (n : ℕ) → (port core n).phase ≡ Idle

-- all top slaves
abbrev pub all_slaves : Fabric → ℕ
all_slaves f = 2 ^ f.slaves - 1

-- Port m holds this set with nothing loaded, and no other port asks for anything.
pub record IsOpen (core : Core) (m set : ℕ) : Type 0 where
  pub others : (n : ℕ) → n ≢ m → (port core n).phase ≡ Idle
  pub holds : (port core m).phase ≡ Holds set
  pub nothing : (port core m).loaded ≡ []

-- The port m is between two records: where its cycle is open it holds all slaves, else all ports are idle.
pub record IsReady (f : Fabric) (core : Core) (m : ℕ) : Type 0 where
  pub rest : (port core m).opened ≡ [] → AllIdle core
  pub open_ : (port core m).opened ≢ [] → IsOpen core m (all_slaves f)

-- What a record with these operations made: their answers, the entries if it was the last of its cycle, or else its open pairs.
pub record IsRecorded (f : Fabric) (old new : Core) (m : ℕ) (ops : List Request) (answers : List Answer) (last : Bool) : Type 0 where
  pub count : length answers ≡ length ops
  pub journal : new.journal ≡ made_after m old.journal ((port old m).opened ++ paired ops answers) last
  pub opened : (port new m).opened ≡ opened_after ((port old m).opened ++ paired ops answers) last
  pub ready : IsReady f new m

-- the entries made since
abbrev pub made_since : BusState → BusState → List Entry
made_since began now = drop (length began.core.journal) now.core.journal

-- what it tells of its cycles
abbrev pub cycles_since : BusState → BusState → ℕ → MasterCycles
cycles_since began now m = record { made = made_since began now; opened = (port now.core m).opened }

-- What the master m on a bus keeps between two calls: its port is ready; the places held what the journal left when it began;
-- the journal goes on from there.
pub record IsLocal (began now : BusState) (m : ℕ) : Type 0 where
  pub within : m < now.description.masters
  pub settled : began.core.contents ≡ after (fabric_of now.description).wiring (fabric_of now.description).built began.core.journal
  pub goes_on : take (length began.core.journal) now.core.journal ≡ began.core.journal
  pub ready : IsReady (fabric_of now.description) now.core m

-- What no call of the master changes: the bus as it was when the master came, and the description that the bus was built from.
pub record LocalOrigin : Type 0 where
  pub began : BusState
  pub description : Description

-- The entries made are by themselves a legal history from what the places held when it began.
abbrev pub MadeLegal : BusState → BusState → Type 0
MadeLegal began now = IsLegal (fabric_of now.description).wiring began.core.contents (made_since began now)
