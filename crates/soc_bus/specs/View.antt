-- What contracts see of a bus and of its ports.
use Rattle.std.specs.Prelude.{◌≡◌, ◌≤◌, ℕ, List, [], ◌∷◌, length, map, slice_index_or, Option, Some, All}
use Rattle.eb_base.specs.declared.width.Width.TheVariants.{W32}
use Rattle.soc_desc.specs.declared.description.Description.{Description}
use Rattle.soc_journal.specs.Journal.{JournalState}
use Rattle.wb_signals.specs.Slave.{Owed}
use Rattle.wb_signals.specs.declared.slave_set.SlaveSet.{SlaveSet}
use Rattle.wb_port.specs.Port as engine
use Rattle.wb_crossbar.specs.Grant.{Turn}
use Rattle.wb_crossbar.specs.Looks.{set_in}
use Rattle.wb_crossbar.specs.Crossbar.{CrossbarState, wiring_of}
use Rattle.soc_machine.specs.Described.{described_wiring}
use Rattle.soc_core.specs.Fabric.{IsFabric}
use Rattle.soc_core.specs.Built.{fabric_of, top_slaves}
use Rattle.soc_core.specs.Core.{CorePort, Core, resting_port, wants_of}
use Rattle.soc_core.specs.Core as core
use Rattle.soc_core.specs.Sound.{IsSoundCore, Room, HasSpare}
use Rattle.soc_bus.specs.declared.phase.Phase.{Phase}
use Rattle.soc_bus.specs.declared.phase.Phase.TheVariants.{Idle, Wants, Holds, Leaves}

abbrev pub phase_of : Phase → core.Phase
phase_of Idle = core.Idle
phase_of (Wants set) = core.Wants set.0
phase_of (Holds set) = core.Holds set.0
phase_of Leaves = core.Leaves

-- A port's cycle, as a port with nothing loaded, and the pairs for which it has room.
pub record CycleView : Type 0 where
  pub state : CorePort
  pub room : ℕ

abbrev pub states : List CycleView → List CorePort
states = map (λ c. c.state)

abbrev pub rooms : List CycleView → List ℕ
rooms = map (λ c. c.room)

-- A port: its cycle, what its engine has loaded, sent and got, and the answers that the crossbar owes it.
abbrev pub with_queue : CorePort → engine.PortState → List Owed → CorePort
with_queue c p owed = record { phase = c.phase; opened = c.opened; loaded = p.loaded; sent = p.passed; got = p.answers; owed = owed }

abbrev pub joined : List CorePort → List engine.PortState → List (List Owed) → List CorePort
joined [] ports owed = []
joined (c ∷ cycles) [] owed = []
joined (c ∷ cycles) (p ∷ ports) [] = []
joined (c ∷ cycles) (p ∷ ports) (o ∷ owed) = with_queue c p o ∷ joined cycles ports owed

-- The description that it was built from, its core, and what it has room for.
pub record BusState : Type 0 where
  pub description : Description
  pub core : Core
  pub room : Room

abbrev pub bus_state : Description → CrossbarState → List CycleView → List engine.PortState → Turn → JournalState → BusState
bus_state description crossbar cycles ports arbiter journal = record {
  description = description;
  core = record { ports = joined (states cycles) ports crossbar.owed; contents = crossbar.contents; first = arbiter.first; journal = journal.entries };
  room = record { entries = journal.spare; pairs = rooms cycles };
}

-- What is kept by each call: the core is sound, and there is the room that the ports need.
pub record IsBus (b : BusState) : Type 0 where
  pub fabric : IsFabric (fabric_of b.description)
  pub few : b.description.masters ≤ 16
  pub width : (described_wiring b.description).bus ≡ W32
  pub sound : IsSoundCore (fabric_of b.description) b.core
  pub room : HasSpare b.core b.room

-- The parts of a bus are those of its description.
pub record IsMadeOf (d : Description) (x : CrossbarState) (cs : List CycleView) (ps : List engine.PortState) (arbiter : Turn) : Type 0 where
  pub width : x.width ≡ W32
  pub slaves : x.children ≡ top_slaves d
  pub wiring : wiring_of x ≡ described_wiring d
  pub cycles : length cs ≡ d.masters
  pub ports : length ps ≡ d.masters
  pub owed : length x.owed ≡ d.masters
  pub deep : All (λ p. p.depth ≡ d.depth) ps
  pub turn : arbiter.ports ≡ d.masters

-- the sets that ports wait for, as the arbiter is given them and as the core has them
abbrev pub sets_given : List (Option SlaveSet) → List (Option ℕ)
sets_given = map (λ want. set_in (Some want))

abbrev pub sets_wanted : List CorePort → List (Option ℕ)
sets_wanted = map (λ p. wants_of p.phase)

abbrev pub wanting : List CorePort → ℕ → Option ℕ
wanting ports m = wants_of (slice_index_or ports m resting_port).phase
