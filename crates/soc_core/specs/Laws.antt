-- The laws of a bus with many ports.
use Rattle.std.specs.Prelude.{◌≡◌, ◌≢◌, ◌↔◌, ℕ, ◌+◌, ◌-◌, ◌*◌, ◌<◌, ◌≤◌, List, length, None}
use Rattle.wb_signals.specs.Request.{Request}
use Rattle.soc_core.specs.Fabric.{Fabric, IsFabric}
use Rattle.soc_core.specs.Core.{Wants, Holds, CorePort, Core, port, pending, with_load, raised_of, built_core, loaded, CanLoad, IsTick, ticks_left}
use Rattle.soc_core.specs.Sound.{IsSoundCore, Room, HasSpare}
use Rattle.soc_core.specs.Events.{Event, Raise, Load, Take, Release, Tick, Leads, LeadAll, TicksLead}
use Rattle.soc_core.specs.Stakes.{OnlyOf, KeepsStakes}

-- ---- soundness

-- A core is sound as it is built, and after any events.
abbrev pub BuiltIsSound : Type 0
BuiltIsSound = (f : Fabric) → IsFabric f → IsSoundCore f (built_core f)

abbrev pub EventsKeepSound : Type 0
EventsKeepSound = (f : Fabric) → IsFabric f → (events : List Event) (old new : Core) → IsSoundCore f old → LeadAll f events old new → IsSoundCore f new

-- ---- whose events change what

-- An event of a port adds entries of its master alone and changes no other port's stake; a tick changes neither.
abbrev pub Changes : Event → Core → Core → Type 0
Changes (Raise m set) old new = OnlyOf m old new
Changes (Load m ops) old new = OnlyOf m old new
Changes (Take m) old new = OnlyOf m old new
Changes (Release m cut) old new = OnlyOf m old new
Changes Tick old new = KeepsStakes old new

abbrev pub EventsChangeOwn : Type 0
EventsChangeOwn = (f : Fabric) → IsFabric f → (e : Event) (old new : Core) → IsSoundCore f old → Leads f e old new → Changes e old new

-- ---- the bound of a load

-- A load of n operations leaves n times the greatest path wait and 2 ticks.
abbrev pub LoadLeaves : Type 0
LoadLeaves = (f : Fabric) (ops : List Request) (p : CorePort) → ticks_left f (with_load ops p) ≡ length ops * (f.longest + 2)

-- Each tick lowers the ticks left by at least one, while there are any.
abbrev pub TickLowers : Type 0
TickLowers = (f : Fabric) → IsFabric f → (old new : Core) → IsSoundCore f old → IsTick f old new → (m : ℕ) → ticks_left f (port new m) ≤ ticks_left f (port old m) - 1

-- None are left exactly where no operation is pending.
abbrev pub NoneLeftIsNonePending : Type 0
NoneLeftIsNonePending = (f : Fabric) → IsFabric f → (core : Core) → IsSoundCore f core → (m : ℕ) → (ticks_left f (port core m) ≡ 0) ↔ (pending (port core m) ≡ 0)

-- So a load has all its answers after these ticks.
abbrev pub LoadIsAnswered : Type 0
LoadIsAnswered = (f : Fabric) → IsFabric f → (old new : Core) (m : ℕ) (ops : List Request) → IsSoundCore f old → CanLoad f old m ops
    → TicksLead f (length ops * (f.longest + 2)) (loaded old m ops) new → pending (port new m) ≡ 0

-- ---- grants

-- Where no other port waits or holds, a tick grants a port that waits.
abbrev pub AloneIsGranted : Type 0
AloneIsGranted = (f : Fabric) → IsFabric f → (old new : Core) (m set : ℕ) → IsSoundCore f old → m < f.ports → (port old m).phase ≡ Wants set
    → ((n : ℕ) → n ≢ m → raised_of (port old n).phase ≡ None) → IsTick f old new → (port new m).phase ≡ Holds set

-- ---- room

-- A tick needs no room.
abbrev pub TickNeedsNoRoom : Type 0
TickNeedsNoRoom = (f : Fabric) → IsFabric f → (old new : Core) (room : Room) → IsSoundCore f old → IsTick f old new → HasSpare old room → HasSpare new room
