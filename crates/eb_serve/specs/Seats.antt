-- The lanes of doors, before their connections are served and after.
use Rattle.std.specs.Prelude.{◌≡◌, ℕ, ◌+◌, ◌<◌, ◌≤◌, List, [], length, map, slice_index_or, vec_capacity, Some}
use Rattle.atomic_table.specs.Seated.{TableId}
use Rattle.eb_net.specs.Accepting.{DoorState}
use Rattle.eb_session.specs.declared.slave.Slave.{Slave}
use Rattle.soc_turn.specs.Views.{PassView}
use Rattle.soc_bus.specs.View.{BusState}
use Rattle.eb_shared.specs.Shared.{number_told, cycles_told}
use Rattle.eb_shared.specs.Lanes.{IsThere}
use Rattle.eb_ports.specs.Ends.{EndsState, no_ends}
use Rattle.eb_ports.specs.Connections.{ServedPort}
use Rattle.eb_ports.specs.declared.ports.PortLane.{PortLane}
use Rattle.eb_serve.specs.Serves.{has_made}
use Rattle.eb_serve.specs.declared.lanes.Kept.{Kept}

-- The lane of door i: it is the master i, which has made nothing and has no cycle, and awaits so many endings.
pub record IsAtDoor {D : Type 0} (turn : TableId) (count : ℕ) (doors : List D) (i : ℕ) (lane : PortLane D) : Type 0 where
  pub door : (f : D) → lane.door ≡ slice_index_or doors i f
  pub ends : lane.ends ≡ no_ends count
  pub there : IsThere turn lane.pass
  pub number : number_told lane.pass ≡ i
  pub none : cycles_told lane.pass ≡ has_made []

-- The connections of lanes were served, each with its master's pass.
pub record PortsServed {D : Type 0} (told : D → DoorState) (s : Slave) (count : ℕ) (lanes lanes' : List (PortLane D)) : Type 0 where
  pub numbers : (i : ℕ) (l : PortLane D) → i < length lanes → number_told (slice_index_or lanes' i l).pass ≡ number_told (slice_index_or lanes i l).pass
  pub ports : (i : ℕ) (l : PortLane D) → i < length lanes → ServedPort (number_told (slice_index_or lanes i l).pass) s count
      (told (slice_index_or lanes i l).door) (told (slice_index_or lanes' i l).door)
      (cycles_told (slice_index_or lanes i l).pass) (cycles_told (slice_index_or lanes' i l).pass) (slice_index_or lanes' i l).ends

-- Nothing is kept yet.
pub record KeepsNone {D : Type 0} (kept : Kept D) : Type 0 where
  pub doors : kept.doors.items ≡ []
  pub passes : kept.passes.items ≡ []
  pub ports : kept.ports.items ≡ []

-- There is space for so many lanes more.
pub record KeepsSpace {D : Type 0} (n : ℕ) (kept : Kept D) : Type 0 where
  pub doors : length kept.doors.items + n ≤ vec_capacity kept.doors
  pub passes : length kept.passes.items + n ≤ vec_capacity kept.passes
  pub ports : length kept.ports.items + n ≤ vec_capacity kept.ports

-- Lanes were taken apart, in their order.
pub record WereKept {D : Type 0} (lanes : List (PortLane D)) (doors : List D) (passes : List (PassView BusState)) (ports : List EndsState) : Type 0 where
  pub doors_are : doors ≡ map (λ lane. lane.door) lanes
  pub passes_are : map (λ pass. Some pass) passes ≡ map (λ lane. lane.pass) lanes
  pub ports_are : ports ≡ map (λ lane. lane.ends) lanes
