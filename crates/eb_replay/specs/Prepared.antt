-- What a replay takes before its streams begin.
use Rattle.std.specs.Prelude.{◌≡◌, ◌≤◌, ℕ, [], length, vec_capacity, All}
use Rattle.soc_desc.specs.declared.description.Description.{Description}
use Rattle.soc_core.specs.Built.{fabric_of}
use Rattle.soc_core.specs.Core.{built_core}
use Rattle.eb_replay.specs.Replay.{replay_slave}
use Rattle.eb_replay.specs.Lanes.{IsUnused, HasNone, HasSpace}
use Rattle.eb_replay.specs.declared.running.Prepared.{Prepared}

-- For so many captures: a turn of the bus of the description as it was built, and what their lanes need.
pub record IsPrepared {F : Type 0} (d : Description) (count : ℕ) (p : Prepared F) : Type 0 where
  pub turn : p.root.turn ≡ p.turn
  pub made : p.root.made ≡ 0
  pub masters : p.root.masters ≡ count
  pub few : count ≤ d.masters
  pub description : p.root.origin.description ≡ d
  pub built : p.root.origin.core ≡ built_core (fabric_of d)
  pub rooms : length p.rooms.items ≡ count
  pub ready : All (IsUnused (replay_slave d)) p.rooms.items
  pub lanes : p.lanes.items ≡ []
  pub space : count ≤ vec_capacity p.lanes
  pub none : HasNone p.ended
  pub kept_space : HasSpace count p.ended
