-- What serving takes before a connection is accepted.
use Rattle.std.specs.Prelude.{◌≡◌, ◌≤◌, ℕ, [], length, vec_capacity, All}
use Rattle.soc_desc.specs.declared.description.Description.{Description}
use Rattle.soc_core.specs.Built.{fabric_of}
use Rattle.soc_core.specs.Core.{built_core}
use Rattle.eb_ports.specs.Ends.{no_ends}
use Rattle.eb_serve.specs.Serves.{port_slave}
use Rattle.eb_serve.specs.Seats.{KeepsNone, KeepsSpace}
use Rattle.eb_serve.specs.declared.running.Readied.{Readied}

-- For so many doors: a turn of the bus of the description as it was built, and what their lanes need.
pub record IsReadied {D : Type 0} (d : Description) (connections count : ℕ) (p : Readied D) : Type 0 where
  pub slave : p.slave ≡ port_slave d
  pub turn : p.root.turn ≡ p.turn
  pub made : p.root.made ≡ 0
  pub masters : p.root.masters ≡ count
  pub few : count ≤ d.masters
  pub description : p.root.origin.description ≡ d
  pub built : p.root.origin.core ≡ built_core (fabric_of d)
  pub ends : length p.ends.items ≡ count
  pub ready : All (λ e. e ≡ no_ends connections) p.ends.items
  pub lanes : p.lanes.items ≡ []
  pub space : count ≤ vec_capacity p.lanes
  pub none : KeepsNone p.kept
  pub kept_space : KeepsSpace count p.kept
