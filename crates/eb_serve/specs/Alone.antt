-- What serving a post takes before a datagram is received.
use Rattle.std.specs.Prelude.{◌≡◌, ◌≤◌, ℕ, [], vec_capacity}
use Rattle.soc_desc.specs.declared.description.Description.{Description}
use Rattle.soc_core.specs.Built.{fabric_of}
use Rattle.soc_core.specs.Core.{built_core}
use Rattle.eb_ports.specs.Ends.{no_ends}
use Rattle.eb_serve.specs.Serves.{port_slave}
use Rattle.eb_serve.specs.declared.datagrams.Alone.{Alone}

-- A turn of the bus of the description as it was built, with one master, and room for so many endings.
pub record IsAlone (d : Description) (count : ℕ) (p : Alone) : Type 0 where
  pub slave : p.slave ≡ port_slave d
  pub turn : p.root.turn ≡ p.turn
  pub made : p.root.made ≡ 0
  pub masters : p.root.masters ≡ 1
  pub few : 1 ≤ d.masters
  pub description : p.root.origin.description ≡ d
  pub built : p.root.origin.core ≡ built_core (fabric_of d)
  pub ends : p.ends ≡ no_ends count
  pub passes : p.passes.items ≡ []
  pub space : 1 ≤ vec_capacity p.passes
