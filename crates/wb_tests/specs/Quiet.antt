-- Devices and nodes of the tests.
use Rattle.std.specs.Prelude.{◌≡◌, ◌≤◌, ℕ, []}
use Rattle.eb_base.specs.declared.width.Width.{Width}
use Rattle.wb_signals.specs.Content.{size_of}
use Rattle.wb_signals.specs.Parts.{Part, FitsIn}
use Rattle.wb_device.specs.State.{DeviceState}
use Rattle.wb_tree.specs.declared.node.Node.{Node}
use Rattle.wb_tree.specs.Tree.{node_slave, IsSound}

-- a device of 8 octets or more, on a bus of this width
pub record IsRoomy (width : Width) (d : DeviceState) : Type 0 where
  pub bus : d.bus ≡ width
  pub size : 8 ≤ size_of d.content

abbrev pub first_part : ℕ → Node → Part
first_part last n = record { first = 0; last = last; slave = node_slave n }

-- A node that owes nothing, and fits a bus of this width at the addresses from 0 to `last`.
pub record IsQuietNode (width : Width) (last : ℕ) (n : Node) : Type 0 where
  pub sound : IsSound n
  pub free : (node_slave n).owed ≡ []
  pub fits : FitsIn width (first_part last n)
