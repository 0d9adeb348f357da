-- A crossbar of the tests: one port on a bus of 32 data bits with one slave.
use Rattle.std.specs.Prelude.{◌≡◌, length}
use Rattle.eb_base.specs.declared.width.Width.TheVariants.{W32}
use Rattle.wb_crossbar.specs.declared.crossbar.Crossbar.{Crossbar}
use Rattle.wb_crossbar.specs.Inside.{crossbar_of, IsCrossbar}
use Rattle.wb_tree.specs.declared.node.Node.{Node}
use Rattle.wb_tree.specs.Tree.{node_slave, IsSound}

pub record IsShared (x : Crossbar Node) : Type 0 where
  pub sound : IsCrossbar node_slave IsSound x
  pub width : x.width ≡ W32
  pub slaves : length (crossbar_of node_slave x).children ≡ 1
  pub ports : length (crossbar_of node_slave x).owed ≡ 1
