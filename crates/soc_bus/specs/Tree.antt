-- The tree of a described bus.
use Rattle.std.specs.Prelude.{List, [], ◌∷◌, Option, Some, None}
use Rattle.wb_signals.specs.Parts.{Part}
use Rattle.wb_tree.specs.declared.part.Part.{Part as TreePart}
use Rattle.wb_tree.specs.Tree.{part_slave, IsSoundPart}
use Rattle.soc_machine.specs.Described.{Placement}

-- A part of a described bus as it is built: it holds what the description says, and owes nothing.
abbrev pub part_built : Placement → Part
part_built p = record { first = p.extent.first; last = p.extent.last; slave = record { wiring = p.wiring; contents = p.contents; owed = [] } }

abbrev pub part_listed : Option TreePart → List Part
part_listed None = []
part_listed (Some part) = part_slave part ∷ []

abbrev pub IsSoundGiven : Option TreePart → Type 0
IsSoundGiven None = Unit {0}
IsSoundGiven (Some part) = IsSoundPart part
