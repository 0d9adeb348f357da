-- Nodes that owe nothing.
use Rattle.std.proofs.Common.{◌≡◌, ℕ, ◌%◌, List, [], ◌∷◌, map, refl, ap, sym, subst}
use Rattle.eb_base.specs.declared.width.Width.{Width}
use Rattle.eb_base.specs.declared.width.Width.TheVariants.{W8, W16, W32, W64}
use Rattle.eb_base.specs.Width.{octets}
use Rattle.wb_signals.specs.Slave.{Slave}
use Rattle.wb_signals.specs.Parts.{Part, FitsIn, AllFitIn}
use Rattle.wb_signals.specs.Turn.{bus_slave}
use Rattle.wb_signals.specs.Narrow.{narrow_slave}
use Rattle.wb_signals.specs.declared.debtor.Debtor.TheVariants.{Nobody}
use Rattle.wb_signals.proofs.ShapeLemmas.{bus_fits}
use Rattle.wb_signals.proofs.NarrowLemmas.{narrow_fits}
use Rattle.wb_tree.specs.declared.node.Node.{Node}
use Rattle.wb_tree.specs.declared.part.Part.{Part as TreePart}
use Rattle.wb_tree.specs.Tree.{node_slave, part_slave, IsSound}
use Rattle.wb_tests.specs.Quiet.{IsQuietNode, first_part}

-- the only child of a bus
pub one_fits : (width : Width) (p : TreePart) (items : List TreePart) (last : ℕ) (n : Node) → items ≡ p ∷ [] → part_slave p ≡ first_part last n → FitsIn width (first_part last n)
    → AllFitIn width (map part_slave items)
one_fits width p items last n e q f = subst (λ items. AllFitIn width (map part_slave items)) (sym e) (subst (FitsIn width) (sym q) f, tt)

zero_word : (width : Width) → 0 % octets width ≡ 0
zero_word W8 = refl
zero_word W16 = refl
zero_word W32 = refl
zero_word W64 = refl

pub bus_quiet : (width : Width) (n : Node) (parts : List Part) (last : ℕ) → AllFitIn width parts → node_slave n ≡ bus_slave width parts Nobody → IsSound n → IsQuietNode width last n
bus_quiet width n parts last f e s = record { sound = s; free = ap (λ (s : Slave). s.owed) e; fits = bus_fits width parts 0 last (node_slave n) e f (zero_word width) }

pub narrow_quiet : (n : Node) (parts : List Part) (last : ℕ) → AllFitIn W32 parts → node_slave n ≡ narrow_slave parts Nobody [] → IsSound n → IsQuietNode W64 last n
narrow_quiet n parts last f e s = record { sound = s; free = ap (λ (s : Slave). s.owed) e; fits = narrow_fits parts 0 last (node_slave n) e f refl }
