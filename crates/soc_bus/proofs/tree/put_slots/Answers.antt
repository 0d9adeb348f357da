-- One item after the other.
use Rattle.std.proofs.Common.{◌≡◌, ℕ, ◌+◌, ◌∷◌, ◌++◌, List, map, drop, sym, ap, ◌∙◌, subst}
use Rattle.std.proofs.lemmas.List.{drop_more}
use Rattle.eb_base.specs.declared.width.Width.TheVariants.{W32}
use Rattle.soc_desc.specs.declared.description.ItemDescription.{ItemDescription}
use Rattle.soc_desc.specs.Accepted.{is_32}
use Rattle.sdb_build.specs.Sound.{AreSoundItems}
use Rattle.sdb_build.proofs.SoundLemmas.{others_sound}
use Rattle.soc_machine.specs.Described.{item_parts, parts_in}
use Rattle.wb_signals.specs.Parts as wb
use Rattle.wb_tree.specs.Tree.{node_slave}
use Rattle.wb_crossbar.specs.Inside.{parts_of}
use Rattle.soc_bus.specs.Tree.{part_built}
use Rattle.soc_bus.proofs.TreeLemmas.{parts_more}
use Rattle.soc_bus.proofs.tree.put_slots.Goals as goal

pub loop-item-preserved : goal.loop-item-preserved
loop-item-preserved c =
    let i : ℕ = c.loop-item.item-index in
    let items : List ItemDescription = c.args.items.now in
    let one : ItemDescription = c.item-item.result in
    let rest : List ItemDescription = drop (i + 1) items in
    let here : drop i items ≡ one ∷ rest = drop_more items i one c.loop-item-test.true ∙ ap (λ v. v ∷ rest) (sym c.item-item.is) in
    let before = c.loop-item.invariant in
    record {
      sound = others_sound is_32 0 one rest (subst (λ is. AreSoundItems is_32 0 is) here before.sound);
      made = c.in_ok-add_slot.ensures.made;
      slots = parts_more (item_parts one) (map item_parts rest) (parts_of node_slave c.loop-item.slots.items) (parts_of node_slave c.add_slot.new.slots.items) (parts_of node_slave c.args.slots.now.items ++ map part_built (parts_in W32 (map item_parts items)))
          (c.in_ok-add_slot.ensures.slots ∙ ap (λ (ps : List wb.Part). parts_of node_slave c.loop-item.slots.items ++ ps) c.in_ok-part.ensures.part)
          (ap (λ (is : List ItemDescription). parts_of node_slave c.loop-item.slots.items ++ map part_built (parts_in W32 (map item_parts is))) (sym here) ∙ before.slots);
    }
