-- The items of a bus, then its ROM.
use Rattle.std.proofs.Common.{◌≡◌, ◌∷◌, ◌++◌, [], List, length, map, rules, arith, sym, ap, ◌∙◌, subst}
use Rattle.std.proofs.lemmas.List.{length-map}
use Rattle.eb_base.specs.declared.width.Width.TheVariants.{W32}
use Rattle.soc_desc.specs.Accepted.{is_32}
use Rattle.sdb_build.specs.Sound.{AreSoundItems}
use Rattle.sdb_build.proofs.SoundLemmas.{items_sound_at_0}
use Rattle.soc_machine.proofs.LayoutLemmas.{image_ends}
use Rattle.soc_machine.specs.Described.{item_parts, parts_in}
use Rattle.wb_signals.specs.Parts as wb
use Rattle.wb_tree.specs.Tree.{node_slave}
use Rattle.wb_crossbar.specs.Inside.{parts_of, part_of}
use Rattle.soc_bus.specs.Tree.{part_built}
use Rattle.soc_bus.proofs.TreeLemmas.{parts_are, last_below, few_roots}
use Rattle.soc_desc.proofs.Wider.{sound_wider}
use Rattle.soc_bus.proofs.tree.top_slots.Goals as goal

pub put_slots-requires-clause-sound : goal.put_slots-requires-clause-sound
put_slots-requires-clause-sound c = subst (λ is. AreSoundItems is_32 0 is) (sym c.as_slice.ensures) (items_sound_at_0 is_32 c.args.bus.now c.requires.sound)

pub rom_part-rom-requires-clause-fits : goal.rom_part-rom-requires-clause-fits
rom_part-rom-requires-clause-fits c =
    omega (arith, ap length c.in_ok-table.ensures.octets, image_ends c.args.bus.now c.requires.sound, last_below c.args.bus.now c.requires.sound)

pub returns-clause-slots : goal.returns-clause-slots
returns-clause-slots c =
    let first : List wb.Part = parts_of node_slave c.put_slots.new.slots.items in
    let none : c.new-slots.result.items ≡ [] = search rules in
    let of_items = c.in_ok-put_slots.ensures.slots ∙ ap (λ ps. parts_of node_slave ps ++ map part_built (parts_in W32 (map item_parts c.as_slice.result.now))) none ∙ ap (λ is. map part_built (parts_in W32 (map item_parts is))) c.as_slice.ensures in
    let with_rom = c.in_ok-add_slot.ensures.slots ∙ ap (λ (x : wb.Part). first ++ x ∷ []) c.rom_part-rom.ensures.part in
    parts_are c.args.bus.now c.requires.sound c.in_ok-table.field-0.items first (parts_of node_slave c.add_slot.new.slots.items) c.in_ok-table.ensures.octets of_items with_rom

pub returns-clause-few : goal.returns-clause-few
returns-clause-few c =
    let first : List wb.Part = parts_of node_slave c.put_slots.new.slots.items in
    let none : c.new-slots.result.items ≡ [] = search rules in
    let of_items = c.in_ok-put_slots.ensures.slots ∙ ap (λ ps. parts_of node_slave ps ++ map part_built (parts_in W32 (map item_parts c.as_slice.result.now))) none ∙ ap (λ is. map part_built (parts_in W32 (map item_parts is))) c.as_slice.ensures in
    let with_rom = c.in_ok-add_slot.ensures.slots ∙ ap (λ (x : wb.Part). first ++ x ∷ []) c.rom_part-rom.ensures.part in
    let are = parts_are c.args.bus.now c.requires.sound c.in_ok-table.field-0.items first (parts_of node_slave c.add_slot.new.slots.items) c.in_ok-table.ensures.octets of_items with_rom in
    let few = few_roots c.args.bus.now c.requires.sound (parts_of node_slave c.add_slot.new.slots.items) are in
    let n = length-map c.add_slot.new.slots.items (part_of node_slave) in
    omega (arith, few, n)

pub table-requires : goal.table-requires
table-requires c = record { sound = sound_wider c.args.bus.now c.requires.sound }
