-- A bus is its items, then its ROM.
use Rattle.std.proofs.Common.{◌≡◌, ℕ, ◌+◌, ◌∷◌, ◌++◌, [], List, length, map, drop, rules, arith, sym, ap, ◌∙◌, subst}
use Rattle.std.proofs.lemmas.List.{drop_more}
use Rattle.eb_base.specs.declared.width.Width.TheVariants.{W32}
use Rattle.soc_desc.specs.declared.description.ItemDescription.{ItemDescription, the_lemmas}
use Rattle.soc_desc.specs.Accepted.{is_32}
use Rattle.sdb_build.specs.Sound.{AreSoundItems}
use Rattle.sdb_build.proofs.SoundLemmas.{items_sound_at_0, others_sound}
use Rattle.soc_machine.proofs.LayoutLemmas.{image_ends}
use Rattle.soc_machine.specs.Described.{item_parts, parts_in, parts_of}
use Rattle.wb_signals.specs.Parts as wb
use Rattle.wb_signals.specs.Parts.{AllFitIn, AllQuiet}
use Rattle.wb_tree.specs.Tree.{node_slave, part_slave, AllSound}
use Rattle.soc_core.specs.Built.{root_shown}
use Rattle.soc_bus.specs.Tree.{part_built}
use Rattle.soc_bus.proofs.TreeLemmas.{parts_are, root_fits, quiet_built, bus_is, parts_more, if_ok, last_below}
use Rattle.soc_desc.specs.View.{OfDevice, device_shown}
use Rattle.soc_desc.proofs.Wider.{sound_wider}
use Rattle.sdb_build.proofs.SoundLemmas.{device_sound, bridge_sound}
use Rattle.soc_bus.proofs.TreeLemmas.{item_seen, device_waits, make_small, device_listed}
use Rattle.soc_bus.proofs.tree.+tree.Goals as goal

pub bus_node-put_items-requires : goal.bus_node-put_items-requires
bus_node-put_items-requires t c =
    let sound : AreSoundItems is_32 0 c.as_slice.result.now = subst (λ is. AreSoundItems is_32 0 is) (sym c.as_slice.ensures) (items_sound_at_0 is_32 c.args.bus.now c.requires.sound) in
    let none : c.new-parts.result.items ≡ [] = search rules in
    (rw c.as_slice.ensures (search (rules, the_lemmas)), (sound, subst AllSound (sym none) tt))

pub bus_node-rom_part-rom-requires-clause-fits : goal.bus_node-rom_part-rom-requires-clause-fits
bus_node-rom_part-rom-requires-clause-fits t c =
    omega (arith, ap length c.in_ok-table.ensures.octets, image_ends c.args.bus.now c.requires.sound, last_below c.args.bus.now c.requires.sound)

pub bus_node-bus-requires-clause-fits : goal.bus_node-bus-requires-clause-fits
bus_node-bus-requires-clause-fits t c =
    let first : List wb.Part = map part_slave c.put_items.new.parts.items in
    let none : c.new-parts.result.items ≡ [] = search rules in
    let of_items = c.in_ok-put_items.ensures.parts ∙ ap (λ ps. map part_slave ps ++ map part_built (parts_in W32 (map item_parts c.as_slice.result.now))) none ∙ ap (λ is. map part_built (parts_in W32 (map item_parts is))) c.as_slice.ensures in
    let with_rom = c.in_ok-add.ensures.parts ∙ ap (λ (x : wb.Part). first ++ x ∷ []) c.rom_part-rom.ensures.part in
    let are = parts_are c.args.bus.now c.requires.sound c.in_ok-table.field-0.items first (map part_slave c.add.new.parts.items) c.in_ok-table.ensures.octets of_items with_rom in
    subst (AllFitIn W32) (sym are) (root_fits c.args.bus.now c.requires.sound)

pub bus_node-bus-requires-clause-quiet : goal.bus_node-bus-requires-clause-quiet
bus_node-bus-requires-clause-quiet t c =
    let first : List wb.Part = map part_slave c.put_items.new.parts.items in
    let none : c.new-parts.result.items ≡ [] = search rules in
    let of_items = c.in_ok-put_items.ensures.parts ∙ ap (λ ps. map part_slave ps ++ map part_built (parts_in W32 (map item_parts c.as_slice.result.now))) none ∙ ap (λ is. map part_built (parts_in W32 (map item_parts is))) c.as_slice.ensures in
    let with_rom = c.in_ok-add.ensures.parts ∙ ap (λ (x : wb.Part). first ++ x ∷ []) c.rom_part-rom.ensures.part in
    let are = parts_are c.args.bus.now c.requires.sound c.in_ok-table.field-0.items first (map part_slave c.add.new.parts.items) c.in_ok-table.ensures.octets of_items with_rom in
    subst AllQuiet (sym are) (quiet_built (parts_of (root_shown c.args.bus.now)))

pub bus_node-returns-clause-slave : goal.bus_node-returns-clause-slave
bus_node-returns-clause-slave t c =
    let first : List wb.Part = map part_slave c.put_items.new.parts.items in
    let none : c.new-parts.result.items ≡ [] = search rules in
    let of_items = c.in_ok-put_items.ensures.parts ∙ ap (λ ps. map part_slave ps ++ map part_built (parts_in W32 (map item_parts c.as_slice.result.now))) none ∙ ap (λ is. map part_built (parts_in W32 (map item_parts is))) c.as_slice.ensures in
    let with_rom = c.in_ok-add.ensures.parts ∙ ap (λ (x : wb.Part). first ++ x ∷ []) c.rom_part-rom.ensures.part in
    let are = parts_are c.args.bus.now c.requires.sound c.in_ok-table.field-0.items first (map part_slave c.add.new.parts.items) c.in_ok-table.ensures.octets of_items with_rom in
    if_ok c.bus.result (λ n e. e ∙ bus_is c.args.bus.now c.requires.sound (map part_slave c.add.new.parts.items) are) c.bus.ensures.slave

pub put_items-loop-item-preserved : goal.put_items-loop-item-preserved
put_items-loop-item-preserved t c =
    let i : ℕ = c.loop-item.item-index in
    let items : List ItemDescription = c.args.items.now in
    let one : ItemDescription = c.item-item.result in
    let rest : List ItemDescription = drop (i + 1) items in
    let here : drop i items ≡ one ∷ rest = drop_more items i one c.loop-item-test.true ∙ ap (λ v. v ∷ rest) (sym c.item-item.is) in
    let before = c.loop-item.invariant in
    record {
      sound = others_sound is_32 0 one rest (subst (λ is. AreSoundItems is_32 0 is) here before.sound);
      made = c.in_ok-add.ensures.made;
      parts = parts_more (item_parts one) (map item_parts rest) (map part_slave c.loop-item.parts.items) (map part_slave c.add.new.parts.items) (map part_slave c.args.parts.now.items ++ map part_built (parts_in W32 (map item_parts items)))
          (c.in_ok-add.ensures.parts ∙ ap (λ (ps : List wb.Part). map part_slave c.loop-item.parts.items ++ ps) c.in_ok-part.ensures.part)
          (ap (λ (is : List ItemDescription). map part_slave c.loop-item.parts.items ++ map part_built (parts_in W32 (map item_parts is))) (sym here) ∙ before.parts);
    }

pub bus_node-table-requires : goal.bus_node-table-requires
bus_node-table-requires t c = record { sound = sound_wider c.args.bus.now c.requires.sound }

pub item_part-overflow_cast-octets : goal.item_part-overflow_cast-octets
item_part-overflow_cast-octets t c =
    let sound = device_sound is_32 0 c.args.item.now (device_shown c.in-Device.device) c.in-Device.ensures.view c.requires.sound in
    omega (arith, make_small (device_shown c.in-Device.device).make sound.0, c.octets_in-octets.ensures.octets)

pub item_part-built-requires : goal.item_part-built-requires
item_part-built-requires t c =
    record { kept = (device_sound is_32 0 c.args.item.now (device_shown c.in-Device.device) c.in-Device.ensures.view c.requires.sound).0 }

pub item_part-joined-node-requires : goal.item_part-joined-node-requires
item_part-joined-node-requires t c = record { wait = device_waits c.args.item.now (device_shown c.in-Device.device) c.in-Device.ensures.view c.requires.sound }

pub item_part-overflow_add-device : goal.item_part-overflow_add-device
item_part-overflow_add-device t c =
    let sound = device_sound is_32 0 c.args.item.now (device_shown c.in-Device.device) c.in-Device.ensures.view c.requires.sound in
    omega (arith, sound.2, c.octets_in-octets.ensures.octets)

pub item_part-overflow_add-at : goal.item_part-overflow_add-at
item_part-overflow_add-at t c =
    let sound = bridge_sound is_32 0 c.args.item.now c.in-Bridge.product.now c.in-Bridge.at c.in-Bridge.bus.now c.in-Bridge.ensures.view c.requires.sound in
    omega (arith, sound.1)

pub item_part-returns-in_ok-built-in-Device-clause-part : goal.item_part-returns-in_ok-built-in-Device-clause-part
item_part-returns-in_ok-built-in-Device-clause-part t c =
    let d = device_shown c.in-Device.device in
    let sound = device_sound is_32 0 c.args.item.now d c.in-Device.ensures.view c.requires.sound in
    device_listed d c.octets_in-octets.result c.in_ok-built-in-Device.built (node_slave c.joined-node.result) (part_slave c.new.result) sound.0 c.octets_in-octets.ensures.octets
    c.in_ok-built-in-Device.ensures.built c.joined-node.ensures.slave c.new.ensures.part
    ∙ sym (item_seen c.args.item.now (OfDevice d) c.in-Device.ensures.view)
