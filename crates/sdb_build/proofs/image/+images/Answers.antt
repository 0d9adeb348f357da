use Rattle.std.proofs.Common.{◌++◌, map, rules, sym, subst}
use Rattle.soc_desc.specs.declared.description.ItemDescription.{the_lemmas}
use Rattle.sdb_build.specs.Tables.{item_tables, images_behind, bus_images}
use Rattle.soc_desc.specs.Accepted.{is_32_or_64}
use Rattle.sdb_build.specs.Sound.{AreSoundItems}
use Rattle.sdb_build.proofs.SoundLemmas.{items_sound}
use Rattle.sdb_build.proofs.TableLemmas.{on_ok, images_added}
use Rattle.sdb_build.proofs.image.+images.Goals as goal

pub push_bus-push_behind-requires : goal.push_bus-push_behind-requires
push_bus-push_behind-requires t c =
    let sound : AreSoundItems is_32_or_64 c.args.base c.as_slice.result.now = subst (λ is. AreSoundItems is_32_or_64 c.args.base is) (sym c.as_slice.ensures) (items_sound is_32_or_64 c.args.bus.now c.requires.sound c.args.base c.requires.inside) in
    (rw c.as_slice.ensures (search (rules, the_lemmas)), sound)

pub push_bus-returns : goal.push_bus-returns
push_bus-returns t c =
    on_ok c.push_behind.result c.push_behind.new.images.items
    (c.push_image.new.images.items ++ images_behind c.args.base (map item_tables c.as_slice.result.now))
    (c.args.images.now.items ++ bus_images c.args.bus.now c.args.base)
    c.push_behind.ensures
    (images_added c.args.bus.now c.args.base c.args.images.now.items c.push_image.new.images.items c.as_slice.result.now c.in_ok-push_image.ensures c.as_slice.ensures)
