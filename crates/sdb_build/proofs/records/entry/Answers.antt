use Rattle.std.proofs.Common.{arith}
use Rattle.soc_desc.specs.View.{device_shown}
use Rattle.soc_desc.specs.Accepted.{is_32_or_64}
use Rattle.sdb_build.proofs.SoundLemmas.{device_sound, bridge_sound, rom_inside}
use Rattle.sdb_build.proofs.records.entry.Goals as goal

pub device_record-requires-clause-some : goal.device_record-requires-clause-some
device_record-requires-clause-some c = (device_sound is_32_or_64 0 c.args.item.now (device_shown c.in-Device.device) c.in-Device.ensures.view c.requires.sound).1

pub device_record-requires-clause-inside : goal.device_record-requires-clause-inside
device_record-requires-clause-inside c =
    let sound = device_sound is_32_or_64 0 c.args.item.now (device_shown c.in-Device.device) c.in-Device.ensures.view c.requires.sound in
    omega (arith, sound.2)

pub overflow_add-result : goal.overflow_add-result
overflow_add-result c =
    let sound = bridge_sound is_32_or_64 0 c.args.item.now c.in-Bridge.product.now c.in-Bridge.at c.in-Bridge.bus.now c.in-Bridge.ensures.view c.requires.sound in
    omega (arith, sound.1, rom_inside is_32_or_64 c.in-Bridge.bus.now sound.0)
