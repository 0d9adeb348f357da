use Rattle.std.proofs.Common.{sym, subst}
use Rattle.soc_desc.specs.Accepted.{is_32_or_64}
use Rattle.sdb_build.specs.Sound.{AreSoundItems}
use Rattle.sdb_build.proofs.SoundLemmas.{items_sound_at_0}
use Rattle.sdb_build.proofs.TableLemmas.{table_is}
use Rattle.sdb_build.proofs.tables.table.Goals as goal

pub push_entries-requires : goal.push_entries-requires
push_entries-requires c = subst (λ is. AreSoundItems is_32_or_64 0 is) (sym c.as_slice.ensures) (items_sound_at_0 is_32_or_64 c.args.bus.now c.requires.sound)

pub returns-clause-octets : goal.returns-clause-octets
returns-clause-octets c =
    table_is c.args.bus.now c.in_ok-out.out.items c.push_record.new.out.items c.push_entries.new.out.items c.interconnect.result c.as_slice.result.now
    c.in_ok-out.ensures.items c.interconnect.ensures.value c.in_ok-push_record.ensures.octets c.as_slice.ensures c.in_ok-push_entries.ensures.octets
