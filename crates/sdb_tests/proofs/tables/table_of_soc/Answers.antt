-- An accepted bus is sound where 64 data bits are allowed too.
use Rattle.soc_desc.proofs.Wider.{sound_wider}
use Rattle.sdb_tests.proofs.tables.table_of_soc.Goals as goal

pub table-requires : goal.table-requires
table-requires g c = record { sound = sound_wider c.in-Ok.soc.bus c.in-Ok.ensures.accepted.sound }
