use Rattle.std.proofs.Common.{ap}
use Rattle.eb_codec.specs.declared.event.Item.TheVariants as item
use Rattle.eb_codec.specs.declared.item.RecordHead.{RecordHead}
use Rattle.eb_codec.specs.Reading.{item_in, record_of}
use Rattle.eb_codec.proofs.reading.item_of.Goals as goal

pub returns-in-Some : goal.returns-in-Some
unfolding item_in record_of
returns-in-Some c = rw c.in-Some.is (ap (λ (d : RecordHead). item.Record d) c.read_head.ensures)
