use Rattle.std.proofs.Common.{sym}
use Rattle.eb_base.proofs.FieldLemmas.{number_at-W8}
use Rattle.sdb_record.proofs.fields.get8.Goals as goal

pub returns : goal.returns
returns c = sym (number_at-W8 c.args.bytes.now c.args.at)
