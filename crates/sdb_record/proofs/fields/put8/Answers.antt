use Rattle.std.proofs.Common.{arith}
use Rattle.eb_base.proofs.FieldLemmas.{with_number-set}
use Rattle.sdb_record.specs.Relation.{with_field}
use Rattle.sdb_record.proofs.fields.put8.Goals as goal

pub returns-clause-written : goal.returns-clause-written
unfolding with_field
returns-clause-written c = with_number-set c.args.out.now c.args.at c.args.value (omega arith) (omega arith)
