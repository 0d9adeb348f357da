use Rattle.eb_text.proofs.RecordLemmas.{line_for_each_record, build_by_records}
use Rattle.eb_text.proofs.laws.one_line_a_record.Goals as goal

pub returns-clause-table : goal.returns-clause-table
returns-clause-table c = line_for_each_record

pub returns-clause-build : goal.returns-clause-build
returns-clause-build c = build_by_records
