use Rattle.std.proofs.Common.{Result, sym, subst, ◌∙◌, lit<}
use Rattle.std.specs.Prelude.{IfOk}
use Rattle.sdb_record.specs.declared.kinds.Record.{Record}
use Rattle.sdb_record.specs.declared.faults.RecordFault.{RecordFault}
use Rattle.sdb_record.specs.Layout.{wishbone}
use Rattle.sdb_record.specs.Relation.{IsRecord}
use Rattle.sdb_record.proofs.ReadLemmas.{related, only}
use Rattle.sdb_record.proofs.decoding.decode.Goals as goal

pub returns-clause-related : goal.returns-clause-related
returns-clause-related c = subst (λ (a : Result Record RecordFault). IfOk a (λ r. IsRecord wishbone r c.args.bytes.now)) (sym c.decode_in.ensures) (related wishbone c.args.bytes.now (lit< tt) c.fits-bytes)

pub returns-clause-only : goal.returns-clause-only
returns-clause-only c = λ r h. c.decode_in.ensures ∙ only wishbone c.args.bytes.now r h
