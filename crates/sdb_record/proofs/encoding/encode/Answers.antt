use Rattle.std.proofs.Common.{sym, subst, ◌∙◌, ap}
use Rattle.sdb_record.specs.Layout.{wishbone}
use Rattle.sdb_record.specs.Relation.{IsRecord}
use Rattle.sdb_record.specs.Decoding.{decoded}
use Rattle.sdb_record.proofs.WriteLemmas.{encoded_related, decoded_again}
use Rattle.sdb_record.proofs.encoding.encode.Goals as goal

pub returns-clause-related : goal.returns-clause-related
returns-clause-related c = subst (IsRecord wishbone c.args.value.now) (sym c.put_record.ensures.written) (encoded_related wishbone c.args.value.now c.requires.valid c.put_record.ensures.fit)

pub returns-clause-again : goal.returns-clause-again
returns-clause-again c = ap (decoded wishbone) c.put_record.ensures.written ∙ decoded_again c.args.value.now c.requires.valid c.put_record.ensures.fit
