use Rattle.std.proofs.Common.{◌∙◌, arith}
use Rattle.eb_base.specs.declared.width.Width.TheVariants.{W16}
use Rattle.eb_base.specs.Field.{octets_of}
use Rattle.eb_base.proofs.FieldLemmas.{with_number-copied}
use Rattle.eb_base.proofs.fields.put16.Goals as goal

pub returns : goal.returns
unfolding octets_of
returns c = record {
  written = with_number-copied W16 c.args.bytes.now c.copy_from_slice.new.self c.args.at _ c.args.value (omega arith) (c.copy_from_slice.ensures.after ∙ c.to_be_bytes.ensures);
}
