use Rattle.std.proofs.Common.{◌≡◌, false, sym, ap, ◌∙◌}
use Rattle.std.proofs.lemmas.Bool.{both_ways}
use Rattle.eb_base.specs.Name.{is_name}
use Rattle.sdb_record.specs.Text.{text_in}
use Rattle.sdb_record.proofs.TextLemmas.{text_is_name}
use Rattle.sdb_record.proofs.decoding.name_in.Goals as goal

pub unreachable-requires : goal.unreachable-requires
unreachable-requires c =
    let none : is_name c.text_in.result.now ≡ false = c.in-None.ensures.name in
    let e : is_name (text_in c.args.field.now) ≡ false = sym (ap is_name c.text_in.ensures.text) ∙ none in
    both_ways _ e (text_is_name c.args.field.now c.requires.short c.requires.printed)
