use Rattle.std.proofs.Common.{◌≡◌, true, false, get_or, ◌-◌, sym, ◌∙◌, arith}
use Rattle.sdb_record.specs.Text.{is_blank}
use Rattle.sdb_record.proofs.TextLemmas.{text_less, text_ends}
use Rattle.sdb_record.proofs.text.text_len.Goals as goal

pub loop-len-preserved : goal.loop-len-preserved
loop-len-preserved c =
    let b : is_blank (get_or c.args.field.now (c.loop-len.len - 1) 0) ≡ true = sym c.is_blank.ensures ∙ c.if-is_blank.true in
    (omega arith, sym (text_less c.args.field.now c.loop-len.len c.loop-len-test.true c.loop-len.invariant.0 b) ∙ c.loop-len.invariant.1)

pub returns-else-is_blank-clause-text : goal.returns-else-is_blank-clause-text
returns-else-is_blank-clause-text c =
    let b : is_blank (get_or c.args.field.now (c.loop-len.len - 1) 0) ≡ false = sym c.is_blank.ensures ∙ c.if-is_blank.false in
    sym (text_ends c.args.field.now c.loop-len.len c.loop-len-test.true c.loop-len.invariant.0 b) ∙ c.loop-len.invariant.1
