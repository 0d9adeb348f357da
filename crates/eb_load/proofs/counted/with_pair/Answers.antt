use Rattle.std.proofs.Common.{rules, ◌≡◌, ap, ◌∙◌, true, false, cond}
use Rattle.eb_load.specs.declared.counted.Totals.{Totals}
use Rattle.eb_load.specs.Summary.{is_refused, word_in, joined}
use Rattle.eb_load.proofs.SummaryLemmas.{one_write, one_read}
use Rattle.eb_load.proofs.counted.with_pair.Goals as goal

pub returns-then-pair : goal.returns-then-pair
returns-then-pair c =
    let p = c.args.pair.now in
    let is : p.request.write ≡ true = search rules in
    let errors : c.refusals-errors.result ≡ cond (is_refused p) 1 0 = search rules in
    record { value = c.joined.ensures.value ∙ ap (λ (t : Totals). joined c.args.all t) (one_write p c.refusals-errors.result is errors) }

pub returns-else-pair : goal.returns-else-pair
returns-else-pair c =
    let p = c.args.pair.now in
    let is : p.request.write ≡ false = search rules in
    let errors : c.refusals-errors.result ≡ cond (is_refused p) 1 0 = search rules in
    let word : c.word_in.result ≡ word_in p.answer = search rules in
    record { value = c.joined-else-pair.ensures.value ∙ ap (λ (t : Totals). joined c.args.all t) (one_read p c.refusals-errors.result c.word_in.result is errors word c.word_in.type_inv) }
