use Rattle.std.proofs.Common.{ap}
use Rattle.std.proofs.lemmas.Result.{err_from_is_err_and}
use Rattle.serde_json.specs.View.{view}
use Rattle.soc_desc.specs.Checks.{◌>>=◌}
use Rattle.soc_desc.specs.Described.{described, checked, value_of}
use Rattle.soc_desc.proofs.Each.{fault_is, if_ok, if_err}
use Rattle.soc_desc.proofs.reading.read.Goals as goal

pub returns-in_err-value-clause-fault : goal.returns-in_err-value-clause-fault
returns-in_err-value-clause-fault c =
    let p = err_from_is_err_and c.from_residual.result c.from_residual.ensures.1 in
    rw (p.1, p.2) (λ n. ap (λ found. found >>= checked) (fault_is c.in_err-value.field-0.0 (value_of c.args.text.now) c.in_err-value.ensures n))

pub returns-clause-ok : goal.returns-clause-ok
returns-clause-ok c =
    if_ok c.checked.result (checked (view c.in_ok-value.value)) (described c.args.text.now) (ap (λ found. found >>= checked) c.in_ok-value.ensures) c.checked.ensures.found

pub returns-clause-fault : goal.returns-clause-fault
returns-clause-fault c =
    if_err c.checked.result (checked (view c.in_ok-value.value)) (described c.args.text.now) (ap (λ found. found >>= checked) c.in_ok-value.ensures) c.checked.ensures.found
