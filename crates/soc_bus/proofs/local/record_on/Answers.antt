-- Where no cycle is open, there are no pairs.
use Rattle.std.proofs.Common.{◌∙◌, sym}
use Rattle.soc_core.specs.Core.{port}
use Rattle.soc_bus.proofs.LocalLemmas.{err_then, none_of}
use Rattle.soc_bus.proofs.local.record_on.Goals as goal

pub first_record-requires-clause-none : goal.first_record-requires-clause-none
first_record-requires-clause-none g c = none_of c.is_open.result (port c.args.bus.now.core c.args.m).opened c.if-is_open.false c.is_open.ensures.is_open

pub returns-else-is_open-clause-err_opened : goal.returns-else-is_open-clause-err_opened
returns-else-is_open-clause-err_opened g c =
    err_then c.first_record.result
    (λ e. e ∙ sym (none_of c.is_open.result (port c.args.bus.now.core c.args.m).opened c.if-is_open.false c.is_open.ensures.is_open)) c.first_record.ensures.err_opened
