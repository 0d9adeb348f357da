use Rattle.std.proofs.Common.{arith}
use Rattle.eb_load.proofs.SpellingLemmas.{is_short}
use Rattle.eb_load.proofs.source.LoadSource.new.Goals as goal

pub invariant_of-result-clause-short : goal.invariant_of-result-clause-short
invariant_of-result-clause-short c = omega (arith, is_short c.args.start c.args.records)
