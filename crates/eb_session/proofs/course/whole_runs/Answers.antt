use Rattle.eb_session.proofs.EndLemmas.{begins, fed_goes, runs_all, finish_ends, fed_ends}
use Rattle.eb_session.proofs.ShortLemmas.{is_short}
use Rattle.eb_session.proofs.course.whole_runs.Goals as goal

pub returns-clause-begins : goal.returns-clause-begins
returns-clause-begins c = begins

pub returns-clause-goes : goal.returns-clause-goes
returns-clause-goes c = fed_goes

pub returns-clause-all : goal.returns-clause-all
returns-clause-all c = runs_all

pub returns-clause-finish : goal.returns-clause-finish
returns-clause-finish c = finish_ends

pub returns-clause-fed : goal.returns-clause-fed
returns-clause-fed c = fed_ends

pub returns-clause-short : goal.returns-clause-short
returns-clause-short c = is_short
