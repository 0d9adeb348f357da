use Rattle.eb_run.proofs.SendLemmas.{failed_text}
use Rattle.eb_run.proofs.commands.show.Goals as goal

pub returns-in_err-put_all : goal.returns-in_err-put_all
returns-in_err-put_all g c = record {
  shows = failed_text c.args.text.now _ _ _ c.from_residual.ensures.0 c.from_residual.ensures.1 c.in_err-put_all.ensures.wrote.all;
}

pub returns : goal.returns
returns g c = record { shows = c.in_ok-put_all.ensures.wrote.all }
