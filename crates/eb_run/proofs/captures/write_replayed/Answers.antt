use Rattle.std.proofs.Common.{Ok, subst}
use Rattle.eb_server.specs.declared.ending.Ending.{Ending}
use Rattle.eb_replay.specs.Text.{replay_text}
use Rattle.eb_run.specs.Captures.{SendsEnd}
use Rattle.eb_run.proofs.SendLemmas.{sends_unclean}
use Rattle.eb_run.proofs.captures.write_replayed.Goals as goal

pub returns-in_default : goal.returns-in_default
returns-in_default g c =
    let out = g.O.Sink.writing c.args.out.now in
    let out' = g.O.Sink.writing c.write-wrote.new.sink in
    let text = replay_text c.args.replayed.now in
    let e = c.first_unclean.result in
    record {
      sends = subst (λ (x : Ending). SendsEnd out out' text x (Ok e)) c.first_unclean.ensures.ending (sends_unclean out out' text e c.write-wrote.result c.in_default.not-Clean c.write-wrote.ensures.wrote.all);
    }
