use Rattle.std.proofs.Common.{Option, ◌∙◌, ap}
use Rattle.eb_serve.specs.declared.unclean.Unclean.{Unclean}
use Rattle.eb_serving.specs.ServingRuns.{served_answer}
use Rattle.eb_serving.proofs.ports.tell_served.Goals as goal

pub returns : goal.returns
returns g c =
    let wrote = c.write-wrote.result in
    record { tells = (wrote, c.write-wrote.ensures.wrote.all, c.answer_of.ensures.answer ∙ ap (λ (first : Option Unclean). served_answer first wrote) c.first_unclean.ensures.first) }
