use Rattle.std.proofs.Common.{Option, ◌∙◌, ap}
use Rattle.eb_serve.specs.declared.unclean.Unclean.{Unclean}
use Rattle.eb_serving.specs.ServingRuns.{served_answer, unclean_datagram}
use Rattle.eb_serving.proofs.posts.tell_datagrams.Goals as goal

pub returns : goal.returns
returns g c =
    let wrote = c.write-wrote.result in
    let first = c.unclean_of.ensures.unclean ∙ ap unclean_datagram c.first_unclean.ensures.first in
    record { tells = (wrote, c.write-wrote.ensures.wrote.all, c.answer_of.ensures.answer ∙ ap (λ (first : Option Unclean). served_answer first wrote) first) }
