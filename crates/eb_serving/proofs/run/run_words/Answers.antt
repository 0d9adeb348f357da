use Rattle.std.proofs.Common.{◌≡◌, inr, subst, ap, rules, map, string_bytes}
use Rattle.eb_serving.specs.declared.command.Serving.TheVariants as serving
use Rattle.eb_serving.specs.ServingWords.{ServingTask, PortsTask, PostTask, IsServingTask, ask_seen, serving_seen}
use Rattle.eb_serving.proofs.run.run_words.Goals as goal

pub returns-in-Some-Ports : goal.returns-in-Some-Ports
returns-in-Some-Ports g c =
    let words = map string_bytes c.args.words.now in
    let is : c.in-Some-Ports.field-0 ≡ serving.Ports c.in-Some-Ports.asked = search rules in
    let command = subst (λ (t : ServingTask). IsServingTask words t) (ap serving_seen is) c.in-Some-Ports.ensures.command in
    record { comes_to = inr (PortsTask (ask_seen c.in-Some-Ports.asked), command, c.serve_ports.ensures.comes_to) }

pub returns-in-Some-Post : goal.returns-in-Some-Post
returns-in-Some-Post g c =
    let words = map string_bytes c.args.words.now in
    let is : c.in-Some-Post.field-0 ≡ serving.Post c.in-Some-Post.asked = search rules in
    let command = subst (λ (t : ServingTask). IsServingTask words t) (ap serving_seen is) c.in-Some-Post.ensures.command in
    record { comes_to = inr (PostTask (ask_seen c.in-Some-Post.asked), command, c.answer_datagrams.ensures.comes_to) }
