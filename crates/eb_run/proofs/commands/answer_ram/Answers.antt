use Rattle.std.proofs.Common.{subst}
use Rattle.soc_machine.specs.Machine.{MachineState}
use Rattle.eb_run.specs.Run.{run_of}
use Rattle.eb_run.specs.Slave.{IsMade}
use Rattle.eb_run.specs.Streams.{System, AnswersCapture}
use Rattle.eb_run.proofs.SlaveLemmas.{ram_is}
use Rattle.eb_run.proofs.commands.answer_ram.Goals as goal

pub returns : goal.returns
returns g c =
    let run =
    run_of g.W.File.Source.reading (g.W.World.outside c.args.world.now) (g.W.World.outside c.answer_capture.new.world) (g.O.Sink.writing c.args.out.now) (g.O.Sink.writing c.answer_capture.new.out) in
    let made = subst (λ (m : MachineState). IsMade m 0 c.in-Ok-new.slave) c.in-Ok.ensures.machine c.in-Ok-new.ensures.new in
    let is = ram_is c.args.octets c.in-Ok-new.slave made in
    record { comes_to = subst (λ (s : System). AnswersCapture run c.args.capture.now s c.answer_capture.result) is c.answer_capture.ensures.answers }
