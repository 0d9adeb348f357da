use Rattle.std.proofs.Common.{sym, ap, subst}
use Rattle.eb_text.specs.Command.{Command, command_seen}
use Rattle.eb_run.specs.Run.{run_of}
use Rattle.eb_run.specs.Commands.{ComesTo}
use Rattle.eb_run.specs.Top.{IsAlone}
use Rattle.eb_run.proofs.commands.run_command.Goals as goal

pub answer_ram-requires-clause-size : goal.answer_ram-requires-clause-size
answer_ram-requires-clause-size g c κs within = subst (λ (k : Command). IsAlone k) (ap command_seen c.in-AnswerRam.is) c.requires.alone

pub returns-in-Sim : goal.returns-in-Sim
returns-in-Sim g c =
    let run = run_of g.W.File.Source.reading (g.W.World.outside c.args.world.now) (g.W.World.outside c.sim.new.world) (g.O.Sink.writing c.args.out.now) (g.O.Sink.writing c.sim.new.out) in
    record { comes_to = subst (λ (k : Command). ComesTo run k c.sim.result) (sym (ap command_seen c.in-Sim.is)) c.sim.ensures.comes_to }
