use Rattle.soc_core.specs.Built.{fabric_of}
use Rattle.eb_shared.proofs.StakeLemmas.{tick_idle}
use Rattle.eb_shared.proofs.steps.make_idle.Goals as goal

pub returns-then-not-idle-clause-idle : goal.returns-then-not-idle-clause-idle
returns-then-not-idle-clause-idle c =
    tick_idle (fabric_of c.args.bus.now.description) c.journal.ensures.kept.fabric c.args.bus.now.core c.tick.new.self.core c.journal.ensures.kept.sound c.tick.ensures.tick c.args.m c.requires.none
