use Rattle.std.proofs.Common.{rules}
use Rattle.eb_host.proofs.host.Host.ask_cycle.Goals as goal

pub returns-in-Err-clause-sends : goal.returns-in-Err-clause-sends
returns-in-Err-clause-sends g c = (c.send.new.self.rooms.heard.items, search rules)
