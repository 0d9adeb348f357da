use Rattle.std.proofs.Common.{rules}
use Rattle.eb_host.proofs.host.Host.ask_root.Goals as goal

pub returns-in-Err-clause-calls : goal.returns-in-Err-clause-calls
returns-in-Err-clause-calls g c = (c.send.new.self.rooms.heard.items, search rules)
