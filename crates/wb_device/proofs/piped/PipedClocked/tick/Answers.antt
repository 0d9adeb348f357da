-- The line one clock later.
use Rattle.std.proofs.Common.{◌-◌, arith}
use Rattle.wb_device.specs.Line.{answer_to}
use Rattle.wb_device.proofs.Lines.{given-line, tail_later, piped_ticked}
use Rattle.wb_device.proofs.piped.PipedClocked.tick.Goals as goal

pub returns-clause-answer : goal.returns-clause-answer
returns-clause-answer c = rw c.first-first.ensures.first (given-line (15 - c.args.self.now.wait) c.args.self.now.line (omega arith))

pub returns-clause-after : goal.returns-clause-after
returns-clause-after c =
    let s = c.args.self.now in
    let n = 15 - s.wait in
    rw (c.shift.ensures.line, c.first-first.ensures.first, c.apply_given-next.ensures.answer, tail_later n (16 - n) s.line (answer_to s.device c.args.op) (omega arith) (omega arith))
    (piped_ticked s.device _ s.wait s.line c.args.op (omega arith) s.short c.apply_given-next.ensures.content c.apply_given-next.ensures.bus c.apply_given-next.ensures.size)
