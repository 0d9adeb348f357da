use Rattle.std.proofs.Common.{[], ◌∷◌, arith}
use Rattle.eb_host.proofs.ReplyLemmas.{length_heard, next_last, read_inside}
use Rattle.eb_host.proofs.host.take_answer.Goals as goal

pub joined_at-errors-requires-clause-inside : goal.joined_at-errors-requires-clause-inside
joined_at-errors-requires-clause-inside c =
    omega (arith, length_heard c.args.header (c.args.op ∷ []) c.args.heard.now c.requires.fills, next_last c.args.header c.args.op [] 0 [] 0, c.next_at.ensures)

pub op_word-requires-clause-inside : goal.op_word-requires-clause-inside
op_word-requires-clause-inside c = λ is.
    omega (arith, length_heard c.args.header (c.args.op ∷ []) c.args.heard.now c.requires.fills, read_inside c.args.header c.args.op [] 0 c.args.heard.now 0 is)
