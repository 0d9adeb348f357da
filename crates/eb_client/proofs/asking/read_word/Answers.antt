use Rattle.std.proofs.Common.{inl}
use Rattle.eb_client.proofs.asking.read_word.Goals as goal

pub returns-in-Err-clause-asks : goal.returns-in-Err-clause-asks
returns-in-Err-clause-asks g c = inl c.in-Err.ensures.opens
