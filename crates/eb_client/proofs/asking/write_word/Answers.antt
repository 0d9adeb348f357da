use Rattle.std.proofs.Common.{inl}
use Rattle.eb_client.proofs.asking.write_word.Goals as goal

pub returns-in-Err : goal.returns-in-Err
returns-in-Err g c = record { asks = inl c.in-Err.ensures.opens }
