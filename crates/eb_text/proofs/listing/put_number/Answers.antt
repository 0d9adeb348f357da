use Rattle.std.proofs.Common.{List, ℕ, ◌++◌, ap, ◌∙◌}
use Rattle.eb_base.specs.Field.{octets_of}
use Rattle.eb_io.specs.Text.{hex_text}
use Rattle.eb_text.proofs.listing.put_number.Goals as goal

pub returns-clause-added : goal.returns-clause-added
unfolding octets_of
returns-clause-added c = c.put_hex.ensures.added ∙ ap (λ (l : List ℕ). c.args.out.now ++ hex_text l) c.to_be_bytes.ensures
