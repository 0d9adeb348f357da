use Rattle.eb_text.proofs.NameLemmas.{trimmed}
use Rattle.eb_text.proofs.listing.text_of.Goals as goal

pub returns-clause-text : goal.returns-clause-text
returns-clause-text c = trimmed c.args.name.now c.trim_ascii_end.result.now c.requires.printed c.trim_ascii_end.ensures.value
