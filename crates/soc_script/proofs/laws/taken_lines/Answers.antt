use Rattle.soc_script.specs.Words.{lines_of}
use Rattle.soc_script.specs.Laws.{LinesAreTaken}
use Rattle.soc_script.proofs.TakenLemmas.{lines_taken}
use Rattle.soc_script.proofs.laws.taken_lines.Goals as goal

taken : LinesAreTaken
taken bus masters text script wide is = lines_taken bus wide masters (lines_of text) script is.lines.each

pub returns : goal.returns
returns c = record { lines = taken }
