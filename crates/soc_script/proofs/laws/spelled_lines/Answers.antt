use Rattle.soc_script.specs.Spelling.{LineIsSpelled}
use Rattle.soc_script.proofs.SpellingLemmas.{line_read, line_spelled}
use Rattle.soc_script.proofs.laws.spelled_lines.Goals as goal

spelled : LineIsSpelled
spelled bus masters text l = (line_spelled bus masters text l, line_read bus masters text l)

pub returns : goal.returns
returns c = record { line = spelled }
