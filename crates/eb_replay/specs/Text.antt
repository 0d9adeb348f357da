-- The text of a replay, and the ending that decides how it is told as a whole.
use Rattle.std.specs.Prelude.{ℕ, suc, List, [], ◌∷◌, ◌++◌, codes, decimal}
use Rattle.eb_io.specs.Text.{line}
use Rattle.soc_journal.specs.Text.{journal_text}
use Rattle.eb_server.specs.declared.ending.Ending.{Ending}
use Rattle.eb_server.specs.declared.ending.Ending.TheVariants as ending
use Rattle.eb_replay.specs.Ends.{end_text}
use Rattle.eb_replay.specs.Digits.{reply_text}
use Rattle.eb_replay.specs.Ports.{PortOutcome}
use Rattle.eb_replay.specs.Replay.{ReplayState}

-- a port by its number, and how its stream ended
abbrev pub port_head : ℕ → Ending → List ℕ
port_head m e = codes "port " ++ decimal m ++ codes " " ++ end_text e ++ codes " "

-- and its reply
abbrev pub reply_line : ℕ → PortOutcome → List ℕ
reply_line m port = line (port_head m port.ending ++ reply_text port.reply)

-- the ports, of which the first has the number m
abbrev pub reply_lines : ℕ → List PortOutcome → List ℕ
reply_lines m [] = []
reply_lines m (port ∷ ports) = reply_line m port ++ reply_lines (suc m) ports

-- the ports, then the journal
abbrev pub replay_text : ReplayState → List ℕ
replay_text r = reply_lines 0 r.ports ++ journal_text r.journal

abbrev pub unclean_or : Ending → Ending → Ending
unclean_or ending.Clean rest = rest
unclean_or e rest = e

-- the ending of the first of these ports whose ending isn't clean, or that all are clean
abbrev pub first_unclean : List PortOutcome → Ending
first_unclean [] = ending.Clean
first_unclean (port ∷ ports) = unclean_or port.ending (first_unclean ports)
