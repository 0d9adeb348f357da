-- The text of datagrams that were served.
use Rattle.std.specs.Prelude.{ℕ, suc, List, [], ◌∷◌, ◌++◌, codes, decimal}
use Rattle.soc_journal.specs.Text.{journal_text}
use Rattle.eb_server.specs.declared.ending.Ending.{Ending}
use Rattle.eb_replay.specs.Ends.{end_text}
use Rattle.eb_serve.specs.Datagrams.{PostState}

-- a datagram by its number, and how it ended
abbrev pub datagram_line : ℕ → Ending → List ℕ
datagram_line k e = codes "datagram " ++ decimal k ++ codes " " ++ end_text e ++ codes "\n"

-- datagrams, of which the first has the number k
abbrev pub datagram_lines : ℕ → List Ending → List ℕ
datagram_lines k [] = []
datagram_lines k (e ∷ endings) = datagram_line k e ++ datagram_lines (suc k) endings

-- the datagrams, then the journal
abbrev pub datagrams_text : PostState → List ℕ
datagrams_text r = datagram_lines 0 r.ends.endings ++ journal_text r.journal
