-- The text of served ports.
use Rattle.std.specs.Prelude.{ℕ, suc, List, [], ◌∷◌, ◌++◌, Bool, true, false, codes, decimal}
use Rattle.soc_journal.specs.Text.{journal_text}
use Rattle.eb_server.specs.declared.ending.Ending.{Ending}
use Rattle.eb_replay.specs.Ends.{end_text}
use Rattle.eb_ports.specs.Ends.{EndsState}
use Rattle.eb_serve.specs.Serves.{ServeState}

-- a connection by its port and its own number, and how it ended
abbrev pub connection_line : ℕ → ℕ → Ending → List ℕ
connection_line m k e = codes "port " ++ decimal m ++ codes " connection " ++ decimal k ++ codes " " ++ end_text e ++ codes "\n"

-- connections of a port, of which the first has the number k
abbrev pub connection_lines : ℕ → ℕ → List Ending → List ℕ
connection_lines m k [] = []
connection_lines m k (e ∷ endings) = connection_line m k e ++ connection_lines m (suc k) endings

-- a port whose door failed
abbrev pub door_line : ℕ → List ℕ
door_line m = codes "port " ++ decimal m ++ codes " door fault\n"

abbrev pub fault_lines : ℕ → Bool → List ℕ
fault_lines m true = door_line m
fault_lines m false = []

-- the connections of a port, then whether its door failed
abbrev pub port_text : ℕ → EndsState → List ℕ
port_text m ends = connection_lines m 0 ends.endings ++ fault_lines m ends.door_failed

-- the ports, of which the first has the number m
abbrev pub ports_text : ℕ → List EndsState → List ℕ
ports_text m [] = []
ports_text m (ends ∷ ports) = port_text m ends ++ ports_text (suc m) ports

-- the ports, then the journal
abbrev pub serve_text : ServeState → List ℕ
serve_text r = ports_text 0 r.ports ++ journal_text r.journal
