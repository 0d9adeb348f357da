-- The cycles that a wave shows.
use Rattle.std.specs.Prelude.{◌≡◌, ◌<◌, ℕ, zero, suc, ◌&&◌, not, Bool, true, false, List, [], ◌∷◌, ◌++◌, fold}
use Rattle.wb_signals.specs.Request.{Request}
use Rattle.wb_signals.specs.History.{Pair, Entry, own}
use Rattle.wb_signals.specs.Cycles.{paired}
use Rattle.wb_signals.specs.declared.answer.Answer.{Answer}
use Rattle.wb_signals.specs.declared.answer.Answer.TheVariants.{Ack, Err, Rty}
use Rattle.soc_core.specs.Sound.{AllBelow}
use Rattle.wb_signals.specs.declared.port_row.PortRow.{PortRow}
use Rattle.wb_signals.specs.Wave.{WaveRowState}
use Rattle.wb_signals.specs.Rows.{request_in}
use Rattle.soc_wave.specs.Rows.{no_port, port_in, column, last_port, has_passed}
use Rattle.soc_wave.specs.Requests.{put_if, one_if}

-- the answer that stands on a port
abbrev pub answer_by : Bool → Bool → Bool → ℕ → List Answer
answer_by true err rty word = Ack word ∷ []
answer_by false true rty word = Err ∷ []
answer_by false false true word = Rty ∷ []
answer_by false false false word = []

abbrev pub answer_in : PortRow → List Answer
answer_in p = answer_by p.ack p.err p.rty p.read

-- The requests that passed since CYC rose, and the answers.
pub record Exchange : Type 0 where
  pub requests : List Request
  pub answers : List Answer

abbrev pub no_exchange : Exchange
no_exchange = record { requests = []; answers = [] }

abbrev pub exchanged_by : Bool → Exchange → PortRow → Exchange
exchanged_by false x p = no_exchange
exchanged_by true x p = record { requests = x.requests ++ put_if (has_passed p) (request_in p) []; answers = x.answers ++ answer_in p }

abbrev pub with_row : Exchange → PortRow → Exchange
with_row x p = exchanged_by p.cyc x p

abbrev pub exchange : List PortRow → Exchange
exchange ps = fold with_row no_exchange ps

-- The k-th request that passed, with the k-th answer.
abbrev pub pairs_of : Exchange → List Pair
pairs_of x = paired x.requests x.answers

-- whether CYC falls
abbrev pub falls : PortRow → PortRow → Bool
falls old p = old.cyc && not p.cyc

abbrev pub rises : PortRow → PortRow → Bool
rises old p = not old.cyc && p.cyc

-- How often CYC rose and fell in these rows, `old` being the one before them.
abbrev pub rises_from : PortRow → List PortRow → ℕ
rises_from old [] = 0
rises_from old (p ∷ ps) = one_if (rises old p) (rises_from p ps)

abbrev pub falls_from : PortRow → List PortRow → ℕ
falls_from old [] = 0
falls_from old (p ∷ ps) = one_if (falls old p) (falls_from p ps)

abbrev pub is_some_pairs : List Pair → Bool
is_some_pairs [] = false
is_some_pairs (p ∷ pairs) = true

-- The pairs of the cycle that ends on a port in a clock, if one ends there and has a pair.
abbrev pub ended_on : List PortRow → PortRow → List (List Pair)
ended_on before p = let pairs = pairs_of (exchange before) in put_if (falls (last_port before) p && is_some_pairs pairs) pairs []

-- ---- the entries of a wave

abbrev pub all_pairs : List Entry → List (List Pair)
all_pairs [] = []
all_pairs (e ∷ entries) = e.pairs ∷ all_pairs entries

-- The entries of the cycles that end in a clock: of each port those that end on it.
pub record AreEndedIn (ports : ℕ) (before : List WaveRowState) (row : WaveRowState) (entries : List Entry) : Type 0 where
  pub masters : AllBelow ports entries
  pub each : (m : ℕ) → m < ports → all_pairs (own m entries) ≡ ended_on (column m before) (port_in m row)

-- The entries of the cycles that rose and fell in these rows, in the order in which they fell. Those that fell in one clock
-- stand in the order in which they were released, which the rows don't show.
abbrev pub AreEntriesOf : ℕ → List WaveRowState → List WaveRowState → List Entry → Type 0
AreEntriesOf ports before [] entries = entries ≡ []
AreEntriesOf ports before (row ∷ rows) entries =
    (here later : List Entry) × (entries ≡ here ++ later) × AreEndedIn ports before row here × AreEntriesOf ports (before ++ row ∷ []) rows later

-- ---- the history of a wave

abbrev pub entries_with : ℕ → Bool → List (List Pair) → List Entry
entries_with m cut [] = []
entries_with m cut (pairs ∷ more) = record { master = m; cut = cut; pairs = pairs } ∷ entries_with m cut more

-- The entries of the cycles that end in a clock, by port, with the marks of each port's cycles.
abbrev pub ended_in : ℕ → ℕ → (ℕ → ℕ → Bool) → List WaveRowState → WaveRowState → List Entry
ended_in m zero marks before row = []
ended_in m (suc n) marks before row =
    entries_with m (marks m (falls_from no_port (column m before))) (ended_on (column m before) (port_in m row)) ++ ended_in (suc m) n marks before row

abbrev pub history_from : ℕ → (ℕ → ℕ → Bool) → List WaveRowState → List WaveRowState → List Entry
history_from ports marks before [] = []
history_from ports marks before (row ∷ rows) = ended_in 0 ports marks before row ++ history_from ports marks (before ++ row ∷ []) rows

-- The cycles that rose and fell, in the order in which they fell, those of one clock by port.
abbrev pub history : ℕ → (ℕ → ℕ → Bool) → List WaveRowState → List Entry
history ports marks rows = history_from ports marks [] rows
