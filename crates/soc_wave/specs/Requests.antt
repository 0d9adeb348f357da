-- The requests of a port in a wave, and their answers.
use Rattle.std.specs.Prelude.{ℕ, suc, ◌+◌, ◌-◌, ◌==◌, ◌&&◌, ◌||◌, not, nat_le, Bool, true, false, List, [], ◌∷◌, length}
use Rattle.std.specs.List.{list_any}
use Rattle.wb_signals.specs.Request.{Request}
use Rattle.wb_signals.specs.Slave.{queue_to}
use Rattle.soc_core.specs.Fabric.{Fabric}
use Rattle.wb_signals.specs.declared.port_row.PortRow.{PortRow}
use Rattle.wb_signals.specs.Rows.{request_in}
use Rattle.soc_wave.specs.Rows.{has_passed, has_answer}

-- A request that passed, and the clock.
pub record Passed : Type 0 where
  pub clock : ℕ
  pub request : Request

-- x before xs, if the test holds
abbrev pub put_if : {A : Type 0} → Bool → A → List A → List A
put_if true x xs = x ∷ xs
put_if false x xs = xs

-- The requests that passed on a port, t being the clock of the first row.
abbrev pub passed_from : ℕ → List PortRow → List Passed
passed_from t [] = []
passed_from t (p ∷ ps) = put_if (has_passed p) (record { clock = t; request = request_in p }) (passed_from (suc t) ps)

abbrev pub passed_in : List PortRow → List Passed
passed_in ps = passed_from 0 ps

abbrev pub one_if : Bool → ℕ → ℕ
one_if true n = suc n
one_if false n = n

-- How many answers stood.
abbrev pub answers_in : List PortRow → ℕ
answers_in [] = 0
answers_in (p ∷ ps) = one_if (has_answer p) (answers_in ps)

-- How many requests are unanswered after these rows.
abbrev pub waiting_count : List PortRow → ℕ
waiting_count ps = length (passed_in ps) - answers_in ps

-- the queue of the device, or of the miss, to which a request goes
abbrev pub queue_of : Fabric → Request → ℕ
queue_of f r = queue_to f.wiring r

-- The clock in which a request is answered: its own, the path wait, and one more.
abbrev pub answer_clock : Fabric → Passed → ℕ
answer_clock f p = p.clock + 1 + f.wiring.wait (queue_of f p.request)

-- Those that are answered in clock t or later.
abbrev pub from_clock : Fabric → ℕ → List Passed → List Passed
from_clock f t [] = []
from_clock f t (p ∷ ps) = put_if (nat_le t (answer_clock f p)) p (from_clock f t ps)

-- The requests that are unanswered after these rows.
abbrev pub waiting_in : Fabric → List PortRow → List Passed
waiting_in f ps = from_clock f (length ps) (passed_in ps)

abbrev pub goes_elsewhere : Fabric → ℕ → Passed → Bool
goes_elsewhere f place p = not (queue_of f p.request == place)

abbrev pub waits_there : Fabric → ℕ → ℕ → Passed → Bool
waits_there f t place p = (queue_of f p.request == place) && not (answer_clock f p == t)

-- Whether a request for this place is stalled in clock t by these, which are unanswered.
abbrev pub stalled_by : Fabric → ℕ → ℕ → List Passed → Bool
stalled_by f t place ps =
    list_any (goes_elsewhere f place) ps || (f.wiring.stalls place && list_any (waits_there f t place) ps)
