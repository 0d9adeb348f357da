-- A clock of a bus at which one child, or its miss, owes answers.
use Rattle.std.specs.Prelude.{◌≡◌, ◌≢◌, ◌<◌, ℕ, Bool, true, false, if◌then◌else◌, nat_lt, List, [], ◌∷◌, length, map, slice_set, Option, Some, None}
use Rattle.eb_base.specs.declared.width.Width.{Width}
use Rattle.wb_signals.specs.Request.{Request}
use Rattle.wb_signals.specs.Bus.{Child, covers, inside, bus}
use Rattle.wb_signals.specs.Slave.{Owed, Slave, owes, is_stalled}
use Rattle.wb_signals.specs.Parts.{Part, child_of, child_at, contents_in, farther_owed, places_before, miss_owed, part_at, part_ticked, AllFitIn}
use Rattle.wb_signals.specs.declared.answer.Answer.{Answer}
use Rattle.wb_signals.specs.declared.answer.Answer.TheVariants.{Err}
use Rattle.wb_signals.specs.declared.debtor.Debtor.{Debtor}
use Rattle.wb_signals.specs.declared.debtor.Debtor.TheVariants.{Nobody, Miss, Top}

-- The answers that are owed, by who owes them.
abbrev pub owed_by : List Part → Debtor → List Owed
owed_by parts Nobody = []
owed_by parts Miss = miss_owed parts ∷ []
owed_by parts (Top k) = map (farther_owed (places_before k parts)) (part_at parts k).slave.owed

-- A bus of this width with these children as a slave.
abbrev pub bus_slave : Width → List Part → Debtor → Slave
bus_slave width parts debtor = record { wiring = bus width (map child_of parts); contents = contents_in parts; owed = owed_by parts debtor }

-- where an operation goes, or the number of children
abbrev pub aim_of : List Child → Option Request → ℕ
aim_of children None = length children
aim_of children (Some r) = child_at children r.adr

-- the child that ticks: where the operation goes, or who owes answers
abbrev pub index_of : ℕ → Debtor → ℕ
index_of n Nobody = n
index_of n Miss = n
index_of n (Top k) = k

abbrev pub goes : ℕ → Debtor → ℕ → Option Request → ℕ
goes n debtor to None = index_of n debtor
goes n debtor to (Some r) = to

-- an operation that a child can take in this clock
abbrev pub CanPass : Part → Option Request → Type 0
CanPass part None = Unit {0}
CanPass part (Some r) =
    (covers (child_of part) r.adr ≡ true) × (part.slave.wiring.accepts (inside (child_of part) r) ≡ true) × (is_stalled part.slave.wiring part.slave.owed (inside (child_of part) r) ≡ false)

-- the answers owed are those of the child that ticks
abbrev pub IsFocus : List Part → Debtor → ℕ → Type 0
IsFocus parts Nobody k = k < length parts → (part_at parts k).slave.owed ≡ []
IsFocus parts Miss k = k ≡ length parts
IsFocus parts (Top j) k = k ≡ j

abbrev pub is_nobody : Debtor → Bool
is_nobody Nobody = true
is_nobody Miss = false
is_nobody (Top k) = false

-- the answer of the miss
abbrev pub missed_answer : Debtor → Option Answer
missed_answer Nobody = None
missed_answer Miss = Some Err
missed_answer (Top k) = None

-- the children after the tick of one of them
abbrev pub parts_after : List Part → ℕ → Option Request → List Part
parts_after parts k op = slice_set parts k (part_ticked (part_at parts k) op)

-- who owes answers then
abbrev pub top_if : Bool → ℕ → Debtor
top_if true k = Top k
top_if false k = Nobody

abbrev pub miss_if : Option Request → Debtor
miss_if None = Nobody
miss_if (Some r) = Miss

abbrev pub debtor_after : List Part → ℕ → Option Request → Debtor
debtor_after parts k op = if nat_lt k (length parts) then top_if (owes (part_at parts k).slave.owed) k else miss_if op

-- A child that is said to owe answers does.
abbrev pub Owes : List Part → Debtor → Type 0
Owes parts debtor = (k : ℕ) → debtor ≡ Top k → (k < length parts) × (owes (part_at parts k).slave.owed ≡ true)

-- Each child fits the bus, and owes answers only where it is said to.
pub record OwesAlone (width : Width) (parts : List Part) (debtor : Debtor) : Type 0 where
  pub fits : AllFitIn width parts
  pub owing : Owes parts debtor
  pub quiet : (k : ℕ) → k < length parts → debtor ≢ Top k → (part_at parts k).slave.owed ≡ []
