-- One of several masters that share a bus, by what its pass tells.
use Rattle.std.specs.Prelude.{◌≡◌, ◌≢◌, ℕ, ◌<◌, Bool, true, false, List, [], ◌++◌, length, Option, Some, None}
use Rattle.soc_desc.specs.declared.description.Description.{Description}
use Rattle.wb_signals.specs.Request.{Request}
use Rattle.wb_signals.specs.declared.answer.Answer.{Answer}
use Rattle.wb_signals.specs.History.{Pair, Entry, own}
use Rattle.wb_signals.specs.Cycles.{MasterCycles, paired, pairs_added, made_with}
use Rattle.atomic_table.specs.Seated.{TableId}
use Rattle.soc_journal.specs.Growth.{Extends}
use Rattle.soc_turn.specs.Views.{PassView}
use Rattle.soc_core.specs.Fabric.{Fabric}
use Rattle.soc_core.specs.Built.{fabric_of, set_of_cycle}
use Rattle.soc_core.specs.Core.{Stake, stake}
use Rattle.soc_bus.specs.Local.{all_slaves}
use Rattle.soc_bus.specs.View.{BusState}
use Rattle.eb_shared.specs.declared.steps.Stage.{Stage}
use Rattle.eb_shared.specs.declared.steps.Stage.TheVariants as stage
use Rattle.eb_shared.specs.declared.steps.Reached.{Reached}
use Rattle.eb_shared.specs.declared.steps.Reached.TheVariants as reached

-- The stake of a master without a cycle.
abbrev pub no_stake : Stake
no_stake = record { raised = None; opened = []; loaded = [] }

-- The stake of a master that has raised CYC for this set, with these pairs of its open cycle and these loaded operations.
abbrev pub cycle_stake : ℕ → List Pair → List Request → Stake
cycle_stake set pairs ops = record { raised = Some set; opened = pairs; loaded = ops }

-- What it has after a record with these pairs: the last one ends the cycle.
abbrev pub stake_after : ℕ → List Pair → Bool → Stake
stake_after set pairs true = no_stake
stake_after set pairs false = cycle_stake set pairs []

-- The journal after it.
abbrev pub journal_after : ℕ → List Entry → List Pair → Bool → List Entry
journal_after m journal pairs true = made_with m false journal pairs
journal_after m journal pairs false = journal

-- The stake of a master whose record goes on from there.
abbrev pub stake_on : Stage → ℕ → List Pair → List Request → Stake
stake_on stage.Raised set pairs ops = cycle_stake set pairs []
stake_on stage.Loaded set pairs ops = cycle_stake set pairs ops

-- What a turn of a record came to, with these pairs of its cycle and this journal before the record, and what the stake
-- is where it is refused. The stake, the journal and the answers after it are the last three.
abbrev pub CameTo : Reached → ℕ → ℕ → List Request → Bool → List Pair → List Entry → Stake → Stake → List Entry → List Answer → Type 0
CameTo (reached.Goes stage) m set ops last pairs journal refused stake now answers = (stake ≡ stake_on stage set pairs ops) × (now ≡ journal)
CameTo reached.Taken m set ops last pairs journal refused stake now answers =
    (length answers ≡ length ops) × (stake ≡ stake_after set (pairs ++ paired ops answers) last) × (now ≡ journal_after m journal (pairs ++ paired ops answers) last)
CameTo reached.Refused m set ops last pairs journal refused stake now answers = (stake ≡ refused) × (now ≡ journal)

-- This holds, if the record goes on.
abbrev pub IfGoes : Reached → Type 0 → Type 0
IfGoes (reached.Goes stage) holds = holds
IfGoes reached.Taken holds = Unit {0}
IfGoes reached.Refused holds = Unit {0}

-- The set of a cycle, which these operations may go in: the one of its opening record, or all top slaves.
abbrev pub IsSetFor : Fabric → ℕ → List Request → Type 0
IsSetFor f set ops = (ends : Bool) × (set ≡ set_of_cycle f ops ends)

-- ---- what a pass tells

-- the entries that its master has made
abbrev pub made_by : PassView BusState → List Entry
made_by p = own p.number p.last.core.journal

abbrev pub stake_by : PassView BusState → Stake
stake_by p = stake p.last.core p.number

abbrev pub cycles_by : PassView BusState → MasterCycles
cycles_by p = record { made = made_by p; opened = (stake_by p).opened }

-- The same master after turns of its own: the history goes on from what it had seen.
pub record IsSameMaster (old new : PassView BusState) : Type 0 where
  pub turn : new.turn ≡ old.turn
  pub number : new.number ≡ old.number
  pub description : new.last.description ≡ old.last.description
  pub grows : Extends old.last.core.journal new.last.core.journal

-- What a master keeps between two records, who knows whether its cycle is open and which set that raised: it is one of the
-- bus's masters; where its cycle is open, it has raised all top slaves and has nothing loaded; else it has no cycle.
pub record IsBetween (is_open : Bool) (set : ℕ) (p : PassView BusState) : Type 0 where
  pub within : p.number < p.last.description.masters
  pub rest : is_open ≡ false → stake_by p ≡ no_stake
  pub goes_on : is_open ≡ true → stake_by p ≡ cycle_stake set (stake_by p).opened []
  pub some : is_open ≡ true → (stake_by p).opened ≢ []
  pub all : is_open ≡ true → set ≡ all_slaves (fabric_of p.last.description)

-- What a record with these operations made: their answers, and what its cycles then are.
pub record HasRecorded (old new : PassView BusState) (ops : List Request) (answers : List Answer) (last : Bool) : Type 0 where
  pub count : length answers ≡ length ops
  pub cycles : cycles_by new ≡ pairs_added old.number (cycles_by old) (paired ops answers) last

-- After a refusal its entries and its stake are as they were.
pub record IsRefused (old new : PassView BusState) : Type 0 where
  pub made : made_by new ≡ made_by old
  pub stake : stake_by new ≡ stake_by old

-- ---- what a shared master tells, by its pass

abbrev pub number_told : Option (PassView BusState) → ℕ
number_told None = 0
number_told (Some p) = p.number

abbrev pub cycles_told : Option (PassView BusState) → MasterCycles
cycles_told None = record { made = []; opened = [] }
cycles_told (Some p) = cycles_by p

-- What no call of it changes: the turn, and the description of the bus.
pub record Sharing : Type 0 where
  pub turn : TableId
  pub description : Option Description

abbrev pub description_told : Option (PassView BusState) → Option Description
description_told None = None
description_told (Some p) = Some p.last.description
