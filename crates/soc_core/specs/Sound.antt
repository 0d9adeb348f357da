-- When the core of a bus is sound.
use Rattle.std.specs.Prelude.{◌≡◌, ◌≢◌, ℕ, suc, ◌+◌, ◌<◌, ◌≤◌, Bool, true, false, List, [], ◌∷◌, length, map, slice_index_or, count_by, Some, bit_and}
use Rattle.wb_signals.specs.Content.{Content}
use Rattle.wb_signals.specs.History.{Entry, requests_of, answers_of, contents_after, cycle, IsLegal, after}
use Rattle.wb_signals.specs.Cycles.{AllFitBus}
use Rattle.wb_signals.specs.Slave.{Owed, queue_to}
use Rattle.soc_core.specs.Fabric.{Fabric, AllGoIn, IsIn, held_at}
use Rattle.soc_core.specs.Core.{Phase, Idle, Wants, Holds, Leaves, CorePort, Core, port, performed, answered, awaited}

-- ---- a port

-- Each master of these entries is below n.
abbrev pub AllBelow : ℕ → List Entry → Type 0
AllBelow n [] = Unit {0}
AllBelow n (e ∷ entries) = (e.master < n) × AllBelow n entries

-- Open pairs and loaded operations stand only at a port that holds, and each goes in its set or nowhere.
abbrev pub StandsIn : Fabric → Phase → CorePort → Type 0
StandsIn f Idle p = (p.opened ≡ []) × (p.loaded ≡ [])
StandsIn f (Wants set) p = (p.opened ≡ []) × (p.loaded ≡ [])
StandsIn f (Holds set) p = AllGoIn f set (requests_of p.opened) × AllGoIn f set p.loaded
StandsIn f Leaves p = (p.opened ≡ []) × (p.loaded ≡ [])

-- The dues are at least n and rise strictly.
abbrev pub AreRising : ℕ → List Owed → Type 0
AreRising n [] = Unit {0}
AreRising n (o ∷ owed) = (n ≤ o.due) × AreRising (suc o.due) owed

-- Each is of this place, and its due is at most so much.
abbrev pub AllOwedAt : ℕ → ℕ → List Owed → Type 0
AllOwedAt place most [] = Unit {0}
AllOwedAt place most (o ∷ owed) = (o.place ≡ place) × (o.due ≤ most) × AllOwedAt place most owed

-- A port's queue: no more was sent than was loaded, each operation sent is answered or owed an answer, and what is owed is
-- owed to the operations without answer. These are at most the depth, go to one queue, and have dues that rise strictly,
-- none above its path wait.
pub record IsQueue (f : Fabric) (p : CorePort) : Type 0 where
  pub sent : p.sent ≤ length p.loaded
  pub counted : length p.got + length p.owed ≡ p.sent
  pub places : map (λ o. o.place) p.owed ≡ map (queue_to f.wiring) (awaited p)
  pub most : length p.owed ≤ f.depth
  pub one_place : (place : ℕ) × AllOwedAt place (f.wiring.wait place) p.owed
  pub rising : AreRising 0 p.owed
  pub fit : AllFitBus f.wiring.bus p.loaded

-- ---- the core

-- Where a port holds a set with the slave of a place: the port's number, the set and the slave.
pub record IsHeld (f : Fabric) (core : Core) (place m set slave : ℕ) : Type 0 where
  pub holds : (port core m).phase ≡ Holds set
  pub stands : f.slave_of place ≡ Some slave
  pub has : IsIn set slave

-- What the journal leaves.
abbrev pub before : Fabric → Core → List Content
before f core = after f.wiring f.built core.journal

-- The journal is legal from the state that was built, and its masters are ports. Held sets are disjoint, and each port stands
-- in its own. A place whose slave a port holds has what the journal and then the port's operations leave, those of its open
-- pairs and those sent; each other place has what the journal leaves. The answers of a port's open cycle, those of its pairs,
-- those got and those owed, are those of the untimed cycle of these operations after the journal. Each port keeps its queue.
pub record IsSoundCore (f : Fabric) (core : Core) : Type 0 where
  pub legal : IsLegal f.wiring f.built core.journal
  pub masters : AllBelow f.ports core.journal
  pub apart : (m n s t : ℕ) → m ≢ n → (port core m).phase ≡ Holds s → (port core n).phase ≡ Holds t → bit_and s t ≡ 0
  pub stand : (m : ℕ) → StandsIn f (port core m).phase (port core m)
  pub held : (place m set slave : ℕ) → IsHeld f core place m set slave
      → held_at core.contents place ≡ held_at (contents_after f.wiring (before f core) (performed (port core m))) place
  pub unheld : (place : ℕ) → ((m set slave : ℕ) → IsHeld f core place m set slave → ⊥)
      → held_at core.contents place ≡ held_at (before f core) place
  pub answers : (m : ℕ) → answered (port core m) ≡ answers_of (cycle f.wiring (before f core) (performed (port core m)))
  pub queues : (m : ℕ) → IsQueue f (port core m)
  pub ports : length core.ports ≡ f.ports
  pub places : length core.contents ≡ length f.built
  pub first : core.first < f.ports

-- ---- room

-- a port whose CYC stands
abbrev pub is_busy_phase : Phase → Bool
is_busy_phase Idle = false
is_busy_phase (Wants set) = true
is_busy_phase (Holds set) = true
is_busy_phase Leaves = false

abbrev pub is_busy : CorePort → Bool
is_busy p = is_busy_phase p.phase

-- What there is room for: entries in the journal, and at each port pairs of its open cycle.
pub record Room : Type 0 where
  pub entries : ℕ
  pub pairs : List ℕ

-- The journal has spare room for one entry per port that wants or holds, and each port has room for its loaded operations.
pub record HasSpare (core : Core) (room : Room) : Type 0 where
  pub entries : count_by is_busy core.ports ≤ room.entries
  pub pairs : (m : ℕ) → length (port core m).loaded ≤ slice_index_or room.pairs m 0
