-- The core of a bus with many ports: its state and its events.
use Rattle.std.specs.Prelude.{◌≡◌, ◌≢◌, ℕ, zero, suc, ◌+◌, ◌-◌, ◌*◌, ◌^◌, ◌==◌, ◌<◌, ◌≤◌, nat_lt, Bool, true, false, if◌then◌else◌, List, [], ◌∷◌, ◌++◌, length, map, take, drop, slice_index_or, slice_set, flat_map, option_to_list, Option, Some, None, bit_or}
use Rattle.std.specs.Int.{bit_at}
use Rattle.wb_signals.specs.Request.{Request}
use Rattle.wb_signals.specs.Content.{Content}
use Rattle.wb_signals.specs.Wiring.{Wiring}
use Rattle.wb_signals.specs.History.{Pair, Entry, requests_of, answers_of, contents_after}
use Rattle.wb_signals.specs.Cycles.{paired, made_with, AllFitBus}
use Rattle.wb_signals.specs.declared.answer.Answer.{Answer}
use Rattle.wb_signals.specs.Slave.{Owed, given, owed_after, is_stalled}
use Rattle.wb_crossbar.specs.Grant.{Turn, IsGrant, IsNext}
use Rattle.soc_core.specs.Fabric.{Fabric, AllGoIn}

-- Where a port stands: it asks for nothing, it has raised CYC for a set of slaves, it is granted them, or it has released
-- them since the last tick.
pub data Phase : Type 0 where
  Idle : Phase
  Wants : ℕ → Phase
  Holds : ℕ → Phase
  Leaves : Phase

-- A port: its phase, the pairs of its open cycle, its loaded operations, how many of them were sent, the answers got, and the
-- answers owed to those that were sent and not answered.
pub record CorePort : Type 0 where
  pub phase : Phase
  pub opened : List Pair
  pub loaded : List Request
  pub sent : ℕ
  pub got : List Answer
  pub owed : List Owed

-- A port in this phase, with these pairs, that has nothing loaded.
abbrev pub unloaded : Phase → List Pair → CorePort
unloaded phase opened = record { phase = phase; opened = opened; loaded = []; sent = 0; got = []; owed = [] }

abbrev pub resting_port : CorePort
resting_port = unloaded Idle []

-- The core: its ports, what the places hold, the port that the arbiter looks at first, which is the one after the port
-- granted last, and the journal.
pub record Core : Type 0 where
  pub ports : List CorePort
  pub contents : List Content
  pub first : ℕ
  pub journal : List Entry

abbrev pub port : Core → ℕ → CorePort
port core m = slice_index_or core.ports m resting_port

abbrev pub resting_ports : ℕ → List CorePort
resting_ports zero = []
resting_ports (suc n) = resting_port ∷ resting_ports n

-- As it is built.
abbrev pub built_core : Fabric → Core
built_core f = record { ports = resting_ports f.ports; contents = f.built; first = 0; journal = [] }

-- ---- what a port tells

-- the set that it waits for
abbrev pub wants_of : Phase → Option ℕ
wants_of Idle = None
wants_of (Wants set) = Some set
wants_of (Holds set) = None
wants_of Leaves = None

-- the set that it holds
abbrev pub holds_of : Phase → Option ℕ
holds_of Idle = None
holds_of (Wants set) = None
holds_of (Holds set) = Some set
holds_of Leaves = None

-- the set for which its CYC stands
abbrev pub raised_of : Phase → Option ℕ
raised_of Idle = None
raised_of (Wants set) = Some set
raised_of (Holds set) = Some set
raised_of Leaves = None

-- whether its phase is Idle, and whether it is Holds
abbrev pub is_idle : Phase → Bool
is_idle Idle = true
is_idle (Wants set) = false
is_idle (Holds set) = false
is_idle Leaves = false

abbrev pub is_granted : Phase → Bool
is_granted Idle = false
is_granted (Wants set) = false
is_granted (Holds set) = true
is_granted Leaves = false

-- how many loaded operations have no answer
abbrev pub pending : CorePort → ℕ
pending p = length p.loaded - length p.got

-- the operations of its open cycle that were sent, and their answers: those of its pairs, those got, those owed
abbrev pub performed : CorePort → List Request
performed p = requests_of p.opened ++ take p.sent p.loaded

abbrev pub answers_owed : List Owed → List Answer
answers_owed = map (λ o. o.answer)

abbrev pub answered : CorePort → List Answer
answered p = answers_of p.opened ++ p.got ++ answers_owed p.owed

-- the operations that were sent and have no answer
abbrev pub awaited : CorePort → List Request
awaited p = drop (length p.got) (take p.sent p.loaded)

-- ---- the events of one port: it raises CYC, is loaded, its answers are taken, it releases CYC

abbrev pub with_port : Core → ℕ → CorePort → Core
with_port core m p = record { ports = slice_set core.ports m p; contents = core.contents; first = core.first; journal = core.journal }

-- It waits for a set of slaves.
abbrev pub raised : Core → ℕ → ℕ → Core
raised core m set = with_port core m (unloaded (Wants set) [])

pub record CanRaise (f : Fabric) (core : Core) (m set : ℕ) : Type 0 where
  pub within : m < f.ports
  pub idle : (port core m).phase ≡ Idle
  pub slaves : set < 2 ^ f.slaves

-- It is given operations to send.
abbrev pub with_load : List Request → CorePort → CorePort
with_load ops p = record { phase = p.phase; opened = p.opened; loaded = ops; sent = 0; got = []; owed = [] }

abbrev pub loaded : Core → ℕ → List Request → Core
loaded core m ops = with_port core m (with_load ops (port core m))

pub record CanLoad (f : Fabric) (core : Core) (m : ℕ) (ops : List Request) : Type 0 where
  pub within : m < f.ports
  pub granted : (set : ℕ) × ((port core m).phase ≡ Holds set) × AllGoIn f set ops
  pub nothing : (port core m).loaded ≡ []
  pub some : ops ≢ []
  pub most : length ops ≤ 510
  pub fit : AllFitBus f.wiring.bus ops

-- Its loaded operations, with their answers, go to its open cycle.
abbrev pub with_taken : CorePort → CorePort
with_taken p = unloaded p.phase (p.opened ++ paired p.loaded p.got)

abbrev pub taken : Core → ℕ → Core
taken core m = with_port core m (with_taken (port core m))

pub record CanTake (f : Fabric) (core : Core) (m : ℕ) : Type 0 where
  pub within : m < f.ports
  pub none_pending : pending (port core m) ≡ 0

-- Its cycle ends: with a pair it is an entry of the journal, without one it leaves no trace.
abbrev pub released : Core → ℕ → Bool → Core
released core m cut = record {
  ports = slice_set core.ports m (unloaded Leaves []);
  contents = core.contents;
  first = core.first;
  journal = made_with m cut core.journal (port core m).opened;
}

pub record CanRelease (f : Fabric) (core : Core) (m : ℕ) : Type 0 where
  pub within : m < f.ports
  pub raised : (set : ℕ) × (raised_of (port core m).phase ≡ Some set)
  pub nothing : (port core m).loaded ≡ []

-- ---- the tick, in six steps: (1) a port that was released is idle; (2) the arbiter grants; (3) each port that holds drives its
-- next operation; (4) an operation is stalled or (5) passes, and each top slave ticks once; (6) an answer goes to its port.

-- Steps 1 and 2: a port that was released is idle, and a port that waits and is granted holds its set.
abbrev pub phase_after : Bool → Phase → Phase
phase_after granted Idle = Idle
phase_after granted (Wants set) = if granted then Holds set else Wants set
phase_after granted (Holds set) = Holds set
phase_after granted Leaves = Idle

abbrev pub with_phase : Phase → CorePort → CorePort
with_phase phase p = record { phase = phase; opened = p.opened; loaded = p.loaded; sent = p.sent; got = p.got; owed = p.owed }

-- the ports from the one with number m on, after a grant
abbrev pub granted_from : ℕ → ℕ → List CorePort → List CorePort
granted_from grant m [] = []
granted_from grant m (p ∷ ports) = with_phase (phase_after (bit_at grant m == 1) p.phase) p ∷ granted_from grant (suc m) ports

abbrev pub granted : ℕ → ℕ → Core → Core
granted grant first core = record { ports = granted_from grant 0 core.ports; contents = core.contents; first = first; journal = core.journal }

-- what the arbiter looks at: the ports in turn, the set that each waits for, and all held sets together
abbrev pub turn : Fabric → Core → Turn
turn f core = record { ports = f.ports; first = core.first }

abbrev pub wants : Core → ℕ → Option ℕ
wants core m = wants_of (port core m).phase

abbrev pub held_by : Phase → ℕ
held_by Idle = 0
held_by (Wants set) = 0
held_by (Holds set) = set
held_by Leaves = 0

abbrev pub held : List CorePort → ℕ
held [] = 0
held (p ∷ ports) = bit_or (held_by p.phase) (held ports)

-- Step 3: a port asserts STB with its first operation that wasn't sent, exactly where fewer than the depth are awaited.
abbrev pub head_of : List Request → Option Request
head_of [] = None
head_of (r ∷ rs) = Some r

abbrev pub offered : Fabric → CorePort → Option Request
offered f p = if nat_lt (length p.owed) f.depth then head_of (drop p.sent p.loaded) else None

-- Steps 4 and 5: it passes where it isn't stalled.
abbrev pub unless_stalled : Wiring → List Owed → Option Request → Option Request
unless_stalled wiring owed None = None
unless_stalled wiring owed (Some r) = if is_stalled wiring owed r then None else Some r

abbrev pub sent_now : Fabric → CorePort → Option Request
sent_now f p = unless_stalled f.wiring p.owed (offered f p)

-- Steps 3 to 6 at a port, over what the places hold before them: the request that passes is sent and owed an answer, and the
-- answer whose time has come is got.
abbrev pub clocked : Fabric → List Content → CorePort → CorePort
clocked f contents p = record {
  phase = p.phase;
  opened = p.opened;
  loaded = p.loaded;
  sent = p.sent + length (option_to_list (sent_now f p));
  got = p.got ++ option_to_list (given p.owed);
  owed = owed_after f.wiring contents p.owed (sent_now f p);
}

-- the requests that pass at the ports
abbrev pub all_sent : Fabric → List CorePort → List Request
all_sent f = flat_map (λ p. option_to_list (sent_now f p))

-- Steps 3 to 6 at all ports. Each place ticks once: at most one port has it, so that the requests can be taken in the order
-- of the ports.
abbrev pub clocked_core : Fabric → Core → Core
clocked_core f core = record {
  ports = map (clocked f core.contents) core.ports;
  contents = contents_after f.wiring core.contents (all_sent f core.ports);
  first = core.first;
  journal = core.journal;
}

-- One tick, with the grant of this clock and the port that is looked at first in the next.
pub record IsTick (f : Fabric) (old new : Core) : Type 0 where
  pub grant : ℕ
  pub first : ℕ
  pub is_grant : IsGrant (turn f old) (wants old) (held old.ports) grant
  pub is_next : IsNext (turn f old) grant first
  pub core : new ≡ clocked_core f (granted grant first old)

-- ---- a port's stake

-- What a master relies on while the others act: the set that its port raised, its open pairs, its loaded operations.
pub record Stake : Type 0 where
  pub raised : Option ℕ
  pub opened : List Pair
  pub loaded : List Request

abbrev pub stake_of : CorePort → Stake
stake_of p = record { raised = raised_of p.phase; opened = p.opened; loaded = p.loaded }

abbrev pub stake : Core → ℕ → Stake
stake core m = stake_of (port core m)

-- ---- the bound of a load

-- the ticks until the last owed answer is given
abbrev pub ticks_owed : List Owed → ℕ
ticks_owed [] = 0
ticks_owed (o ∷ []) = o.due + 1
ticks_owed (o ∷ q ∷ os) = ticks_owed (q ∷ os)

-- the ticks after which a port has all answers, at most
abbrev pub ticks_left : Fabric → CorePort → ℕ
ticks_left f p = (f.longest + 2) * (length p.loaded - p.sent) + ticks_owed p.owed
