-- What a host asks of a slave, and what the slave replies to it.
use Rattle.std.specs.Prelude.{◌≡◌, ℕ, ◌^◌, ◌<◌, ◌≤◌, if◌then◌else◌, false, List, [], ◌∷◌, ◌++◌, length, map, All, Some, None}
use Rattle.eb_base.specs.declared.width.Width.{Width}
use Rattle.eb_base.specs.declared.width.Widths.{Widths}
use Rattle.eb_base.specs.Width.{AreSets}
use Rattle.eb_base.specs.Lanes.{word_of}
use Rattle.eb_codec.specs.declared.item.Header.{Header}
use Rattle.eb_codec.specs.declared.item.Probe.{Probe}
use Rattle.eb_codec.specs.Form.{Fills, zeroed, header_form}
use Rattle.eb_codec.specs.Stream.{StreamItem, Probed, Headed, Recorded, Spells, SpellsAll}
use Rattle.wb_signals.specs.Request.{Request, placed}
use Rattle.wb_signals.specs.declared.answer.Answer.{Answer}
use Rattle.wb_signals.specs.declared.answer.Answer.TheVariants.{Ack, Err, Rty}
use Rattle.wb_signals.specs.History.{Group, group}
use Rattle.eb_session.specs.declared.slave.Slave.{Slave}
use Rattle.eb_session.specs.Cycles.{cycles_from}
use Rattle.eb_session.specs.Replies.{sets_of, probe_reply, header_reply, replies_from}
use Rattle.eb_host.specs.declared.op.HostOp.{HostOp}
use Rattle.eb_host.specs.declared.op.HostAnswer.{HostAnswer}
use Rattle.eb_host.specs.declared.op.HostAnswer.TheVariants.{Done, Error}
use Rattle.eb_host.specs.Asks.{FitsOp, lanes, cycle_records, closing, asks, expects}
use Rattle.eb_host.specs.Answers.{answered}
use Rattle.eb_host.specs.Opening.{probe_asks, probe_expects, sets_in, common, header_expects}
use Rattle.eb_host.specs.Host.{root_in}

-- an operation of a host on the slave's bus
abbrev pub request_of : Header → Width → HostOp → Request
request_of h bus op = placed h.port bus op.write op.adr (if op.write then op.dat else 0) (lanes h)

-- the bus's answer as the host takes it: the word of a read, 0 for a write
abbrev pub host_answer : Header → Width → HostOp → Answer → HostAnswer
host_answer h bus op (Ack dat) = Done (if op.write then 0 else word_of h.port bus op.adr dat (lanes h))
host_answer h bus op Err = Error
host_answer h bus op Rty = Error

abbrev pub host_answers : Header → Width → List HostOp → List Answer → List HostAnswer
host_answers h bus [] answers = []
host_answers h bus (op ∷ ops) [] = []
host_answers h bus (op ∷ ops) (a ∷ answers) = host_answer h bus op a ∷ host_answers h bus ops answers

-- the items of a cycle
abbrev pub cycle_items : Header → List HostOp → List StreamItem
cycle_items h ops = map Recorded (cycle_records h ops)

-- The octets that the host sends for a cycle spell its items, for every slave.
abbrev pub AsksSpell : Type 0
AsksSpell = (sets : Widths) (h : Header) (ops : List HostOp) → h.no_reply ≡ false → All (FitsOp h) ops → SpellsAll sets (Some h) (cycle_items h ops) (asks h (cycle_records h ops))

-- Behind these cycles the operations of a cycle's items are one cycle more, and nothing is open after it.
abbrev pub AsksMeet : Type 0
AsksMeet = (h : Header) (bus : Width) (before : List Group) (ops : List HostOp) → All (FitsOp h) ops
    → cycles_from bus (Some h) (record { whole = before; opened = [] }) (cycle_items h ops) ≡ record { whole = before ++ group false (map (request_of h bus) ops); opened = [] }

-- Where the bus gave these answers to them, the replies are expected, and the host's answers are those of the bus.
abbrev pub RepliesMeet : Type 0
RepliesMeet = (h : Header) (s : Slave) (ops : List HostOp) (answers : List Answer) (errors : ℕ) → h.no_reply ≡ false → All (FitsOp h) ops → length ops ≤ 64
    → length answers ≡ length ops → errors < 2 ^ 64
    → let replies = replies_from s (Some h) errors (cycle_items h ops) answers in
    Fills replies (expects h (cycle_records h ops)) × (answered h ops replies ≡ host_answers h s.bus ops answers)

-- the host's probe
abbrev pub probe_of_host : Widths → Probe
probe_of_host widths = record { no_reply = false; widths = widths; id = 1 }

-- The octets that the host sends to open a link spell its probe and its header, for a slave with these sets.
abbrev pub OpeningSpells : Type 0
OpeningSpells = (sets widths : Widths) (h : Header) → AreSets widths → common widths.addresses sets.addresses ≡ Some h.address → common widths.ports sets.ports ≡ Some h.port
    → Spells sets None (Probed (probe_of_host widths)) (probe_asks widths) × Spells sets None (Headed h) (zeroed (header_form h))

-- The slave's answer to the host's probe is expected, and has the slave's sets.
abbrev pub ProbeMeets : Type 0
ProbeMeets = (s : Slave) (widths : Widths)
    → let reply = probe_reply s (probe_of_host widths) in
    Fills reply probe_expects × (sets_in reply ≡ sets_of s.bus)

-- The slave's answer to the host's header is expected.
abbrev pub HeaderMeets : Type 0
HeaderMeets = (h : Header) → h.no_reply ≡ false → Fills (header_reply h) (header_expects h)

-- The octets that the host sends for the address of the root table spell their record, for every slave.
abbrev pub RootSpells : Type 0
RootSpells = (sets : Widths) (h : Header) → h.no_reply ≡ false → SpellsAll sets (Some h) (Recorded (closing h 8) ∷ []) (asks h (closing h 8 ∷ []))

-- It has no operation of the bus, and nothing is open after it.
abbrev pub RootAsks : Type 0
RootAsks = (h : Header) (bus : Width) (before : List Group)
    → cycles_from bus (Some h) (record { whole = before; opened = [] }) (Recorded (closing h 8) ∷ []) ≡ record { whole = before; opened = [] }

-- The slave's reply to the record that asks for the address of its root table is expected, and has that address.
abbrev pub RootMeets : Type 0
RootMeets = (h : Header) (s : Slave) (errors : ℕ) → s.root < 2 ^ 64
    → let reply = replies_from s (Some h) errors (Recorded (closing h 8) ∷ []) [] in
    Fills reply (expects h (closing h 8 ∷ [])) × (root_in h reply ≡ s.root)
