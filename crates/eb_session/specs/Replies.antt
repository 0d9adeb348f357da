-- What a slave replies to the items of a stream.
use Rattle.std.specs.Prelude.{ℕ, ◌+◌, ◌-◌, ◌*◌, ◌==◌, cond, if◌then◌else◌, List, [], ◌∷◌, ◌++◌, length, take, drop, replicate, slice_index, slice_index_or, Option, Some, None}
use Rattle.eb_base.specs.declared.width.Width.{Width}
use Rattle.eb_base.specs.declared.width.Width.TheVariants.{W32}
use Rattle.eb_base.specs.declared.width.Widths.{Widths}
use Rattle.eb_base.specs.Width.{bit}
use Rattle.eb_base.specs.Field.{octets_of}
use Rattle.eb_base.specs.Lanes.{word_of}
use Rattle.eb_codec.specs.declared.flags.TheConstants.{MAGIC, VERSION, NR, PR, BCA, RCA, RFF, CYC, WCA, WFF}
use Rattle.eb_codec.specs.declared.item.Header.{Header}
use Rattle.eb_codec.specs.declared.item.Probe.{Probe}
use Rattle.eb_codec.specs.declared.item.Record.{Record}
use Rattle.eb_codec.specs.Rules.{has}
use Rattle.eb_codec.specs.Sizes.{unit_octets}
use Rattle.eb_codec.specs.Form.{zeroed, record_form}
use Rattle.eb_codec.specs.Stream.{StreamItem, Probed, Headed, Recorded, header_after}
use Rattle.wb_signals.specs.declared.answer.Answer.{Answer}
use Rattle.wb_signals.specs.declared.answer.Answer.TheVariants.{Ack, Err}
use Rattle.eb_session.specs.declared.slave.Slave.{Slave}
use Rattle.eb_session.specs.Operations.{upto, bus_writes}
use Rattle.eb_session.specs.Cycles.{item_ops}
use Rattle.eb_session.specs.Configuration.{register, config_word}

-- The widths that a slave on a bus of this width has: all widths of addresses, and each width of a port up to the bus.
abbrev pub sets_of : Width → Widths
sets_of bus = record { addresses = 15; ports = 2 * bit bus - 1 }

-- The word of an answer, 0 for ERR and RTY.
abbrev pub answer_word : Width → Width → ℕ → ℕ → Answer → ℕ
answer_word port bus adr sel (Ack dat) = word_of port bus adr dat sel
answer_word port bus adr sel answer = 0

-- Word i of the reply to a record, whose operations were given these answers, `errors` being the register after them. A
-- read of the configuration space (RCA) is no operation.
abbrev pub read_word : Slave → Header → Record → List Answer → ℕ → ℕ → ℕ
read_word s h r answers errors i =
    if has r.head.flags RCA
    then config_word h.port s.root errors (slice_index r.addresses i) r.head.enable
    else answer_word h.port s.bus (slice_index r.addresses i) r.head.enable (slice_index_or answers (bus_writes r + i) Err)

-- The flags of the reply: WCA where BCA was set, WFF where RFF was set, and CYC as it was.
abbrev pub reply_flags : ℕ → ℕ
reply_flags flags = cond (has flags BCA) WCA 0 + cond (has flags RFF) WFF 0 + cond (has flags CYC) CYC 0

-- The record that answers a record with these words: it writes them to the base return address.
abbrev pub answering : Record → List ℕ → Record
answering r words = record {
  head = record { flags = reply_flags r.head.flags; enable = r.head.enable; writes = r.head.reads; reads = 0 };
  write_base = r.return_base;
  values = words;
  return_base = 0;
  addresses = [];
}

-- A record without reads is not answered. Padding is zero.
abbrev pub record_reply : Slave → Header → Record → List Answer → ℕ → List ℕ
record_reply s h r answers errors =
    if r.head.reads == 0 then [] else zeroed (record_form h (answering r (upto r.head.reads (read_word s h r answers errors))))

-- A probe is answered with the slave's widths and the probe's id.
abbrev pub probe_reply : Slave → Probe → List ℕ
probe_reply s p = MAGIC ++ (VERSION + NR + PR) ∷ (16 * (sets_of s.bus).addresses + (sets_of s.bus).ports) ∷ octets_of W32 p.id

-- A header is answered with its own widths, unless it asks for no reply. Padding is zero.
abbrev pub header_reply : Header → List ℕ
header_reply h = if h.no_reply then [] else (MAGIC ++ (VERSION + NR) ∷ (16 * bit h.address + bit h.port) ∷ replicate (unit_octets h - 4) 0)

-- The reply to an item whose operations were given these answers, `errors` being the register before them.
abbrev pub item_reply : Slave → Option Header → StreamItem → List Answer → ℕ → List ℕ
item_reply s (Some h) (Recorded r) answers errors = record_reply s h r answers (register errors answers)
item_reply s None (Recorded r) answers errors = []
item_reply s header (Probed p) answers errors = probe_reply s p
item_reply s header (Headed h) answers errors = header_reply h

-- The replies to items joined, each item taking its own answers off the front of the list.
abbrev pub replies_from : Slave → Option Header → ℕ → List StreamItem → List Answer → List ℕ
replies_from s header errors [] answers = []
replies_from s header errors (x ∷ xs) answers =
    let n : ℕ = length (item_ops s.bus header x) in
    item_reply s header x (take n answers) errors
    ++ replies_from s (header_after header x) (register errors (take n answers)) xs (drop n answers)

-- The replies to a stream's items, whose operations were given these answers in order. The register is 0 at the start.
abbrev pub replies : Slave → List StreamItem → List Answer → List ℕ
replies s items answers = replies_from s None 0 items answers
