-- The bus operations of a record.
use Rattle.std.specs.Prelude.{ℕ, zero, suc, ◌+◌, ◌*◌, ◌%◌, ◌^◌, Bool, true, false, if◌then◌else◌, List, [], ◌∷◌, ◌++◌, slice_index}
use Rattle.eb_base.specs.declared.width.Width.{Width}
use Rattle.eb_base.specs.Width.{octets}
use Rattle.eb_codec.specs.declared.flags.TheConstants.{WFF, WCA, RCA, CYC}
use Rattle.eb_codec.specs.declared.item.Header.{Header}
use Rattle.eb_codec.specs.declared.item.Record.{Record}
use Rattle.eb_codec.specs.Rules.{has}
use Rattle.wb_signals.specs.Request.{Request, placed}
use Rattle.wb_signals.specs.declared.answer.Answer.{Answer}

-- What a function gives from 0 up to n.
abbrev pub upto : {A : Type 0} → ℕ → (ℕ → A) → List A
upto zero f = []
upto (suc n) f = upto n f ++ f n ∷ []

-- The address of write i: it rises by the port's octets and wraps at the header's address width. Where the flag says that
-- all writes go to one address (WFF) it is the base.
abbrev pub write_adr : Header → Record → ℕ → ℕ
write_adr h r i = if has r.head.flags WFF then r.write_base else (r.write_base + i * octets h.port) % 256 ^ octets h.address

-- Write i and read i, on a bus of this width. The record's byte enable selects the port's lanes of each.
abbrev pub write_at : Width → Header → Record → ℕ → Request
write_at bus h r i = placed h.port bus true (write_adr h r i) (slice_index r.values i) r.head.enable

abbrev pub read_at : Width → Header → Record → ℕ → Request
read_at bus h r i = placed h.port bus false (slice_index r.addresses i) 0 r.head.enable

-- How many of its writes and reads go to the bus: none of those to configuration space (WCA and RCA).
abbrev pub bus_writes : Record → ℕ
bus_writes r = if has r.head.flags WCA then 0 else r.head.writes

abbrev pub bus_reads : Record → ℕ
bus_reads r = if has r.head.flags RCA then 0 else r.head.reads

-- The writes, then the reads, each in order.
abbrev pub record_ops : Width → Header → Record → List Request
record_ops bus h r = upto (bus_writes r) (write_at bus h r) ++ upto (bus_reads r) (read_at bus h r)

-- The cycle ends after this record (CYC).
abbrev pub ends_cycle : Record → Bool
ends_cycle r = has r.head.flags CYC

-- The answers to these operations, of those that a master tells: none where it was not asked.
abbrev pub answered_to : List Request → List Answer → List Answer
answered_to [] answers = []
answered_to (r ∷ rs) answers = answers
