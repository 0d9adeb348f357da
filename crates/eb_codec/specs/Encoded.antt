-- What the encoders append is read again.
use Rattle.std.specs.Prelude.{◌≡◌, ℕ, List, [], ◌++◌, length, Option, Some, None, Result, Ok, true}
use Rattle.eb_base.specs.declared.width.Widths.{Widths}
use Rattle.eb_base.specs.Width.{bit}
use Rattle.eb_codec.specs.declared.item.Header.{Header}
use Rattle.eb_codec.specs.declared.item.Probe.{Probe}
use Rattle.eb_codec.specs.declared.item.Record.{Record}
use Rattle.eb_codec.specs.declared.event.Step.{Step}
use Rattle.eb_codec.specs.declared.event.Malformed.{Malformed}
use Rattle.eb_codec.specs.Rules.{has}
use Rattle.eb_codec.specs.Form.{zeroed, KeepsRules, probe_form, header_form, record_form, FitsProbe, FitsRecord}
use Rattle.eb_codec.specs.Stream.{StreamItem, Probed, Headed, Recorded, Spells}
use Rattle.eb_codec.specs.Decoding.{DecoderState, told, Feeds, after_item}

-- An encoded record spells the record behind its header.
abbrev pub EncodedSpells : Type 0
EncodedSpells = (sets : Widths) (h : Header) (r : Record) → FitsRecord h r → KeepsRules h r.head → Spells sets (Some h) (Recorded r) (zeroed (record_form h r))

-- An encoded header spells the header, for every slave that has its widths.
abbrev pub EncodedHeaderSpells : Type 0
EncodedHeaderSpells = (sets : Widths) (h : Header) → has (bit h.address) sets.addresses ≡ true → has (bit h.port) sets.ports ≡ true → Spells sets None (Headed h) (zeroed (header_form h))

-- An encoded probe spells the probe, for every slave that has a width of each of its sets.
abbrev pub EncodedProbeSpells : Type 0
EncodedProbeSpells = (sets : Widths) (p : Probe) → FitsProbe p → has p.widths.addresses sets.addresses ≡ true → has p.widths.ports sets.ports ≡ true → Spells sets None (Probed p) (zeroed (probe_form p))

-- The decoder waits for the first octet of an item, behind this header or before any.
pub record Awaits (p : DecoderState) (header : Option Header) : Type 0 where
  pub header_is : p.header ≡ header
  pub nothing : p.pending ≡ []
  pub no_fault : p.fault ≡ None

-- The call took these octets and no more, and gave this item.
abbrev pub GivesOnly : DecoderState → StreamItem → List ℕ → Result Step Malformed → DecoderState → Type 0
GivesOnly old x octets answer new = (answer ≡ Ok (record { taken = length octets; item = told x })) × (new ≡ after_item old x octets)

-- An encoded record is decoded again behind its header, whatever follows it.
abbrev pub DecodesRecord : Type 0
DecodesRecord = (old new : DecoderState) (h : Header) (r : Record) (rest : List ℕ) (answer : Result Step Malformed) → Awaits old (Some h) → FitsRecord h r → KeepsRules h r.head
    → Feeds old (zeroed (record_form h r) ++ rest) answer new → GivesOnly old (Recorded r) (zeroed (record_form h r)) answer new

-- An encoded header is decoded again where none came before and the slave has its widths, whatever follows it.
abbrev pub DecodesHeader : Type 0
DecodesHeader = (old new : DecoderState) (h : Header) (rest : List ℕ) (answer : Result Step Malformed) → Awaits old None → has (bit h.address) old.sets.addresses ≡ true → has (bit h.port) old.sets.ports ≡ true
    → Feeds old (zeroed (header_form h) ++ rest) answer new → GivesOnly old (Headed h) (zeroed (header_form h)) answer new

-- An encoded probe is decoded again where no header came before and the slave has widths of its sets, whatever follows it.
abbrev pub DecodesProbe : Type 0
DecodesProbe = (old new : DecoderState) (p : Probe) (rest : List ℕ) (answer : Result Step Malformed) → Awaits old None → FitsProbe p → has p.widths.addresses old.sets.addresses ≡ true → has p.widths.ports old.sets.ports ≡ true
    → Feeds old (zeroed (probe_form p) ++ rest) answer new → GivesOnly old (Probed p) (zeroed (probe_form p)) answer new
