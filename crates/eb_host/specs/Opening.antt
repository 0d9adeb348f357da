-- How a host opens a link: it asks for the widths of the slave, chooses, and sends the header.
use Rattle.std.specs.Prelude.{◌≡◌, ◌⊎◌, ℕ, ◌+◌, ◌-◌, ◌*◌, ◌/◌, ◌%◌, ◌==◌, if◌then◌else◌, bit_and, List, [], ◌∷◌, ◌++◌, slice_index, Result, Ok, Err, Option, Some, None, false}
use Rattle.std.specs.Bool.{⊤}
use Rattle.eb_base.specs.declared.width.Width.{Width}
use Rattle.eb_base.specs.declared.width.Width.TheVariants.{W8, W16, W32, W64}
use Rattle.eb_base.specs.declared.width.Widths.{Widths}
use Rattle.eb_base.specs.Width.{bit}
use Rattle.eb_codec.specs.declared.flags.TheConstants.{MAGIC, VERSION, NR, PR}
use Rattle.eb_codec.specs.declared.item.Header.{Header}
use Rattle.eb_codec.specs.Sizes.{unit_octets}
use Rattle.eb_codec.specs.Form.{Form, fixed, padding, zeroed, probe_form, header_form}
use Rattle.eb_host.specs.declared.op.HostFault.{HostFault}
use Rattle.eb_host.specs.declared.op.HostFault.TheVariants as fault
use Rattle.eb_host.specs.Exchange.{Duplex, Exchanges}
use Rattle.eb_host.specs.Host.{HostState, header}

-- a probe with id 1
abbrev pub probe_asks : Widths → List ℕ
probe_asks widths = zeroed (probe_form (record { no_reply = false; widths = widths; id = 1 }))

-- its answer: version 1 with the flags of an answer, any sets, and the id
abbrev pub probe_expects : Form
probe_expects = fixed (MAGIC ++ (VERSION + NR + PR) ∷ []) ++ padding 1 ++ fixed (0 ∷ 0 ∷ 0 ∷ 1 ∷ [])

-- the sets in it
abbrev pub sets_in : List ℕ → Widths
sets_in heard = record { addresses = slice_index heard 3 / 16; ports = slice_index heard 3 % 16 }

-- the greatest width of a set
abbrev pub greatest : ℕ → Option Width
greatest set =
    if bit_and set 8 == 0 then (if bit_and set 4 == 0 then (if bit_and set 2 == 0 then (if bit_and set 1 == 0 then None else Some W8) else Some W16) else Some W32) else Some W64

-- the greatest width that two sets have in common
abbrev pub common : ℕ → ℕ → Option Width
common ours theirs = greatest (bit_and ours theirs)

-- the header's answer: version 1 with the flag of an answer, and the same widths
abbrev pub header_expects : Header → Form
header_expects h = fixed (MAGIC ++ (VERSION + NR) ∷ (16 * bit h.address + bit h.port) ∷ []) ++ padding (unit_octets h - 4)

-- What the exchange of the probe did: it is the first.
abbrev pub Probes : Widths → Duplex → Duplex → List ℕ → Result ⊤ HostFault → Type 0
Probes widths old new heard result = Exchanges old new (probe_asks widths) probe_expects 0 heard result

-- What the exchange of the header did: 8 octets were read before it.
abbrev pub Heads : Header → Duplex → Duplex → List ℕ → Result ⊤ HostFault → Type 0
Heads h old new heard result = Exchanges old new (zeroed (header_form h)) (header_expects h) 8 heard result

-- The probe was answered, and the header has the greatest widths that its sets and the slave's have in common.
pub record Chooses (widths : Widths) (old new : Duplex) (h : Header) : Type 0 where
  pub heard : List ℕ
  pub probed : Probes widths old new heard (Ok tt)
  pub address : common widths.addresses (sets_in heard).addresses ≡ Some h.address
  pub port : common widths.ports (sets_in heard).ports ≡ Some h.port
  pub replied : h.no_reply ≡ false

-- The probe was answered, and then the header.
pub record Shaken (widths : Widths) (old new : Duplex) (h : Header) : Type 0 where
  pub mid : Duplex
  pub heard : List ℕ
  pub chosen : Chooses widths old mid h
  pub headed : Heads h mid new heard (Ok tt)

-- The probe was answered, with a set that has no width in common, and nothing else was sent.
pub record NoneCommon (widths : Widths) (old new : Duplex) (f : HostFault) : Type 0 where
  pub heard : List ℕ
  pub probed : Probes widths old new heard (Ok tt)
  pub none : (common widths.addresses (sets_in heard).addresses ≡ None) ⊎ (common widths.ports (sets_in heard).ports ≡ None)
  pub is : f ≡ fault.NoCommonWidth (sets_in heard)

-- The probe was answered, and the exchange of the header has a fault.
pub record HeaderFails (widths : Widths) (old new : Duplex) (f : HostFault) : Type 0 where
  pub header_is : Header
  pub mid : Duplex
  pub heard : List ℕ
  pub chosen : Chooses widths old mid header_is
  pub headed : Heads header_is mid new heard (Err f)

-- The exchange of the probe has a fault, or no width is in common, or the exchange of the header has a fault.
abbrev pub Fails : Widths → Duplex → Duplex → HostFault → Type 0
Fails widths old new f = ((heard : List ℕ) × Probes widths old new heard (Err f)) ⊎ (NoneCommon widths old new f ⊎ HeaderFails widths old new f)

-- the host of a link that was opened: it read both answers, and keeps no fault
abbrev pub Opened : Widths → Duplex → HostState → Type 0
Opened widths old new =
    Shaken widths old new.link new.header × (new.header ≡ header new.header.address new.header.port) × (new.read ≡ 8 + unit_octets new.header) × (new.fault ≡ None)

-- a link that was not opened; for want of memory nothing was sent
abbrev pub NotOpened : Widths → Duplex → Duplex → HostFault → Type 0
NotOpened widths old new f = ((f ≡ fault.NoMemory) × (new ≡ old)) ⊎ Fails widths old new f
