-- What the octets of a whole item say: the decoder's accessors read it so.
use Rattle.std.specs.Prelude.{ℕ, zero, suc, ◌+◌, ◌-◌, ◌*◌, ◌/◌, ◌%◌, ◌==◌, if◌then◌else◌, List, [], ◌∷◌, drop, slice_index, Option, Some, None}
use Rattle.eb_base.specs.declared.width.Width.{Width}
use Rattle.eb_base.specs.declared.width.Width.TheVariants.{W8, W16, W32, W64}
use Rattle.eb_base.specs.Width.{octets}
use Rattle.eb_base.specs.Field.{number_at}
use Rattle.eb_codec.specs.declared.flags.TheConstants.{NR, PF}
use Rattle.eb_codec.specs.declared.item.Header.{Header}
use Rattle.eb_codec.specs.declared.item.Probe.{Probe}
use Rattle.eb_codec.specs.declared.item.RecordHead.{RecordHead}
use Rattle.eb_codec.specs.declared.item.Record.{Record}
use Rattle.eb_codec.specs.Rules.{has}
use Rattle.eb_codec.specs.Sizes.{field_octets, unit_octets, gap}
use Rattle.eb_codec.specs.Form.{Fills, record_form, FitsRecord, KeepsRules}
use Rattle.eb_codec.specs.Stream.{StreamItem, Probed, Headed, Recorded}

-- The width of a bit, 8 bits of a number that is no bit.
abbrev pub width_of : ℕ → Width
width_of b = if b == 8 then W64 else (if b == 4 then W32 else (if b == 2 then W16 else W8))

-- the header that the octets are
abbrev pub header_of : List ℕ → Header
header_of o = record { no_reply = has (slice_index o 2) NR; address = width_of (slice_index o 3 / 16); port = width_of (slice_index o 3 % 16) }

-- the probe that the octets are
abbrev pub probe_of : List ℕ → Probe
probe_of o = record { no_reply = has (slice_index o 2) NR; widths = record { addresses = slice_index o 3 / 16; ports = slice_index o 3 % 16 }; id = number_at W32 o 4 }

-- the octets of a base and n numbers
abbrev pub part_octets : Header → ℕ → ℕ
part_octets h zero = 0
part_octets h (suc n) = field_octets h + field_octets h * suc n

-- the octets of a record's parts, without the padding at its end
abbrev pub body_octets : Header → ℕ → ℕ → ℕ
body_octets h w r = unit_octets h + part_octets h w + part_octets h r

-- the octets of a record of so many writes and reads
unfoldable pub record_octets : Header → ℕ → ℕ → ℕ
record_octets h w r = body_octets h w r + gap (unit_octets h) (body_octets h w r)

-- How many octets the item has that begins so: its first four say it.
unfoldable pub size : Option Header → List ℕ → ℕ
size None o = if has (slice_index o 2) PF then 8 else unit_octets (header_of o)
size (Some h) o = record_octets h (slice_index o 2) (slice_index o 3)

-- the number at the end of a field that begins at an octet
abbrev pub number_in : Header → Width → List ℕ → ℕ → ℕ
number_in h w o at = number_at w o (at + (field_octets h - octets w))

-- n numbers in fields one after another
abbrev pub numbers_in : Header → Width → ℕ → List ℕ → List ℕ
numbers_in h w zero o = []
numbers_in h w (suc n) o = number_in h w o 0 ∷ numbers_in h w n (drop (field_octets h) o)

-- the base at the beginning of a part, 0 where there are no numbers
abbrev pub base_in : Header → ℕ → List ℕ → ℕ
base_in h zero o = 0
base_in h (suc n) o = number_in h h.address o 0

-- the numbers behind the base
abbrev pub list_in : Header → Width → ℕ → List ℕ → List ℕ
list_in h w n o = numbers_in h w n (drop (field_octets h) o)

-- the first octets of a record
abbrev pub record_head_of : List ℕ → RecordHead
record_head_of o = record { flags = slice_index o 0; enable = slice_index o 1; writes = slice_index o 2; reads = slice_index o 3 }

-- the record that the octets are
unfoldable pub record_of : Header → List ℕ → Record
record_of h o =
    let w = slice_index o 2 in
    let r = slice_index o 3 in
    let first = drop (unit_octets h) o in
    let second = drop (part_octets h w) first in
    record { head = record_head_of o; write_base = base_in h w first; values = list_in h h.port w first; return_base = base_in h r second; addresses = list_in h h.address r second }

-- the item that the octets are
unfoldable pub item_in : Option Header → List ℕ → StreamItem
item_in None o = if has (slice_index o 2) PF then Probed (probe_of o) else Headed (header_of o)
item_in (Some h) o = Recorded (record_of h o)

-- A record and the header that it stands behind.
pub record RecordBehind : Type 0 where
  pub header : Header
  pub item : Record

-- The octets spell the record that they are read as, and it breaks no rule.
pub record IsRecord (h : Header) (octets : List ℕ) : Type 0 where
  pub fits : FitsRecord h (record_of h octets)
  pub fills : Fills octets (record_form h (record_of h octets))
  pub rules : KeepsRules h (record_of h octets).head
