-- The generated stream: its items, and their octets.
use Rattle.std.specs.Prelude.{ℕ, zero, suc, ◌+◌, ◌*◌, ◌%◌, ◌≤◌, List, [], ◌∷◌, ◌++◌, length, None, false}
use Rattle.eb_base.specs.declared.width.Width.TheVariants.{W32}
use Rattle.eb_base.specs.declared.width.Widths.{Widths}
use Rattle.eb_codec.specs.declared.flags.TheConstants.{BCA, CYC}
use Rattle.eb_codec.specs.declared.item.Header.{Header}
use Rattle.eb_codec.specs.declared.item.Record.{Record}
use Rattle.eb_codec.specs.Form.{zeroed, header_form, record_form}
use Rattle.eb_codec.specs.Stream.{StreamItem, Headed, Recorded, SpellsAll}
use Rattle.eb_load.specs.Draws.{drawn, next, state_after}

-- the header: replies are wanted, addresses and the port have 32 bits
abbrev pub load_header : Header
load_header = record { no_reply = false; address = W32; port = W32 }

-- The draws of a record, in order: a for the write count, b for the base of the writes, c for the read count; two for
-- each value; one for each address to read.

-- how many values the record writes whose draws begin at this state: 1 to 4
abbrev pub write_count : ℕ → ℕ
write_count x = 1 + drawn x % 4

-- the address of its first write: a word with three more behind it in the RAM
abbrev pub write_base : ℕ → ℕ
write_base x = 4 * (drawn (state_after 1 x) % 16380)

-- how many words it reads: 1 to 4
abbrev pub read_count : ℕ → ℕ
read_count x = 1 + drawn (state_after 2 x) % 4

-- n values, each of two draws: its high half, then its low half
abbrev pub values_from : ℕ → ℕ → List ℕ
values_from zero x = []
values_from (suc n) x = (drawn x * 65536 + drawn (next x)) ∷ values_from n (next (next x))

-- n addresses of words of the RAM, each of one draw
abbrev pub addresses_from : ℕ → ℕ → List ℕ
addresses_from zero x = []
addresses_from (suc n) x = (4 * (drawn x % 16384)) ∷ addresses_from n (next x)

-- the state behind a record's values, and that behind all its draws
abbrev pub after_values : ℕ → ℕ
after_values x = state_after (2 * write_count x) (state_after 3 x)

unfoldable pub after_record : ℕ → ℕ
after_record x = state_after (read_count x) (after_values x)

-- The record whose draws begin at this state. Its flags are BCA and CYC: the reply's base is in configuration space, and
-- each record is a bus cycle by itself. All four octets of the port are enabled.
unfoldable pub load_record : ℕ → Record
load_record x = record {
  head = record { flags = BCA + CYC; enable = 0x0F; writes = write_count x; reads = read_count x };
  write_base = write_base x;
  values = values_from (write_count x) (state_after 3 x);
  return_base = 0;
  addresses = addresses_from (read_count x) (after_values x);
}

-- its octets, with zeros for padding
unfoldable pub load_record_octets : ℕ → List ℕ
load_record_octets x = zeroed (record_form load_header (load_record x))

-- n records
abbrev pub record_items : ℕ → ℕ → List StreamItem
record_items zero x = []
record_items (suc n) x = Recorded (load_record x) ∷ record_items n (after_record x)

abbrev pub octets_of_records : ℕ → ℕ → List ℕ
octets_of_records zero x = []
octets_of_records (suc n) x = load_record_octets x ++ octets_of_records n (after_record x)

-- the stream of so many records whose draws begin at this state
abbrev pub load_items : ℕ → ℕ → List StreamItem
load_items start n = Headed load_header ∷ record_items n start

abbrev pub load_octets : ℕ → ℕ → List ℕ
load_octets start n = zeroed (header_form load_header) ++ octets_of_records n start

-- what a slave on a bus of 32 bits has: all widths of addresses, ports up to 32 bits
abbrev pub slave_widths : Widths
slave_widths = record { addresses = 15; ports = 7 }

-- The octets are the spelling of the items.
abbrev pub SpellsLoad : Type 0
SpellsLoad = (start n : ℕ) → SpellsAll slave_widths None (load_items start n) (load_octets start n)

-- A record has at most 44 octets, the header 4.
abbrev pub IsShort : Type 0
IsShort = (start n : ℕ) → length (load_octets start n) ≤ 4 + 44 * n
