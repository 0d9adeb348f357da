-- Short records: one write and one read of 32 bits with all lanes, whose flags are at most BCA and CYC.
use Rattle.std.specs.Prelude.{◌≡◌, ℕ, ◌≤◌, ◌<◌, bit_and, false, List, [], ◌∷◌, length, slice_index, Some, None, Ok}
use Rattle.eb_base.specs.declared.width.Width.TheVariants.{W32}
use Rattle.eb_codec.specs.declared.short.TheConstants.{LONG_FLAGS}
use Rattle.eb_codec.specs.declared.item.Header.{Header}
use Rattle.eb_codec.specs.declared.item.Record.{Record}
use Rattle.eb_codec.specs.declared.short.ShortRecord.{ShortRecord}
use Rattle.eb_codec.specs.declared.event.Step.{Step}
use Rattle.eb_codec.specs.declared.event.Item.TheVariants as item
use Rattle.eb_codec.specs.Decoding.{DecoderState, Feeds, Stands}

-- The header behind which a record may be short: addresses and port of 32 bits, and replies are wanted.
abbrev pub short_header : Header
short_header = record { no_reply = false; address = W32; port = W32 }

-- the record
abbrev pub short_record : ShortRecord → Record
short_record s = record {
  head = record { flags = s.flags; enable = 15; writes = 1; reads = 1 };
  write_base = s.write_base;
  values = s.value ∷ [];
  return_base = s.return_base;
  addresses = s.address ∷ [];
}

-- No flag is set but perhaps that the base of the reply is one of configuration space (BCA) and that the cycle ends (CYC).
pub record IsShortFlags (flags : ℕ) : Type 0 where
  pub octet : flags < 256
  pub none : bit_and flags LONG_FLAGS ≡ 0

-- Behind that header the octets begin with a short record.
pub record BeginsShort (octets : List ℕ) : Type 0 where
  pub long : 20 ≤ length octets
  pub flags : IsShortFlags (slice_index octets 0)
  pub enable : slice_index octets 1 ≡ 15
  pub writes : slice_index octets 2 ≡ 1
  pub reads : slice_index octets 3 ≡ 1

-- The next octet of the stream is the first of a record behind that header.
pub record AwaitsShort (decoder : DecoderState) : Type 0 where
  pub header : decoder.header ≡ Some short_header
  pub pending : decoder.pending ≡ []
  pub fault : decoder.fault ≡ None

-- what `feed` tells of it
abbrev pub short_step : ShortRecord → Step
short_step s = record { taken = 20; item = item.Record (short_record s).head }

-- The call did what `feed` does of a piece that begins with this record, which it shows.
pub record TakesShort (old : DecoderState) (piece : List ℕ) (s : ShortRecord) (new : DecoderState) : Type 0 where
  pub fed : Feeds old piece (Ok (short_step s)) new
  pub stands : Stands old new (length piece) (short_step s)
  pub header : new.header ≡ Some short_header
  pub shown : new.shown ≡ Some (short_record s)
  pub flags : IsShortFlags s.flags
