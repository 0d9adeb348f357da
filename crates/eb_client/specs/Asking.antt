-- What a client asks over a link: it opens a host with all widths of addresses and one of the port, and runs one operation as a
-- cycle of its own.
use Rattle.std.specs.Prelude.{◌≡◌, ◌⊎◌, ℕ, ◌<◌, ◌^◌, List, [], ◌∷◌, Result, Ok, Err, true, false}
use Rattle.std.specs.Bool.{⊤}
use Rattle.eb_base.specs.declared.width.Width.{Width}
use Rattle.eb_base.specs.declared.width.Widths.{Widths}
use Rattle.eb_base.specs.Width.{bit, octets}
use Rattle.eb_base.specs.Field.{octets_of}
use Rattle.eb_io.specs.Reading.{Reading}
use Rattle.eb_io.specs.Writing.{Writing, Wrote}
use Rattle.eb_io.specs.declared.sink.WriteFault.{WriteFault}
use Rattle.eb_io.specs.Text.{line, hex_text}
use Rattle.eb_host.specs.declared.op.HostOp.{HostOp}
use Rattle.eb_host.specs.declared.op.HostAnswer.{HostAnswer}
use Rattle.eb_host.specs.declared.op.HostAnswer.TheVariants.{Done, Error}
use Rattle.eb_host.specs.declared.op.HostFault.{HostFault}
use Rattle.eb_host.specs.declared.op.HostFault.TheVariants as host
use Rattle.eb_host.specs.Exchange.{Duplex}
use Rattle.eb_host.specs.Host.{HostState, RunsCycle, alone}
use Rattle.eb_host.specs.Opening.{Opened, NotOpened}
use Rattle.eb_text.specs.declared.fault.Fault.TheVariants as fault
use Rattle.eb_client.specs.declared.fault.ClientFault.{ClientFault}
use Rattle.eb_client.specs.declared.fault.ClientFault.TheVariants as client

-- the sets of widths that a client asks for: of addresses all, of the port one
abbrev pub client_widths : Width → Widths
client_widths width = record { addresses = 15; ports = bit width }

-- a read of a place, and a write
abbrev pub read_op : ℕ → HostOp
read_op place = record { write = false; adr = place; dat = 0 }

abbrev pub write_op : ℕ → ℕ → HostOp
write_op place value = record { write = true; adr = place; dat = value }

-- A host over the link was opened, and ran one operation as a cycle of its own, with this result.
pub record RanOne (width : Width) (op : HostOp) (old new : Duplex) (result : Result HostAnswer HostFault) : Type 0 where
  pub opened : HostState
  pub left : HostState
  pub opens : Opened (client_widths width) old opened
  pub runs : RunsCycle opened left (op ∷ []) (alone result)
  pub ends : new ≡ left.link

-- What the exchange of one operation did, by its result: where the host could not be opened, that fault is it.
abbrev pub AsksOne : Width → HostOp → Duplex → Duplex → Result HostAnswer HostFault → Type 0
AsksOne width op old new (Ok answer) = RanOne width op old new (Ok answer)
AsksOne width op old new (Err f) = NotOpened (client_widths width) old new f ⊎ RanOne width op old new (Err f)

-- the word of an answer fits in the width
abbrev pub FitsWord : Width → HostAnswer → Type 0
FitsWord width (Done word) = word < 256 ^ octets width
FitsWord width Error = Unit {0}

-- ---- how a command ends by an answer

-- how a command ends by a fault of its host
abbrev pub host_ending : HostFault → ClientFault
host_ending host.LinkRead = client.Common fault.ReadFault
host_ending host.LinkWrite = client.Common fault.WriteFault
host_ending (host.Ended octets) = client.Ended octets
host_ending (host.BadReply place) = client.BadReply place
host_ending (host.NoCommonWidth widths) = client.NoCommonWidth widths
host_ending (host.TooWide adr) = client.TooWide adr
host_ending host.NoMemory = client.Common fault.NoMemory

-- how a command ends that has no more to do after the answer to its access of a place
abbrev pub answer_ending : ℕ → Result HostAnswer HostFault → Result ⊤ ClientFault
answer_ending place (Ok (Done word)) = Ok tt
answer_ending place (Ok Error) = Err (client.BusError place)
answer_ending place (Err f) = Err (host_ending f)

-- how a command ends by a write of its output
abbrev pub output_ending : Result ⊤ WriteFault → Result ⊤ ClientFault
output_ending (Ok done) = Ok tt
output_ending (Err f) = Err (client.Common fault.WriteFault)

-- a word in hexadecimal digits, two an octet of its width, on a line
abbrev pub word_line : Width → ℕ → List ℕ
word_line width word = line (hex_text (octets_of width word))

-- What a command that reads does with the answer: it writes the word, and nothing where there is none.
abbrev pub ShowsAnswer : {O : Type 0} → (O → Writing) → (O → Reading) → Width → ℕ → Result HostAnswer HostFault → O → O → Result ⊤ ClientFault → Type 0
ShowsAnswer writing reading width place (Ok (Done word)) old new result =
    (wrote : Result ⊤ WriteFault) × Wrote writing reading old new (word_line width word) wrote × (result ≡ output_ending wrote)
ShowsAnswer writing reading width place (Ok Error) old new result = (new ≡ old) × (result ≡ answer_ending place (Ok Error))
ShowsAnswer writing reading width place (Err f) old new result = (new ≡ old) × (result ≡ answer_ending place (Err f))
