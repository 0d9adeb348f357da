-- What the commands of a client do over a link, and with the sink that they show their answers on.
use Rattle.std.specs.Prelude.{◌≡◌, ℕ, ◌<◌, ◌^◌, List, Result}
use Rattle.std.specs.Bool.{⊤}
use Rattle.eb_base.specs.declared.width.Width.{Width}
use Rattle.eb_base.specs.Width.{octets}
use Rattle.eb_io.specs.Reading.{Reading}
use Rattle.eb_io.specs.Writing.{Writing}
use Rattle.sdb_walk.specs.declared.found.Found.{Found}
use Rattle.sdb_walk.specs.declared.fault.WalkFault.{WalkFault}
use Rattle.eb_host.specs.declared.op.HostAnswer.{HostAnswer}
use Rattle.eb_host.specs.declared.op.HostFault.{HostFault}
use Rattle.eb_host.specs.Exchange.{Duplex}
use Rattle.eb_client.specs.declared.fault.ClientFault.{ClientFault}
use Rattle.eb_client.specs.Asking.{AsksOne, ShowsAnswer, answer_ending, read_op, write_op}
use Rattle.eb_client.specs.Listed.{WalksOver, ShowsTree}
use Rattle.eb_client.specs.ClientWords.{ClientTask, LsTask, ReadTask, WriteTask}

module _ {O : Type 0} (writing : O → Writing) (reading : O → Reading) where
  -- A walk found a tree, which was shown, or ended by a fault.
  abbrev pub ListsOver : Duplex → Duplex → O → O → Result ⊤ ClientFault → Type 0
  ListsOver old new before after result =
      (found : Result (List Found) (WalkFault HostFault)) × WalksOver old new found × ShowsTree writing reading found before after result

  -- One read was answered by a word, which was shown, by an error of the bus, or by a fault of the host.
  abbrev pub ReadsOver : ℕ → Width → Duplex → Duplex → O → O → Result ⊤ ClientFault → Type 0
  ReadsOver place width old new before after result =
      (answer : Result HostAnswer HostFault) × AsksOne width (read_op place) old new answer × ShowsAnswer writing reading width place answer before after result

-- One write was acknowledged, or answered by an error of the bus, or by a fault of the host.
abbrev pub WritesOver : ℕ → Width → ℕ → Duplex → Duplex → Result ⊤ ClientFault → Type 0
WritesOver place width value old new result =
    (answer : Result HostAnswer HostFault) × AsksOne width (write_op place value) old new answer × (result ≡ answer_ending place answer)

-- What a task does, by its result. A write shows nothing.
abbrev pub DoesTask : {O : Type 0} → (O → Writing) → (O → Reading) → ClientTask → Duplex → Duplex → O → O → Result ⊤ ClientFault → Type 0
DoesTask writing reading (LsTask address) old new before after result = ListsOver writing reading old new before after result
DoesTask writing reading (ReadTask address place width) old new before after result = ReadsOver writing reading place width old new before after result
DoesTask writing reading (WriteTask address place width value) old new before after result = WritesOver place width value old new result × (after ≡ before)

-- the value that a task writes fits in its width
abbrev pub FitsTask : ClientTask → Type 0
FitsTask (LsTask address) = Unit {0}
FitsTask (ReadTask address place width) = Unit {0}
FitsTask (WriteTask address place width value) = value < 256 ^ octets width
