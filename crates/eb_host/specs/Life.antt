-- What a host sends in its life: the opening, then its calls one after another.
use Rattle.std.specs.Prelude.{◌≡◌, ℕ, List, [], ◌∷◌, ◌++◌, Result, Ok, Err}
use Rattle.eb_base.specs.declared.width.Widths.{Widths}
use Rattle.eb_codec.specs.declared.item.Header.{Header}
use Rattle.eb_codec.specs.Form.{zeroed, header_form}
use Rattle.eb_io.specs.Writing.{told_more}
use Rattle.eb_host.specs.declared.op.HostOp.{HostOp}
use Rattle.eb_host.specs.declared.op.HostAnswer.{HostAnswer}
use Rattle.eb_host.specs.declared.op.HostFault.{HostFault}
use Rattle.eb_host.specs.declared.op.HostFault.TheVariants as fault
use Rattle.eb_host.specs.Asks.{asks, closing, cycle_records}
use Rattle.eb_host.specs.Exchange.{Duplex}
use Rattle.eb_host.specs.Host.{HostState, CallsCycle, ReadsRoot}
use Rattle.eb_host.specs.Opening.{probe_asks, Opened}

-- A call after the opening, with its answer. A read and a write are cycles of one operation, which take no memory.
pub data HostCall : Type 0 where
  CycleCall : List HostOp → Result (List HostAnswer) HostFault → HostCall
  RootCall : Result ℕ HostFault → HostCall

-- The call leads from the one to the other.
abbrev pub Does : HostState → HostCall → HostState → Type 0
Does old (CycleCall ops result) new = CallsCycle old new ops result
Does old (RootCall result) new = ReadsRoot old new result

-- The calls lead from the one to the other.
abbrev pub DoesAll : HostState → List HostCall → HostState → Type 0
DoesAll old [] new = old ≡ new
DoesAll old (c ∷ calls) new = (mid : HostState) × Does old c mid × DoesAll mid calls new

-- what the host asks by a call
abbrev pub asked_by : Header → HostCall → List ℕ
asked_by h (CycleCall ops result) = asks h (cycle_records h ops)
asked_by h (RootCall result) = asks h (closing h 8 ∷ [])

-- How much of it goes out: all of it, or a front of it, and no later call sends anything, or nothing.
pub data Extent : Type 0 where
  WholeCall : Extent
  FrontOfCall : Extent
  NoneOfCall : Extent

abbrev pub extent : {A : Type 0} → Result A HostFault → Extent
extent (Ok a) = WholeCall
extent (Err (fault.TooWide adr)) = NoneOfCall
extent (Err fault.NoMemory) = NoneOfCall
extent (Err _) = FrontOfCall

abbrev pub extent_of : HostCall → Extent
extent_of (CycleCall ops result) = extent result
extent_of (RootCall result) = extent result

-- These octets go out by a call of this extent and those after it.
abbrev pub GoesOutBy : Extent → List ℕ → (List ℕ → Type 0) → List ℕ → Type 0
GoesOutBy WholeCall asked later sent = (rest : List ℕ) × (sent ≡ asked ++ rest) × later rest
GoesOutBy FrontOfCall asked later sent = (back : List ℕ) × (asked ≡ sent ++ back)
GoesOutBy NoneOfCall asked later sent = later sent

-- These octets go out by the calls: what each asks, in order, up to the first with a fault that is kept, and of that one a
-- front. Nothing goes out by a call that answers `TooWide` or `NoMemory`.
abbrev pub GoesOut : Header → List HostCall → List ℕ → Type 0
GoesOut h [] sent = sent ≡ []
GoesOut h (c ∷ calls) sent = GoesOutBy (extent_of c) (asked_by h c) (GoesOut h calls) sent

-- What a host writes to its link from the opening on.
abbrev pub WritesAsks : Type 0
WritesAsks = (widths : Widths) (link : Duplex) (opened new : HostState) (calls : List HostCall) → Opened widths link opened → DoesAll opened calls new
    → (sent : List ℕ) × (new.link.writing.written ≡ told_more link.writing.written (probe_asks widths ++ zeroed (header_form opened.header) ++ sent)) × GoesOut opened.header calls sent
