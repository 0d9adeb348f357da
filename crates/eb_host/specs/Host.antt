-- What a host keeps, and what its calls do.
use Rattle.std.specs.Prelude.{◌≡◌, ◌⊎◌, ℕ, ◌+◌, ◌^◌, ◌/◌, if◌then◌else◌, nat_lt, List, [], ◌∷◌, length, Result, Ok, Err, Option, Some, None, MatchOption, false}
use Rattle.std.specs.Bool.{⊤}
use Rattle.std.specs.Global.{Vec}
use Rattle.eb_base.specs.declared.width.Width.{Width}
use Rattle.eb_base.specs.Width.{octets}
use Rattle.eb_codec.specs.declared.item.Header.{Header}
use Rattle.eb_codec.specs.declared.item.Record.{Record}
use Rattle.eb_codec.specs.Form.{Form}
use Rattle.eb_host.specs.declared.op.HostOp.{HostOp}
use Rattle.eb_host.specs.declared.op.HostAnswer.{HostAnswer}
use Rattle.eb_host.specs.declared.op.HostFault.{HostFault}
use Rattle.eb_host.specs.declared.op.HostFault.TheVariants as fault
use Rattle.eb_host.specs.Asks.{asks, expects, closing, cycle_records}
use Rattle.eb_host.specs.Answers.{answered, joined}
use Rattle.eb_host.specs.Exchange.{Duplex, Exchanges, capped}

-- A host as contracts see it: what its link tells, the header that it sent, how many octets it read, and the fault that it
-- keeps.
pub record HostState : Type 0 where
  pub link : Duplex
  pub header : Header
  pub read : ℕ
  pub fault : Option HostFault

-- the header of a host, which wants replies
abbrev pub header : Width → Width → Header
header address port = record { no_reply = false; address = address; port = port }

-- the first address that is wider than the address width
abbrev pub too_wide : Header → List HostOp → Option ℕ
too_wide h [] = None
too_wide h (op ∷ ops) = if nat_lt op.adr (256 ^ octets h.address) then too_wide h ops else Some op.adr

-- Octets were sent, and those that are expected came, or there was a fault, which is kept.
abbrev pub Sends : List ℕ → Form → HostState → HostState → List ℕ → Result ⊤ HostFault → Type 0
Sends asked expected old new heard (Ok done) =
    Exchanges old.link new.link asked expected old.read heard (Ok done) × (new ≡ record old { link = new.link; read = capped (old.read + length heard) })
Sends asked expected old new heard (Err f) =
    Exchanges old.link new.link asked expected old.read heard (Err f) × (new ≡ record old { link = new.link; fault = Some f })

-- The call answers this fault, and nothing was sent, read or kept.
abbrev pub Declines : {A : Type 0} → HostState → HostState → Result A HostFault → HostFault → Type 0
Declines old new result f = (result ≡ Err f) × (new ≡ old)

-- These records were sent, and there was a fault, which is kept.
abbrev pub CallFails : List Record → HostState → HostState → HostFault → Type 0
CallFails rs old new f = (heard : List ℕ) × Sends (asks old.header rs) (expects old.header rs) old new heard (Err f)

-- A call that sends these records: its answer is taken from the octets that came; or there was a fault, which is kept.
abbrev pub Calls : {A : Type 0} → List Record → (List ℕ → A) → HostState → HostState → Result A HostFault → Type 0
Calls rs taken old new (Ok a) =
    (heard : List ℕ) × Sends (asks old.header rs) (expects old.header rs) old new heard (Ok tt) × (a ≡ taken heard)
Calls rs taken old new (Err f) = CallFails rs old new f

-- A cycle of operations. A fault that is kept is answered again; else the first address that is too wide is answered; else
-- the records of the cycle are sent.
abbrev pub RunsCycle : HostState → HostState → List HostOp → Result (List HostAnswer) HostFault → Type 0
RunsCycle old new ops result = MatchOption old.fault
    (MatchOption (too_wide old.header ops)
    (Calls (cycle_records old.header ops) (answered old.header ops) old new result)
    (λ adr. Declines old new result (fault.TooWide adr)))
    (λ f. Declines old new result f)

-- Where the cycle would be sent there was no memory for its answers, and nothing was.
pub record LacksMemory (old new : HostState) (ops : List HostOp) (result : Result (List HostAnswer) HostFault) : Type 0 where
  pub none_kept : old.fault ≡ None
  pub narrow : too_wide old.header ops ≡ None
  pub declines : Declines old new result fault.NoMemory

-- A cycle of operations that takes memory for its answers.
abbrev pub CallsCycle : HostState → HostState → List HostOp → Result (List HostAnswer) HostFault → Type 0
CallsCycle old new ops result = RunsCycle old new ops result ⊎ LacksMemory old new ops result

-- the answers of a result
abbrev pub given : Result (Vec HostAnswer) HostFault → Result (List HostAnswer) HostFault
given (Ok answers) = Ok answers.items
given (Err f) = Err f

-- the answer of one operation
abbrev pub alone : Result HostAnswer HostFault → Result (List HostAnswer) HostFault
alone (Ok answer) = Ok (answer ∷ [])
alone (Err f) = Err f

-- the number that the reply to the record that reads the address of the root table carries
abbrev pub root_in : Header → List ℕ → ℕ
root_in h heard = joined h heard 0 (8 / octets h.port)

-- The address of the root table is asked for, where no fault is kept.
abbrev pub ReadsRoot : HostState → HostState → Result ℕ HostFault → Type 0
ReadsRoot old new result = MatchOption old.fault
    (Calls (closing old.header 8 ∷ []) (root_in old.header) old new result)
    (λ f. Declines old new result f)
