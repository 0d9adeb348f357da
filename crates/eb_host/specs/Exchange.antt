-- Octets sent over a link, and octets read in reply.
use Rattle.std.specs.Prelude.{◌≡◌, ℕ, ◌+◌, ◌-◌, ◌^◌, ◌<◌, min, List, length, Result, Ok, Err}
use Rattle.std.specs.Bool.{⊤}
use Rattle.std.specs.Io.KnownBytes.{IsAtEnd}
use Rattle.eb_io.specs.Reading.{Reading, Gave, ReadFailed}
use Rattle.eb_io.specs.Writing.{Writing, Took, WroteFront}
use Rattle.eb_codec.specs.Form.{Form, Fills}
use Rattle.eb_host.specs.declared.op.HostFault.{HostFault}
use Rattle.eb_host.specs.declared.op.HostFault.TheVariants as fault
use Rattle.eb_host.specs.Hearing.{HasHeard, IsBad}

-- a number that stays at its last value
abbrev pub capped : ℕ → ℕ
capped n = min n (2 ^ 64 - 1)

-- What a link tells of both directions.
pub record Duplex : Type 0 where
  pub reading : Reading
  pub writing : Writing

abbrev pub duplex : Reading → Writing → Duplex
duplex reading writing = record { reading = reading; writing = writing }

-- What sending these octets and reading those that are expected did, by its answer; so many octets were read before.
--   Ok         all went out, and all that are expected came
--   LinkWrite  a front went out, then a write failed, and nothing was read
--   LinkRead   all went out, then some came that are expected, fewer than all, and a read failed
--   Ended      all went out, then so many came that are expected, fewer than all, and nothing is left
--   BadReply   all went out, and of those that came this is the first that no expected reply has
abbrev pub Exchanges : Duplex → Duplex → List ℕ → Form → ℕ → List ℕ → Result ⊤ HostFault → Type 0
Exchanges old new asked expected read heard (Ok done) = Took old.writing new.writing asked × Gave old.reading new.reading heard × Fills heard expected
Exchanges old new asked expected read heard (Err fault.LinkWrite) = WroteFront old.writing new.writing asked × (new.reading ≡ old.reading)
Exchanges old new asked expected read heard (Err fault.LinkRead) =
    (mid : Reading) × Took old.writing new.writing asked × HasHeard old.reading mid expected heard × (length heard < length expected) × ReadFailed mid new.reading
Exchanges old new asked expected read heard (Err (fault.Ended n)) =
    Took old.writing new.writing asked × HasHeard old.reading new.reading expected heard × (length heard < length expected) × IsAtEnd new.reading.left
    × (n ≡ capped (read + length heard))
Exchanges old new asked expected read heard (Err (fault.BadReply p)) =
    (at : ℕ) × Took old.writing new.writing asked × Gave old.reading new.reading heard × IsBad heard expected at × (p ≡ capped (read + at))
Exchanges old new asked expected read heard (Err _) = ⊥
