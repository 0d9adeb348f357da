-- Which result of a client has which status.
use Rattle.std.proofs.Common.{◌≡◌, ℕ, List, [], ◌∷◌, Result, Ok, Err, refl, lit<, ◌==◌, if◌then◌else◌}
use Rattle.std.specs.Prelude.{Contains}
use Rattle.std.specs.Bool.{⊤}
use Rattle.eb_text.specs.Lines.{status_number}
use Rattle.eb_text.specs.declared.fault.Fault.{Fault}
use Rattle.eb_text.specs.declared.fault.Fault.TheVariants as fault
use Rattle.eb_client.specs.declared.fault.WalkWhy.{WalkWhy}
use Rattle.eb_client.specs.declared.fault.ClientFault.{ClientFault}
use Rattle.eb_client.specs.declared.fault.ClientFault.TheVariants as client
use Rattle.eb_client.specs.RanClient.{client_status_for, IsOfPeer}

-- what a status says, by its number
pub data Sort : Type 0 where
  OfDone : Sort
  OfUsage : Sort
  OfRead : Sort
  OfWrite : Sort
  OfDoor : Sort
  OfPeer : Sort
  OfBus : Sort
  OfWalk : Sort
  OfMemory : Sort
  OfNothing : Sort

abbrev pub sort_of : ℕ → Sort
sort_of n =
    if n == 0 then OfDone else
    (if n == 2 then OfUsage else
    (if n == 4 then OfRead else
    (if n == 5 then OfWrite else
    (if n == 8 then OfDoor else
    (if n == 9 then OfPeer else
    (if n == 10 then OfBus else
    (if n == 11 then OfWalk else
    (if n == 13 then OfMemory else OfNothing))))))))

abbrev pub IsOf : Sort → Result ⊤ ClientFault → Type 0
IsOf OfDone r = r ≡ Ok tt
IsOf OfUsage r = r ≡ Err (client.Common fault.Usage)
IsOf OfRead r = r ≡ Err (client.Common fault.ReadFault)
IsOf OfWrite r = r ≡ Err (client.Common fault.WriteFault)
IsOf OfDoor r = r ≡ Err client.Door
IsOf OfPeer r = (f : ClientFault) × IsOfPeer f × (r ≡ Err f)
IsOf OfBus r = (adr : ℕ) × (r ≡ Err (client.BusError adr))
IsOf OfWalk r = (at : ℕ) × (why : WalkWhy) × (r ≡ Err (client.Walk at why))
IsOf OfMemory r = r ≡ Err (client.Common fault.NoMemory)
IsOf OfNothing r = Unit {0}

-- the results that have this status
abbrev pub Has : ℕ → Result ⊤ ClientFault → Type 0
Has n r = IsOf (sort_of n) r

abbrev pub statuses : List ℕ
statuses = 0 ∷ 2 ∷ 4 ∷ 5 ∷ 8 ∷ 9 ∷ 10 ∷ 11 ∷ 13 ∷ []

-- A task over a link may end with this fault: its words are right, it was dialled, and it reads no file.
abbrev pub MayShare : Fault → Type 0
MayShare fault.ReadFault = Unit {0}
MayShare fault.WriteFault = Unit {0}
MayShare fault.NoMemory = Unit {0}
MayShare f = ⊥

abbrev pub MayFail : ClientFault → Type 0
MayFail (client.Common f) = MayShare f
MayFail client.Door = ⊥
MayFail f = Unit {0}

abbrev pub MayEnd : Result ⊤ ClientFault → Type 0
MayEnd (Ok done) = Unit {0}
MayEnd (Err f) = MayFail f

abbrev pub Known : ℕ → Result ⊤ ClientFault → Type 0
Known n r = Has n r × Contains statuses n

known_common : (f : Fault) → MayShare f → Known (status_number f) (Err (client.Common f))
known_common fault.Usage may = absurd may
known_common (fault.Description f) may = absurd may
known_common fault.ReadFault may = (refl, (2, lit< tt, refl))
known_common fault.WriteFault may = (refl, (3, lit< tt, refl))
known_common (fault.Malformed place why) may = absurd may
known_common (fault.Truncated count) may = absurd may
known_common fault.TooLong may = absurd may
known_common fault.NoMemory may = (refl, (8, lit< tt, refl))
known_common (fault.Script number) may = absurd may

pub known : (r : Result ⊤ ClientFault) → MayEnd r → Known (client_status_for r).0 r
known (Ok done) may = (refl, (0, lit< tt, refl))
known (Err (client.Common f)) may = known_common f may
known (Err client.Door) may = absurd may
known (Err (client.Ended octets)) may = ((client.Ended octets, tt, refl), (5, lit< tt, refl))
known (Err (client.BadReply place)) may = ((client.BadReply place, tt, refl), (5, lit< tt, refl))
known (Err (client.NoCommonWidth widths)) may = ((client.NoCommonWidth widths, tt, refl), (5, lit< tt, refl))
known (Err (client.TooWide adr)) may = ((client.TooWide adr, tt, refl), (5, lit< tt, refl))
known (Err (client.BusError adr)) may = ((adr, refl), (6, lit< tt, refl))
known (Err (client.Walk at why)) may = ((at, why, refl), (7, lit< tt, refl))

pub known_usage : Known 2 (Err (client.Common fault.Usage))
known_usage = (refl, (1, lit< tt, refl))

pub known_door : Known 8 (Err client.Door)
known_door = (refl, (4, lit< tt, refl))

-- The fault is none of wrong words.
abbrev pub IsOther : Result ⊤ ClientFault → Type 0
IsOther (Err (client.Common fault.Usage)) = ⊥
IsOther r = Unit {0}

pub peer_other : (f : ClientFault) → IsOfPeer f → IsOther (Err f)
peer_other (client.Common f) of_peer = absurd of_peer
peer_other client.Door of_peer = absurd of_peer
peer_other (client.Ended octets) of_peer = tt
peer_other (client.BadReply place) of_peer = tt
peer_other (client.NoCommonWidth widths) of_peer = tt
peer_other (client.TooWide adr) of_peer = tt
peer_other (client.BusError adr) of_peer = absurd of_peer
peer_other (client.Walk at why) of_peer = absurd of_peer
