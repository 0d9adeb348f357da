-- Which result of a server has which status.
use Rattle.std.proofs.Common.{◌≡◌, ◌≢◌, ◌⊎◌, inl, inr, ℕ, List, [], ◌∷◌, Option, Some, None, Result, Ok, Err, refl, subst, lit<, ◌==◌, if◌then◌else◌}
use Rattle.std.specs.Prelude.{Contains}
use Rattle.eb_codec.specs.declared.item.Why.{Why}
use Rattle.soc_desc.specs.declared.fault.DescFault.{DescFault}
use Rattle.soc_desc.specs.declared.fault.DescFault.TheVariants as desc
use Rattle.eb_server.specs.declared.ending.Ending.TheVariants as ending
use Rattle.eb_serve.specs.declared.unclean.Unclean.{Unclean}
use Rattle.eb_serve.specs.declared.unclean.Unclean.TheVariants as unclean
use Rattle.eb_text.specs.Lines.{refusal_status, status_number}
use Rattle.eb_text.specs.declared.fault.Fault.{Fault}
use Rattle.eb_text.specs.declared.fault.Fault.TheVariants as fault
use Rattle.eb_serving.specs.declared.fault.ServingFault.{ServingFault}
use Rattle.eb_serving.specs.declared.fault.ServingFault.TheVariants as serving
use Rattle.eb_serving.specs.ServingRuns.{serving_status_for, unclean_status}

-- what a status says, by its number
pub data Sort : Type 0 where
  OfDone : Sort
  OfUsage : Sort
  OfDescription : Sort
  OfRead : Sort
  OfWrite : Sort
  OfMalformed : Sort
  OfTruncated : Sort
  OfDoor : Sort
  OfTooLong : Sort
  OfMemory : Sort
  OfNothing : Sort

abbrev pub sort_of : ℕ → Sort
sort_of n =
    if n == 0 then OfDone else
    (if n == 2 then OfUsage else
    (if n == 3 then OfDescription else
    (if n == 4 then OfRead else
    (if n == 5 then OfWrite else
    (if n == 6 then OfMalformed else
    (if n == 7 then OfTruncated else
    (if n == 8 then OfDoor else
    (if n == 12 then OfTooLong else
    (if n == 13 then OfMemory else OfNothing)))))))))

abbrev pub IsOf : Sort → Result (Option Unclean) ServingFault → Type 0
IsOf OfDone r = r ≡ Ok None
IsOf OfUsage r = r ≡ Err (serving.Common fault.Usage)
IsOf OfDescription r = (f : DescFault) × (r ≡ Err (serving.Common (fault.Description f)))
IsOf OfRead r = (r ≡ Err (serving.Common fault.ReadFault)) ⊎ (r ≡ Ok (Some (unclean.Connection ending.ReadFault)))
IsOf OfWrite r = (r ≡ Err (serving.Common fault.WriteFault)) ⊎ (r ≡ Ok (Some (unclean.Connection ending.WriteFault)))
IsOf OfMalformed r = (place : ℕ) × (why : Why) × (r ≡ Ok (Some (unclean.Connection (ending.Malformed place why))))
IsOf OfTruncated r = (count : ℕ) × (r ≡ Ok (Some (unclean.Connection (ending.Truncated count))))
IsOf OfDoor r = (r ≡ Err serving.Door) ⊎ (r ≡ Ok (Some unclean.Door))
IsOf OfTooLong r = r ≡ Ok (Some (unclean.Connection ending.TooLong))
IsOf OfMemory r = (r ≡ Err (serving.Common fault.NoMemory)) ⊎ (r ≡ Ok (Some (unclean.Connection ending.NoMemory)))
IsOf OfNothing r = Unit {0}

-- the results that have this status
abbrev pub Has : ℕ → Result (Option Unclean) ServingFault → Type 0
Has n r = IsOf (sort_of n) r

abbrev pub statuses : List ℕ
statuses = 0 ∷ 2 ∷ 3 ∷ 4 ∷ 5 ∷ 6 ∷ 7 ∷ 8 ∷ 12 ∷ 13 ∷ []

-- A task may end with this fault: its words are right, there are ports enough, and it refuses a description for another cause than
-- memory.
abbrev pub MayShare : Fault → Type 0
MayShare (fault.Description f) = f ≢ desc.NoMemory
MayShare fault.ReadFault = Unit {0}
MayShare fault.WriteFault = Unit {0}
MayShare fault.NoMemory = Unit {0}
MayShare f = ⊥

-- The output of a task may tell this as the first that didn't end clean.
abbrev pub MayTell : Option Unclean → Type 0
MayTell (Some (unclean.Connection ending.Clean)) = ⊥
MayTell first = Unit {0}

abbrev pub MayCome : Result (Option Unclean) ServingFault → Type 0
MayCome (Ok first) = MayTell first
MayCome (Err (serving.Common f)) = MayShare f
MayCome (Err serving.Door) = Unit {0}

abbrev pub Known : ℕ → Result (Option Unclean) ServingFault → Type 0
Known n r = Has n r × Contains statuses n

refused : (f : DescFault) → f ≢ desc.NoMemory → 3 ≡ refusal_status f
refused desc.NotJson real = refl
refused (desc.Missing p) real = refl
refused (desc.Unknown p) real = refl
refused (desc.Kind p) real = refl
refused (desc.Range p) real = refl
refused (desc.Overlap p q) real = refl
refused (desc.Outside p) real = refl
refused (desc.TooMany p) real = refl
refused (desc.TooDeep p) real = refl
refused (desc.Name p) real = refl
refused desc.NoMemory real = absurd (real refl)

known_common : (f : Fault) → MayShare f → Known (status_number f) (Err (serving.Common f))
known_common fault.Usage may = absurd may
known_common (fault.Description f) may = subst (λ (n : ℕ). Known n (Err (serving.Common (fault.Description f)))) (refused f may) ((f, refl), (2, lit< tt, refl))
known_common fault.ReadFault may = (inl refl, (3, lit< tt, refl))
known_common fault.WriteFault may = (inl refl, (4, lit< tt, refl))
known_common (fault.Malformed place why) may = absurd may
known_common (fault.Truncated count) may = absurd may
known_common fault.TooLong may = absurd may
known_common fault.NoMemory may = (inl refl, (9, lit< tt, refl))
known_common (fault.Script number) may = absurd may

known_first : (first : Option Unclean) → MayTell first → Known (unclean_status first).0 (Ok first)
known_first None may = (refl, (0, lit< tt, refl))
known_first (Some (unclean.Connection ending.Clean)) may = absurd may
known_first (Some (unclean.Connection (ending.Truncated count))) may = ((count, refl), (6, lit< tt, refl))
known_first (Some (unclean.Connection (ending.Malformed place why))) may = ((place, why, refl), (5, lit< tt, refl))
known_first (Some (unclean.Connection ending.ReadFault)) may = (inr refl, (3, lit< tt, refl))
known_first (Some (unclean.Connection ending.WriteFault)) may = (inr refl, (4, lit< tt, refl))
known_first (Some (unclean.Connection ending.TooLong)) may = (refl, (8, lit< tt, refl))
known_first (Some (unclean.Connection ending.NoMemory)) may = (inr refl, (9, lit< tt, refl))
known_first (Some unclean.Door) may = (inr refl, (7, lit< tt, refl))

pub known : (r : Result (Option Unclean) ServingFault) → MayCome r → Known (serving_status_for r).0 r
known (Ok first) may = known_first first may
known (Err (serving.Common f)) may = known_common f may
known (Err serving.Door) may = (inl refl, (7, lit< tt, refl))

pub known_usage : Known 2 (Err (serving.Common fault.Usage))
known_usage = (refl, (1, lit< tt, refl))

-- The result is none of wrong words or ports.
abbrev pub IsOther : Result (Option Unclean) ServingFault → Type 0
IsOther (Err (serving.Common fault.Usage)) = ⊥
IsOther r = Unit {0}
