-- Which result has which status.
use Rattle.std.proofs.Common.{◌≡◌, ◌≢◌, ◌⊎◌, inl, inr, ℕ, List, [], ◌∷◌, Result, Ok, Err, refl, subst, lit<, ◌==◌, if◌then◌else◌}
use Rattle.std.specs.Prelude.{Contains}
use Rattle.eb_codec.specs.declared.item.Why.{Why}
use Rattle.eb_server.specs.declared.ending.Ending.{Ending}
use Rattle.eb_server.specs.declared.ending.Ending.TheVariants as ending
use Rattle.soc_desc.specs.declared.fault.DescFault.{DescFault}
use Rattle.soc_desc.specs.declared.fault.DescFault.TheVariants as desc
use Rattle.eb_text.specs.Lines.{refusal_status}
use Rattle.eb_text.specs.declared.fault.Fault.{Fault}
use Rattle.eb_text.specs.declared.fault.Fault.TheVariants as fault
use Rattle.eb_run.specs.Top.{status_for}

-- what a status says, by its number
pub data Sort : Type 0 where
  SortOk : Sort
  SortUsage : Sort
  SortDescription : Sort
  SortRead : Sort
  SortWrite : Sort
  SortMalformed : Sort
  SortTruncated : Sort
  SortTooLong : Sort
  SortMemory : Sort
  SortScript : Sort
  SortNone : Sort

abbrev pub sort_of : ℕ → Sort
sort_of n =
    if n == 0 then SortOk else
    (if n == 2 then SortUsage else
    (if n == 3 then SortDescription else
    (if n == 4 then SortRead else
    (if n == 5 then SortWrite else
    (if n == 6 then SortMalformed else
    (if n == 7 then SortTruncated else
    (if n == 12 then SortTooLong else
    (if n == 13 then SortMemory else
    (if n == 14 then SortScript else SortNone)))))))))

abbrev pub IsOf : Sort → Result Ending Fault → Type 0
IsOf SortOk r = r ≡ Ok ending.Clean
IsOf SortUsage r = r ≡ Err fault.Usage
IsOf SortDescription r = (f : DescFault) × (r ≡ Err (fault.Description f))
IsOf SortRead r = (r ≡ Err fault.ReadFault) ⊎ (r ≡ Ok ending.ReadFault)
IsOf SortWrite r = r ≡ Err fault.WriteFault
IsOf SortMalformed r = (place : ℕ) × (why : Why) × ((r ≡ Err (fault.Malformed place why)) ⊎ (r ≡ Ok (ending.Malformed place why)))
IsOf SortTruncated r = (count : ℕ) × ((r ≡ Err (fault.Truncated count)) ⊎ (r ≡ Ok (ending.Truncated count)))
IsOf SortTooLong r = (r ≡ Err fault.TooLong) ⊎ (r ≡ Ok ending.TooLong)
IsOf SortMemory r = (r ≡ Err fault.NoMemory) ⊎ (r ≡ Ok ending.NoMemory)
IsOf SortScript r = (number : ℕ) × (r ≡ Err (fault.Script number))
IsOf SortNone r = Unit {0}

-- the results that have this status
abbrev pub Has : ℕ → Result Ending Fault → Type 0
Has n r = IsOf (sort_of n) r

abbrev pub statuses : List ℕ
statuses = 0 ∷ 2 ∷ 3 ∷ 4 ∷ 5 ∷ 6 ∷ 7 ∷ 12 ∷ 13 ∷ 14 ∷ []

-- A command may end with this fault: it finds its words right, and refuses a description for another cause than memory.
abbrev pub MayFail : Fault → Type 0
MayFail fault.Usage = ⊥
MayFail (fault.Description f) = f ≢ desc.NoMemory
MayFail f = Unit {0}

-- A command may come to this: also to an ending in its output, but none by a write that failed.
abbrev pub MayCome : Result Ending Fault → Type 0
MayCome (Ok ending.WriteFault) = ⊥
MayCome (Ok e) = Unit {0}
MayCome (Err f) = MayFail f

refused : (f : DescFault) → f ≢ desc.NoMemory → 3 ≡ refusal_status f
refused desc.NotJson real = refl
refused (desc.Missing p) real = refl
refused (desc.Unknown p) real = refl
refused (desc.Kind p) real = refl
refused (desc.Range p) real = refl
refused (desc.Overlap p q) real = refl
refused (desc.Outside p) real = refl
refused (desc.TooMany p) real = refl
refused (desc.TooDeep p) real = refl
refused (desc.Name p) real = refl
refused desc.NoMemory real = absurd (real refl)

abbrev pub Known : ℕ → Result Ending Fault → Type 0
Known n r = Has n r × Contains statuses n

pub known : (r : Result Ending Fault) → MayCome r → Known (status_for r).0 r
known (Ok ending.Clean) may = (refl, (0, lit< tt, refl))
known (Ok (ending.Truncated count)) may = ((count, inr refl), (6, lit< tt, refl))
known (Ok (ending.Malformed place why)) may = ((place, why, inr refl), (5, lit< tt, refl))
known (Ok ending.ReadFault) may = (inr refl, (3, lit< tt, refl))
known (Ok ending.WriteFault) may = absurd may
known (Ok ending.TooLong) may = (inr refl, (7, lit< tt, refl))
known (Ok ending.NoMemory) may = (inr refl, (8, lit< tt, refl))
known (Err fault.Usage) may = absurd may
known (Err (fault.Description f)) may = subst (λ (n : ℕ). Known n (Err (fault.Description f))) (refused f may) ((f, refl), (2, lit< tt, refl))
known (Err fault.ReadFault) may = (inl refl, (3, lit< tt, refl))
known (Err fault.WriteFault) may = (refl, (4, lit< tt, refl))
known (Err (fault.Malformed place why)) may = ((place, why, inl refl), (5, lit< tt, refl))
known (Err (fault.Truncated count)) may = ((count, inl refl), (6, lit< tt, refl))
known (Err fault.TooLong) may = (inl refl, (7, lit< tt, refl))
known (Err fault.NoMemory) may = (inl refl, (8, lit< tt, refl))
known (Err (fault.Script number)) may = ((number, refl), (9, lit< tt, refl))

pub known_usage : Known 2 (Err fault.Usage)
known_usage = (refl, (1, lit< tt, refl))
