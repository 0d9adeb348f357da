-- The rows of a wave in one flat room.
use Rattle.std.proofs.Common.{◌≡◌, ℕ, zero, suc, ◌+◌, ◌-◌, ◌*◌, ◌<◌, ◌≤◌, List, [], ◌∷◌, ◌++◌, length, take, drop, get_or, Option, Some, refl, ap, ◌∙◌, arith}
use Rattle.std.specs.Prelude.{slice_get}
use Rattle.std.proofs.lemmas.List.{take-append-le, drop-append-le, take_all, length-drop, length-take-le, drop-drop}
use Rattle.std.proofs.lemmas.Option.{slice_get-get_or}
use Rattle.std.proofs.Math.Nat.{suc-mul, mul-le-mul_right}
use Rattle.wb_signals.specs.declared.port_row.PortRow.{PortRow}
use Rattle.wb_signals.specs.Wave.{WaveRowState}
use Rattle.soc_wave.specs.Rows.{no_row}
use Rattle.soc_wave.specs.Flat.{rows_in, HasParts}

pub length-rows_in : (n p s : ℕ) (ps : List PortRow) (hs : List (Option ℕ)) → length (rows_in n p s ps hs) ≡ n
length-rows_in zero p s ps hs = refl
length-rows_in (suc n) p s ps hs = ap (λ (k : ℕ). suc k) (length-rows_in n p s (drop p ps) (drop s hs))

-- a part lies within the parts
pub part_within : (parts n i length room spare : ℕ) → i < parts → HasParts length room parts spare n → i * n + n ≤ length
part_within parts n i length room spare lt has =
    let up = mul-le-mul_right {m = suc i} {n = parts} n (omega (arith, lt)) in
    let one = suc-mul i n in
    omega (arith, up, one, has.all)

-- a part has all of its items
pub length-part : {A : Type 0} (n i : ℕ) (xs : List A) → i * n + n ≤ length xs → length (take n (drop (i * n) xs)) ≡ n
length-part n i xs lt =
    let some = length-drop (i * n) xs in
    length-take-le n (drop (i * n) xs) (omega (arith, some, lt))

-- ---- one row

drop_more : {A : Type 0} (i p : ℕ) (xs : List A) → drop (i * p) (drop p xs) ≡ drop (suc i * p) xs
drop_more i p xs =
    let e : p + i * p ≡ suc i * p = omega (arith, suc-mul i p) in
    drop-drop (i * p) p xs ∙ ap (λ (k : ℕ). drop k xs) e

abbrev pub row_here : ℕ → ℕ → List PortRow → List (Option ℕ) → WaveRowState
row_here p s ps hs = record { ports = take p ps; holders = take s hs }

get_row : (n p s i : ℕ) (ps : List PortRow) (hs : List (Option ℕ)) → i < n
    → get_or (rows_in n p s ps hs) i no_row ≡ row_here p s (drop (i * p) ps) (drop (i * s) hs)
get_row zero p s i ps hs lt = absurd (omega (arith, lt))
get_row (suc n) p s zero ps hs lt =
    let no_ports : 0 ≡ 0 * p = omega arith in
    let no_holders : 0 ≡ 0 * s = omega arith in
    λ j. row_here p s (drop (no_ports j) ps) (drop (no_holders j) hs)
get_row (suc n) p s (suc i) ps hs lt =
    let ports = drop_more i p ps in
    let holders = drop_more i s hs in
    get_row n p s i (drop p ps) (drop s hs) (omega (arith, lt)) ∙ (λ j. row_here p s (ports j) (holders j))

pub row_in : (n p s i : ℕ) (ps : List PortRow) (hs : List (Option ℕ)) → i < n
    → slice_get (rows_in n p s ps hs) i ≡ Some (row_here p s (drop (i * p) ps) (drop (i * s) hs))
row_in n p s i ps hs lt =
    slice_get-get_or (rows_in n p s ps hs) i no_row (omega (arith, lt, length-rows_in n p s ps hs))
    ∙ ap (λ (r : WaveRowState). Some r) (get_row n p s i ps hs lt)

-- ---- one more row

none_left : {A : Type 0} (xs : List A) → length xs ≡ 0 → xs ≡ []
none_left [] is = refl
none_left (x ∷ xs) is = absurd (omega (arith, is))

first_only : {A : Type 0} (p : ℕ) (xs ys : List A) → length xs ≡ 0 → length ys ≡ p → take p (xs ++ ys) ≡ ys
first_only p xs ys none is = ap (λ l. take p (l ++ ys)) (none_left xs none) ∙ take_all p ys (omega (arith, is))

past_first : (n p k : ℕ) → k ≡ suc n * p → k - p ≡ n * p
past_first n p k is = omega (arith, is, suc-mul n p)

first_within : (n p k : ℕ) → k ≡ suc n * p → p ≤ k
first_within n p k is = omega (arith, is, suc-mul n p)

pub rows-add : (n p s : ℕ) (ps qs : List PortRow) (hs ks : List (Option ℕ)) → length ps ≡ n * p → length hs ≡ n * s → length qs ≡ p → length ks ≡ s
    → rows_in (suc n) p s (ps ++ qs) (hs ++ ks) ≡ rows_in n p s ps hs ++ record { ports = qs; holders = ks } ∷ []
rows-add zero p s ps qs hs ks all_ps all_hs is_p is_s =
    let ports = first_only p ps qs (omega (arith, all_ps)) is_p in
    let holders = first_only s hs ks (omega (arith, all_hs)) is_s in
    λ i. record { ports = ports i; holders = holders i } ∷ []
rows-add (suc n) p s ps qs hs ks all_ps all_hs is_p is_s =
    let fits_p = first_within n p (length ps) all_ps in
    let fits_s = first_within n s (length hs) all_hs in
    let ports = take-append-le p ps qs fits_p in
    let holders = take-append-le s hs ks fits_s in
    let rest_p = drop-append-le p ps qs fits_p in
    let rest_s = drop-append-le s hs ks fits_s in
    let next = rows-add n p s (drop p ps) qs (drop s hs) ks (length-drop p ps ∙ past_first n p (length ps) all_ps)
    (length-drop s hs ∙ past_first n s (length hs) all_hs) is_p is_s in
    (λ i. record { ports = ports i; holders = holders i } ∷ rows_in (suc n) p s (rest_p i) (rest_s i))
    ∙ ap (λ l. row_here p s ps hs ∷ l) next
