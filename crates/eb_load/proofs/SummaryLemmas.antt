-- Totals of operations, and of more of them.
use Rattle.std.proofs.Common.{◌≡◌, ℕ, length, length-append, min, ◌+◌, ◌-◌, ◌%◌, ◌^◌, ◌<◌, Bool, true, false, cond, List, [], ◌∷◌, ◌++◌, refl, sym, ap, ◌∙◌, arith}
use Rattle.std.specs.List.{sum_by, count_by}
use Rattle.std.proofs.lemmas.List.Sums.{sum_by-append}
use Rattle.std.proofs.lemmas.List.{append-nil}
use Rattle.std.proofs.lemmas.List.Concat.{flat_map-append}
use Rattle.wb_signals.specs.History.{Pair, Entry}
use Rattle.eb_load.specs.declared.counted.Totals.{Totals}
use Rattle.eb_load.specs.Summary.{capped, is_write, is_read, is_refused, word_in, word_read, operations, totals, joined}

capped-joined : (a b n : ℕ) → n ≡ a + b → capped (capped a + capped b) ≡ capped n
capped-joined a b n is = omega arith

count_joined : (p : Pair → Bool) (a b : List Pair) → capped (capped (count_by p a) + capped (count_by p b)) ≡ capped (count_by p (a ++ b))
count_joined p a b = capped-joined (count_by p a) (count_by p b) (count_by p (a ++ b)) (sum_by-append (λ (x : Pair). cond (p x) 1 0) a b)

sum_joined : (a b n : ℕ) → n ≡ a + b → (a % 2 ^ 64 + b % 2 ^ 64) % 2 ^ 64 ≡ n % 2 ^ 64
sum_joined a b n is = omega arith

pub joined-totals : (a b : List Pair) → joined (totals a) (totals b) ≡ totals (a ++ b)
unfolding totals
joined-totals a b =
    let w = count_joined is_write a b in
    let r = count_joined is_read a b in
    let e = count_joined is_refused a b in
    let s = sum_joined (sum_by word_read a) (sum_by word_read b) (sum_by word_read (a ++ b)) (sum_by-append word_read a b) in
    λ i. record { writes = w i; reads = r i; errors = e i; sum = s i }

pub one_write : (p : Pair) (e : ℕ) → p.request.write ≡ true → e ≡ cond (is_refused p) 1 0 → record { writes = 1; reads = 0; errors = e; sum = 0 } ≡ totals (p ∷ [])
unfolding totals
one_write p e is errs =
    let w : 1 ≡ capped (0 + cond (is_write p) 1 0) = rw is refl in
    let r : 0 ≡ capped (0 + cond (is_read p) 1 0) = rw is refl in
    let f : e ≡ capped (0 + cond (is_refused p) 1 0) = grind arith in
    let s : 0 ≡ (0 + word_read p) % 2 ^ 64 = rw is refl in
    λ i. record { writes = w i; reads = r i; errors = f i; sum = s i }

pub one_read : (p : Pair) (e word : ℕ) → p.request.write ≡ false → e ≡ cond (is_refused p) 1 0 → word ≡ word_in p.answer → word < 2 ^ 64 → record { writes = 0; reads = 1; errors = e; sum = word } ≡ totals (p ∷ [])
unfolding totals
one_read p e word is errs got range =
    let w : 0 ≡ capped (0 + cond (is_write p) 1 0) = rw is refl in
    let r : 1 ≡ capped (0 + cond (is_read p) 1 0) = rw is refl in
    let f : e ≡ capped (0 + cond (is_refused p) 1 0) = grind arith in
    let s : word ≡ (0 + word_read p) % 2 ^ 64 = rw is (omega arith) in
    λ i. record { writes = w i; reads = r i; errors = f i; sum = s i }

-- ---- as they come

-- a pair more in the open cycle
pub pair_added : (opened more : Totals) (pairs : List Pair) (p : Pair) → opened ≡ totals pairs → more ≡ joined opened (totals (p ∷ [])) → more ≡ totals (pairs ++ p ∷ [])
pair_added opened more pairs p so_far both =
    both ∙ ap (λ (t : Totals). joined t (totals (p ∷ []))) so_far ∙ joined-totals pairs (p ∷ [])

operations-more : (entries : List Entry) (e : Entry) → operations (entries ++ e ∷ []) ≡ operations entries ++ e.pairs
operations-more entries e =
    flat_map-append (λ (x : Entry). x.pairs) entries (e ∷ []) ∙ ap (λ (l : List Pair). operations entries ++ l) (append-nil e.pairs)

-- the open cycle ends
pub cycle_added : (all opened more : Totals) (entries : List Entry) (e : Entry) → all ≡ totals (operations entries) → opened ≡ totals e.pairs → more ≡ joined all opened → more ≡ totals (operations (entries ++ e ∷ []))
cycle_added all opened more entries e so_far this both =
    both ∙ ap (λ (t : Totals). joined t opened) so_far ∙ ap (λ (t : Totals). joined (totals (operations entries)) t) this ∙ joined-totals (operations entries) e.pairs
    ∙ sym (ap totals (operations-more entries e))

pub cycle_counted : (cycles more : ℕ) (entries : List Entry) (e : Entry) → cycles ≡ capped (length entries) → more ≡ min (cycles + 1) (2 ^ 64 - 1) → more ≡ capped (length (entries ++ e ∷ []))
cycle_counted cycles more entries e so_far is = omega (arith, so_far, is, length-append entries (e ∷ []))

pub nothing_yet : record { writes = 0; reads = 0; errors = 0; sum = 0 } ≡ totals []
unfolding totals
nothing_yet = refl
