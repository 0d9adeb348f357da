-- The lines that masters haven't done, by places.
use Rattle.std.proofs.Common.{◌≡◌, ◌≢◌, ℕ, zero, suc, ◌+◌, ◌<◌, ◌≤◌, ◌==◌, true, false, List, [], ◌∷◌, ◌++◌, length, drop, refl, sym, ap, ◌∙◌, subst, arith}
use Rattle.std.specs.Prelude.{slice_index_or, slice_set, Option, Some, None, is_none, MatchOption}
use Rattle.std.proofs.lemmas.List.{drop_more, get_or_default, set-get_or}
use Rattle.std.proofs.Math.ListN.{drop_of_length-le}
use Rattle.soc_script.specs.Script.{ScriptLine}
use Rattle.soc_script.specs.Cycles.{own_lines, put_if}
use Rattle.soc_wave.proofs.PortRows.{true_false, false_true}
use Rattle.soc_script_wave.specs.Runner.{todos_from}
use Rattle.soc_script_wave.specs.Work.{after_first}
use Rattle.soc_sim.specs.Todos.{todos_at, BeginsWithOwn, AreOwnPlaces}

-- ---- the lines of one master

-- the first of the lines from a place on
pub drop_here : (script : List ScriptLine) (at : ℕ) (l : ScriptLine) → at < length script → l ≡ slice_index_or script at l → drop at script ≡ l ∷ drop (at + 1) script
drop_here script at l lt is = drop_more script at l lt ∙ ap (λ k. k ∷ drop (at + 1) script) (sym is)

other_master : (a m : ℕ) → a ≢ m → (a == m) ≡ false
other_master a m other = grind arith

same_master : (a m : ℕ) → a ≡ m → (a == m) ≡ true
same_master a m same = grind (arith, same)

pub own_other : (script : List ScriptLine) (m at : ℕ) (l : ScriptLine) → at < length script → l ≡ slice_index_or script at l → l.master ≢ m → own_lines m (drop at script) ≡ own_lines m (drop (at + 1) script)
own_other script m at l lt is other =
    ap (own_lines m) (drop_here script at l lt is) ∙ ap (λ b. put_if b l (own_lines m (drop (at + 1) script))) (other_master l.master m other)

pub own_here : (script : List ScriptLine) (m at : ℕ) (l : ScriptLine) → at < length script → l ≡ slice_index_or script at l → BeginsWithOwn m (drop at script)
    → own_lines m (drop at script) ≡ l ∷ own_lines m (drop (at + 1) script)
own_here script m at l lt is first =
    let here = drop_here script at l lt is in
    let mine : l.master ≡ m = subst (BeginsWithOwn m) here first in
    ap (own_lines m) here ∙ ap (λ b. put_if b l (own_lines m (drop (at + 1) script))) (same_master l.master m mine)

pub begins_here : (script : List ScriptLine) (m at : ℕ) (l : ScriptLine) → at < length script → l ≡ slice_index_or script at l → l.master ≡ m → BeginsWithOwn m (drop at script)
begins_here script m at l lt is mine = subst (BeginsWithOwn m) (sym (drop_here script at l lt is)) mine

pub own_end : (script : List ScriptLine) (m at : ℕ) → length script ≤ at → own_lines m (drop at script) ≡ []
own_end script m at le = ap (own_lines m) (drop_of_length-le script le)

pub begins_end : (script : List ScriptLine) (m at : ℕ) → length script ≤ at → BeginsWithOwn m (drop at script)
begins_end script m at le = subst (BeginsWithOwn m) (sym (drop_of_length-le script le)) tt

-- ---- all masters

pub length-todos_at : (script : List ScriptLine) (m : ℕ) (places : List ℕ) → length (todos_at script m places) ≡ length places
length-todos_at script m [] = refl
length-todos_at script m (at ∷ places) = ap (λ (n : ℕ). suc n) (length-todos_at script (suc m) places)

pub todo_of : (script : List ScriptLine) (m i j : ℕ) (places : List ℕ) (d : ℕ) → j ≡ m + i → i < length places → slice_index_or (todos_at script m places) i [] ≡ own_lines j (drop (slice_index_or places i d) script)
todo_of script m i j [] d is lt = absurd (omega (arith, lt))
todo_of script m zero j (at ∷ places) d is lt = let e : m ≡ j = omega (arith, is) in ap (λ (k : ℕ). own_lines k (drop at script)) e
todo_of script m (suc i) j (at ∷ places) d is lt = todo_of script (suc m) i j places d (omega (arith, is)) (omega (arith, lt))

pub place_of : (script : List ScriptLine) (m i j : ℕ) (places : List ℕ) (d : ℕ) → j ≡ m + i → i < length places → AreOwnPlaces script m places
    → (slice_index_or places i d ≤ length script) × BeginsWithOwn j (drop (slice_index_or places i d) script)
place_of script m i j [] d is lt own = absurd (omega (arith, lt))
place_of script m zero j (at ∷ places) d is lt own = let e : m ≡ j = omega (arith, is) in (own.0, subst (λ (k : ℕ). BeginsWithOwn k (drop at script)) e own.1)
place_of script m (suc i) j (at ∷ places) d is lt own = place_of script (suc m) i j places d (omega (arith, is)) (omega (arith, lt)) own.2

pub todos_set : (script : List ScriptLine) (m i j : ℕ) (places : List ℕ) (at : ℕ) → j ≡ m + i → todos_at script m (slice_set places i at) ≡ slice_set (todos_at script m places) i (own_lines j (drop at script))
todos_set script m i j [] at is = refl
todos_set script m zero j (old ∷ places) at is = let e : m ≡ j = omega (arith, is) in ap (λ (k : ℕ). own_lines k (drop at script) ∷ todos_at script (suc m) places) e
todos_set script m (suc i) j (old ∷ places) at is = ap (λ ls. own_lines m (drop old script) ∷ ls) (todos_set script (suc m) i j places at (omega (arith, is)))

pub places_set : (script : List ScriptLine) (m i j : ℕ) (places : List ℕ) (at : ℕ) → j ≡ m + i → at ≤ length script → BeginsWithOwn j (drop at script) → AreOwnPlaces script m places → AreOwnPlaces script m (slice_set places i at)
places_set script m i j [] at is le first own = tt
places_set script m zero j (old ∷ places) at is le first own = let e : j ≡ m = omega (arith, is) in (le, subst (λ (k : ℕ). BeginsWithOwn k (drop at script)) e first, own.2)
places_set script m (suc i) j (old ∷ places) at is le first own = (own.0, own.1, places_set script (suc m) i j places at (omega (arith, is)) le first own.2)

-- ---- one more master

pub todos_more : (script : List ScriptLine) (m j : ℕ) (places : List ℕ) (at : ℕ) → j ≡ m + length places → todos_at script m (places ++ at ∷ []) ≡ todos_at script m places ++ own_lines j (drop at script) ∷ []
todos_more script m j [] at is = let e : m ≡ j = omega (arith, is) in ap (λ (k : ℕ). own_lines k (drop at script) ∷ []) e
todos_more script m j (old ∷ places) at is = ap (λ ls. own_lines m (drop old script) ∷ ls) (todos_more script (suc m) j places at (omega (arith, is)))

pub places_more : (script : List ScriptLine) (m j : ℕ) (places : List ℕ) (at : ℕ) → j ≡ m + length places → at ≤ length script → BeginsWithOwn j (drop at script) → AreOwnPlaces script m places → AreOwnPlaces script m (places ++ at ∷ [])
places_more script m j [] at is le first own = let e : j ≡ m = omega (arith, is) in (le, subst (λ (k : ℕ). BeginsWithOwn k (drop at script)) e first, tt)
places_more script m j (old ∷ places) at is le first own = (own.0, own.1, places_more script (suc m) j places at (omega (arith, is)) le first own.2)

pub todos_from_more : (script : List ScriptLine) (m n j : ℕ) → j ≡ m + n → todos_from script m (suc n) ≡ todos_from script m n ++ own_lines j script ∷ []
todos_from_more script m zero j is = let e : m ≡ j = omega (arith, is) in ap (λ (k : ℕ). own_lines k script ∷ []) e
todos_from_more script m (suc n) j is = ap (λ ls. own_lines m script ∷ ls) (todos_from_more script (suc m) n j (omega (arith, is)))

-- ---- the next line of a master

module _ (script : List ScriptLine) (places : List ℕ) (todos : List (List ScriptLine)) (seen : todos_at script 0 places ≡ todos) (m at : ℕ) (lt : m < length places) (is : at ≡ slice_index_or places m at) (own : AreOwnPlaces script 0 places) where
  todo_here : slice_index_or todos m [] ≡ own_lines m (drop at script)
  todo_here = ap (λ ls. slice_index_or ls m []) (sym seen) ∙ todo_of script 0 m m places at (omega arith) lt ∙ ap (λ (n : ℕ). own_lines m (drop n script)) (sym is)

  begins : BeginsWithOwn m (drop at script)
  begins = subst (λ (n : ℕ). BeginsWithOwn m (drop n script)) (sym is) (place_of script 0 m m places at (omega arith) lt own).1

  pub line_is : (l : ScriptLine) → at < length script → l ≡ slice_index_or script at l → slice_index_or todos m [] ≡ l ∷ after_first (slice_index_or todos m [])
  line_is l below here =
      let e = todo_here ∙ own_here script m at l below here begins in
      e ∙ ap (λ ls. l ∷ after_first ls) (sym e)

  pub none_is : length script ≤ at → slice_index_or todos m [] ≡ []
  none_is le = todo_here ∙ own_end script m at le

  -- the place behind it
  pub behind_is : (next : ℕ) → at < length script → own_lines m (drop next script) ≡ own_lines m (drop (at + 1) script) → todos_at script 0 (slice_set places m next) ≡ slice_set todos m (after_first (slice_index_or todos m []))
  behind_is next below found =
      let none : ScriptLine = record { master = 0; clock = 0; last = false; ops = [] } in
      let l : ScriptLine = slice_index_or script at none in
      let here = get_or_default script at none l below in
      let rest = ap after_first (todo_here ∙ own_here script m at l below here begins) in
      todos_set script 0 m m places next (omega arith) ∙ ap (λ ls. slice_set ls m (own_lines m (drop next script))) seen ∙ ap (λ ls. slice_set todos m ls) (found ∙ sym rest)

  pub nothing_behind : length script ≤ at → todos ≡ slice_set todos m (after_first (slice_index_or todos m []))
  nothing_behind le =
      let none = none_is le in
      sym (ap (λ ls. slice_set todos m (after_first ls)) none ∙ ap (λ ls. slice_set todos m ls) (sym none) ∙ set-get_or todos m [])

-- ---- whether a master has a next line

pub at_none : {A : Type 0} (P : Type 0) (Q : A → Type 0) (o : Option A) → MatchOption o P Q → is_none o ≡ true → P
at_none P Q None m is = m
at_none P Q (Some x) m is = absurd (false_true is)

pub at_some : {A : Type 0} (P : Type 0) (Q : A → Type 0) (o : Option A) → MatchOption o P Q → is_none o ≡ false → (x : A) × Q x
at_some P Q None m is = absurd (true_false is)
at_some P Q (Some x) m is = (x, m)
