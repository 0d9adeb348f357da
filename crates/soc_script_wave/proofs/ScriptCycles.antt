-- The cycles of a script.
use Rattle.std.proofs.Common.{◌≡◌, ◌≢◌, ℕ, zero, suc, ◌+◌, ◌<◌, ◌≤◌, ◌&&◌, not, Bool, true, false, List, [], ◌∷◌, ◌++◌, length, refl, sym, ap, ◌∙◌, subst, arith, append_assoc, length-append}
use Rattle.std.specs.Prelude.{nat_le, slice_get}
use Rattle.wb_signals.specs.Request.{Request}
use Rattle.soc_script.specs.Script.{ScriptLine}
use Rattle.soc_script.specs.Cycles.{ScriptCycle, own_lines, left_open, after_line, cycles_from, cycles_of, ops_of_lines, put_if}
use Rattle.soc_script_wave.specs.Sets.{mark_at}
use Rattle.soc_script_wave.specs.ScriptWave.{lines_at, later_loads, loads_if}
use Rattle.soc_wave.proofs.Lists.{append-nil}

-- ---- all lines

abbrev pub all_lines : List ScriptCycle → List ScriptLine
all_lines [] = []
all_lines (c ∷ cycles) = c.lines ++ all_lines cycles

-- the lines of the cycles from the n-th on
abbrev pub lines_from : List ScriptCycle → ℕ → List ScriptLine
lines_from [] n = []
lines_from (c ∷ cycles) zero = c.lines ++ all_lines cycles
lines_from (c ∷ cycles) (suc n) = lines_from cycles n

lines_left : (begun : List ScriptLine) → all_lines (left_open begun) ≡ begun
lines_left [] = refl
lines_left (l ∷ begun) = ap (λ ls. l ∷ ls) (append-nil begun)

lines_by : (b : Bool) (c : ScriptCycle) (l : ScriptLine) (begun lines : List ScriptLine) (cycles : List ScriptCycle) → c.lines ≡ begun ++ l ∷ [] → all_lines cycles ≡ after_line b (begun ++ l ∷ []) ++ lines
    → all_lines (put_if b c cycles) ≡ begun ++ l ∷ lines
lines_by true c l begun lines cycles here rest = ap (λ ls. ls ++ all_lines cycles) here ∙ ap (λ ls. (begun ++ l ∷ []) ++ ls) rest ∙ append_assoc begun (l ∷ []) lines
lines_by false c l begun lines cycles here rest = rest ∙ append_assoc begun (l ∷ []) lines

lines-cycles : (begun lines : List ScriptLine) → all_lines (cycles_from begun lines) ≡ begun ++ lines
lines-cycles begun [] = lines_left begun ∙ sym (append-nil begun)
lines-cycles begun (l ∷ lines) =
    lines_by l.last (record { lines = begun ++ l ∷ []; cut = false }) l begun lines (cycles_from (after_line l.last (begun ++ l ∷ [])) lines) refl
    (lines-cycles (after_line l.last (begun ++ l ∷ [])) lines)

from_start : (cycles : List ScriptCycle) → lines_from cycles 0 ≡ all_lines cycles
from_start [] = refl
from_start (c ∷ cycles) = refl

pub lines-start : (m : ℕ) (script : List ScriptLine) → lines_from (cycles_of m script) 0 ≡ own_lines m script
lines-start m script = from_start (cycles_of m script) ∙ lines-cycles [] (own_lines m script)

pub lines-next : (cycles : List ScriptCycle) (n : ℕ) → lines_from cycles n ≡ lines_at cycles n ++ lines_from cycles (suc n)
lines-next [] n = refl
lines-next (c ∷ cycles) zero = ap (λ ls. c.lines ++ ls) (sym (from_start cycles))
lines-next (c ∷ cycles) (suc n) = lines-next cycles n

-- ---- how a cycle ends

-- all lines but the last hold, and the last ends the cycle unless it is cut
abbrev pub EndsAs : Bool → List ScriptLine → Type 0
EndsAs cut [] = ⊥
EndsAs cut (l ∷ []) = l.last ≡ not cut
EndsAs cut (l ∷ k ∷ lines) = (l.last ≡ false) × EndsAs cut (k ∷ lines)

abbrev pub AreCycles : List ScriptCycle → Type 0
AreCycles [] = Unit {0}
AreCycles (c ∷ cycles) = EndsAs c.cut c.lines × (c.cut ≡ true → cycles ≡ []) × AreCycles cycles

abbrev AllHold : List ScriptLine → Type 0
AllHold [] = Unit {0}
AllHold (l ∷ lines) = (l.last ≡ false) × AllHold lines

ends_with : (begun : List ScriptLine) (l : ScriptLine) (cut : Bool) → AllHold begun → l.last ≡ not cut → EndsAs cut (begun ++ l ∷ [])
ends_with [] l cut holds last = last
ends_with (k ∷ []) l cut holds last = (holds.0, last)
ends_with (k ∷ j ∷ begun) l cut holds last = (holds.0, ends_with (j ∷ begun) l cut holds.1 last)

holds_all : (lines : List ScriptLine) (l : ScriptLine) → AllHold (l ∷ lines) → EndsAs true (l ∷ lines)
holds_all [] l holds = holds.0
holds_all (k ∷ lines) l holds = (holds.0, holds_all lines k holds.1)

holds_more : (begun : List ScriptLine) (l : ScriptLine) → AllHold begun → l.last ≡ false → AllHold (begun ++ l ∷ [])
holds_more [] l holds last = (last, tt)
holds_more (k ∷ begun) l holds last = (holds.0, holds_more begun l holds.1 last)

left_are : (begun : List ScriptLine) → AllHold begun → AreCycles (left_open begun)
left_are [] holds = tt
left_are (l ∷ begun) holds = (holds_all begun l holds, (λ cut. refl), tt)

abbrev is_false : Bool → Type 0
is_false true = ⊥
is_false false = Unit {0}

not_cut : {A : Type 0} → false ≡ true → A
not_cut e = absurd (subst is_false e tt)

cycles_by : (b : Bool) (l : ScriptLine) (begun : List ScriptLine) (cycles : List ScriptCycle) → l.last ≡ b → AllHold begun → AreCycles cycles → AreCycles (put_if b (record { lines = begun ++ l ∷ []; cut = false }) cycles)
cycles_by true l begun cycles last holds rest = (ends_with begun l false holds last, (λ e. not_cut e), rest)
cycles_by false l begun cycles last holds rest = rest

after_holds : (b : Bool) (l : ScriptLine) (begun : List ScriptLine) → l.last ≡ b → AllHold begun → AllHold (after_line b (begun ++ l ∷ []))
after_holds true l begun last holds = tt
after_holds false l begun last holds = holds_more begun l holds last

are-cycles : (begun lines : List ScriptLine) → AllHold begun → AreCycles (cycles_from begun lines)
are-cycles begun [] holds = left_are begun holds
are-cycles begun (l ∷ lines) holds =
    cycles_by l.last l begun (cycles_from (after_line l.last (begun ++ l ∷ [])) lines) refl holds (are-cycles (after_line l.last (begun ++ l ∷ [])) lines (after_holds l.last l begun refl holds))

pub script-cycles : (m : ℕ) (script : List ScriptLine) → AreCycles (cycles_of m script)
script-cycles m script = are-cycles [] (own_lines m script) tt

pub cycle_ends : (cycles : List ScriptCycle) (n : ℕ) → AreCycles cycles → n < length cycles → EndsAs (mark_at cycles n) (lines_at cycles n) × (mark_at cycles n ≡ true → lines_from cycles (suc n) ≡ [])
cycle_ends [] n are lt = absurd (omega (arith, lt))
cycle_ends (c ∷ cycles) zero are lt = (are.0, λ cut. ap (λ cs. lines_from cs 0) (are.1 cut))
cycle_ends (c ∷ cycles) (suc n) are lt = cycle_ends cycles n are.2 (omega (arith, lt))

-- no lines from the n-th cycle on: there is none
pub lines_none : (cycles : List ScriptCycle) (n : ℕ) → length cycles ≤ n → lines_at cycles n ≡ []
lines_none [] n le = refl
lines_none (c ∷ cycles) zero le = absurd (omega (arith, le))
lines_none (c ∷ cycles) (suc n) le = lines_none cycles n (omega (arith, le))

some_none : (l : ScriptLine) (lines : List ScriptLine) → l ∷ lines ≡ [] → ⊥
some_none l lines e = let n : suc (length lines) ≡ 0 = ap (λ ls. length ls) e in omega (arith, n)

ends_some : (cut : Bool) (lines : List ScriptLine) → EndsAs cut lines → lines ≢ []
ends_some cut [] ends none = absurd ends
ends_some cut (l ∷ lines) ends none = some_none l lines none

-- ---- the end of a cycle, seen from within

-- a line that ends its cycle is the last, and the cycle isn't cut
pub ends_here : (cut : Bool) (done : List ScriptLine) (h : ScriptLine) (rest : List ScriptLine) → EndsAs cut (done ++ h ∷ rest) → h.last ≡ true → (rest ≡ []) × (cut ≡ false)
ends_here true [] h [] ends last = not_cut (sym ends ∙ last)
ends_here false [] h [] ends last = (refl, refl)
ends_here cut [] h (k ∷ rest) ends last = not_cut (sym ends.0 ∙ last)
ends_here cut (d ∷ []) h rest ends last = ends_here cut [] h rest ends.1 last
ends_here cut (d ∷ e ∷ done) h rest ends last = ends_here cut (e ∷ done) h rest ends.1 last

-- a line that holds and is the last of its cycle: that is cut
pub holds_here : (cut : Bool) (done : List ScriptLine) (h : ScriptLine) → EndsAs cut (done ++ h ∷ []) → h.last ≡ false → cut ≡ true
holds_here true [] h ends last = refl
holds_here false [] h ends last = not_cut (sym last ∙ ends)
holds_here cut (d ∷ []) h ends last = holds_here cut [] h ends.1 last
holds_here cut (d ∷ e ∷ done) h ends last = holds_here cut (e ∷ done) h ends.1 last

-- ---- its operations

pub ops-append : (xs ys : List ScriptLine) → ops_of_lines (xs ++ ys) ≡ ops_of_lines xs ++ ops_of_lines ys
ops-append [] ys = refl
ops-append (l ∷ xs) ys = ap (λ ops. l.ops ++ ops) (ops-append xs ys) ∙ sym (append_assoc l.ops (ops_of_lines xs) (ops_of_lines ys))

-- each of these lines' clock has come
abbrev pub AllCome : ℕ → List ScriptLine → Type 0
AllCome t [] = Unit {0}
AllCome t (l ∷ lines) = (l.clock ≤ t) × AllCome t lines

pub come-later : (t : ℕ) (lines : List ScriptLine) → AllCome t lines → AllCome (suc t) lines
come-later t [] come = tt
come-later t (l ∷ lines) come = (omega (arith, come.0), come-later t lines come.1)

pub come-more : (t : ℕ) (lines : List ScriptLine) (l : ScriptLine) → AllCome t lines → l.clock ≤ t → AllCome t (lines ++ l ∷ [])
come-more t [] l come now = (now, tt)
come-more t (k ∷ lines) l come now = (come.0, come-more t lines l come.1 now)

le_yes : (a b : ℕ) → a ≤ b → nat_le a b ≡ true
le_yes a b h = grind (arith, h)

le_no : (a b : ℕ) → b < a → nat_le a b ≡ false
le_no a b h = grind (arith, h)

loads_yes : (a b : Bool) (n more : ℕ) → a ≡ true → b ≡ true → loads_if (a && b) n more ≡ more
loads_yes true true n more x y = refl
loads_yes true false n more x y = not_cut y
loads_yes false b n more x y = not_cut x

loads_no : (a b : Bool) (n more : ℕ) → b ≡ false → loads_if (a && b) n more ≡ n
loads_no true true n more y = not_cut (sym y)
loads_no true false n more y = refl
loads_no false b n more y = refl

loads_late : (a b : Bool) (n more : ℕ) → a ≡ false → loads_if (a && b) n more ≡ n
loads_late true b n more y = not_cut (sym y)
loads_late false b n more y = refl

-- lines that are answered were loaded
pub loads_done : (t answered n : ℕ) (done rest : List ScriptLine) → AllCome t done → n + length (ops_of_lines done) ≤ answered → later_loads t answered n (done ++ rest) ≡ later_loads t answered (n + length (ops_of_lines done)) rest
loads_done t answered n [] rest come le = let e : n ≡ n + 0 = omega arith in ap (λ (k : ℕ). later_loads t answered k rest) e
loads_done t answered n (d ∷ done) rest come le =
    let all : length (d.ops ++ ops_of_lines done) ≡ length d.ops + length (ops_of_lines done) = length-append d.ops (ops_of_lines done) in
    let e : n + length d.ops + length (ops_of_lines done) ≡ n + length (d.ops ++ ops_of_lines done) = omega (arith, all) in
    loads_yes (nat_le d.clock t) (nat_le n answered) n (later_loads t answered (n + length d.ops) (done ++ rest)) (le_yes d.clock t come.0) (le_yes n answered (omega (arith, le)))
    ∙ loads_done t answered (n + length d.ops) done rest come.1 (omega (arith, le, all))
    ∙ ap (λ (k : ℕ). later_loads t answered k rest) e

loads_stop : (t answered n : ℕ) (rest : List ScriptLine) → answered < n → later_loads t answered n rest ≡ n
loads_stop t answered n [] lt = refl
loads_stop t answered n (h ∷ rest) lt = loads_no (nat_le h.clock t) (nat_le n answered) n (later_loads t answered (n + length h.ops) rest) (le_no n answered lt)

-- the line that is loaded, and isn't answered
pub loads_this : (t answered n : ℕ) (h : ScriptLine) (rest : List ScriptLine) → h.clock ≤ t → n ≤ answered → answered < n + length h.ops → later_loads t answered n (h ∷ rest) ≡ n + length h.ops
loads_this t answered n h rest come le lt =
    loads_yes (nat_le h.clock t) (nat_le n answered) n (later_loads t answered (n + length h.ops) rest) (le_yes h.clock t come) (le_yes n answered le) ∙ loads_stop t answered (n + length h.ops) rest lt

-- a line whose clock hasn't come
pub loads_none : (t answered n : ℕ) (h : ScriptLine) (rest : List ScriptLine) → nat_le h.clock t ≡ false → later_loads t answered n (h ∷ rest) ≡ n
loads_none t answered n h rest late = loads_late (nat_le h.clock t) (nat_le n answered) n (later_loads t answered (n + length h.ops) rest) late

loads_most_by : (b : Bool) (n more here rest all : ℕ) → all ≡ here + rest → more ≤ n + here + rest → loads_if b n more ≤ n + all
loads_most_by true n more here rest all is le = omega (arith, is, le)
loads_most_by false n more here rest all is le = omega (arith, is, le)

-- never more than there are
pub loads_most : (t answered n : ℕ) (lines : List ScriptLine) → later_loads t answered n lines ≤ n + length (ops_of_lines lines)
loads_most t answered n [] = omega arith
loads_most t answered n (l ∷ lines) =
    loads_most_by (nat_le l.clock t && nat_le n answered) n (later_loads t answered (n + length l.ops) lines) (length l.ops) (length (ops_of_lines lines)) (length (l.ops ++ ops_of_lines lines))
    (length-append l.ops (ops_of_lines lines)) (loads_most t answered (n + length l.ops) lines)

-- ---- the next operation

pub get-append : (xs ys : List Request) (k : ℕ) → slice_get (xs ++ ys) (length xs + k) ≡ slice_get ys k
get-append [] ys k = let e : 0 + k ≡ k = omega arith in ap (λ (n : ℕ). slice_get ys n) e
get-append (x ∷ xs) ys k = let e : suc (length xs) + k ≡ suc (length xs + k) = omega arith in ap (λ (n : ℕ). slice_get (x ∷ xs ++ ys) n) e ∙ get-append xs ys k

pub get-front : (xs ys : List Request) (k : ℕ) → k < length xs → slice_get (xs ++ ys) k ≡ slice_get xs k
get-front [] ys k lt = absurd (omega (arith, lt))
get-front (x ∷ xs) ys zero lt = refl
get-front (x ∷ xs) ys (suc k) lt = get-front xs ys k (omega (arith, lt))
