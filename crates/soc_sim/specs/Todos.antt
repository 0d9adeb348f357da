-- The lines of a script that its masters haven't done, by places in the script.
use Rattle.std.specs.Prelude.{◌≡◌, ◌≤◌, ℕ, suc, List, [], ◌∷◌, length, drop}
use Rattle.soc_script.specs.Script.{ScriptLine}
use Rattle.soc_script.specs.Cycles.{own_lines}

-- A master's lines from a place on, and so for the masters from m on.
abbrev pub todos_at : List ScriptLine → ℕ → List ℕ → List (List ScriptLine)
todos_at script m [] = []
todos_at script m (at ∷ places) = own_lines m (drop at script) ∷ todos_at script (suc m) places

-- The first of these lines, if there is one, is the master's.
abbrev pub BeginsWithOwn : ℕ → List ScriptLine → Type 0
BeginsWithOwn m [] = Unit {0}
BeginsWithOwn m (l ∷ lines) = l.master ≡ m

-- At each master's place a line of its own stands, or the script ends.
abbrev pub AreOwnPlaces : List ScriptLine → ℕ → List ℕ → Type 0
AreOwnPlaces script m [] = Unit {0}
AreOwnPlaces script m (at ∷ places) = (at ≤ length script) × BeginsWithOwn m (drop at script) × AreOwnPlaces script (suc m) places
