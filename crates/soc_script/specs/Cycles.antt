-- The cycles that a script asks for.
use Rattle.std.specs.Prelude.{ℕ, ◌==◌, Bool, true, false, List, [], ◌∷◌, ◌++◌}
use Rattle.wb_signals.specs.Request.{Request}
use Rattle.soc_script.specs.Script.{ScriptLine}

-- The lines of a cycle, and whether it is cut.
pub record ScriptCycle : Type 0 where
  pub lines : List ScriptLine
  pub cut : Bool

-- the list with this before it, or as it is
abbrev pub put_if : {A : Type 0} → Bool → A → List A → List A
put_if true x xs = x ∷ xs
put_if false x xs = xs

-- a master's lines
abbrev pub own_lines : ℕ → List ScriptLine → List ScriptLine
own_lines m [] = []
own_lines m (l ∷ lines) = put_if (l.master == m) l (own_lines m lines)

abbrev pub left_open : List ScriptLine → List ScriptCycle
left_open [] = []
left_open (l ∷ lines) = record { lines = l ∷ lines; cut = true } ∷ []

abbrev pub after_line : Bool → List ScriptLine → List ScriptLine
after_line true lines = []
after_line false lines = lines

-- A cycle is the lines up to the one that ends it. Lines that none ends are a cycle that is cut.
abbrev pub cycles_from : List ScriptLine → List ScriptLine → List ScriptCycle
cycles_from begun [] = left_open begun
cycles_from begun (l ∷ lines) =
    let lines_here = begun ++ l ∷ [] in
    put_if l.last (record { lines = lines_here; cut = false }) (cycles_from (after_line l.last lines_here) lines)

abbrev pub cycles_of : ℕ → List ScriptLine → List ScriptCycle
cycles_of m script = cycles_from [] (own_lines m script)

-- the operations of lines, in order
abbrev pub ops_of_lines : List ScriptLine → List Request
ops_of_lines [] = []
ops_of_lines (l ∷ lines) = l.ops ++ ops_of_lines lines
