-- What reading a script answers.
use Rattle.std.specs.Prelude.{ℕ, List}
use Rattle.eb_base.specs.declared.width.Width.{Width}
use Rattle.soc_script.specs.declared.fault.ScriptFault.{ScriptFault}
use Rattle.soc_script.specs.declared.fault.ScriptFault.TheVariants.{Refused, NoMemory}
use Rattle.soc_script.specs.Script.{IsFirstBadLine, IsRefused}

-- a text is refused at this line, or there was no memory
abbrev pub IsFault : Width → ℕ → List ℕ → ScriptFault → Type 0
IsFault bus masters text (Refused line) = IsRefused bus masters text line
IsFault bus masters text NoMemory = Unit {0}

-- the first bad one of these lines, or there was no memory
abbrev pub IsLineFault : Width → ℕ → List (List ℕ) → ScriptFault → Type 0
IsLineFault bus masters texts (Refused line) = IsFirstBadLine bus masters texts line
IsLineFault bus masters texts NoMemory = Unit {0}
