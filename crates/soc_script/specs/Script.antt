-- A script, and the text that spells it.
use Rattle.std.specs.Prelude.{◌≡◌, ◌⊎◌, ℕ, ◌+◌, ◌%◌, ◌<◌, ◌≤◌, ◌==◌, nat_lt, nat_le, ◌&&◌, if◌then◌else◌, Bool, true, false, List, [], ◌∷◌, ◌++◌, length, map, Option, Some, None, option_map, option_and_then, codes}
use Rattle.std.specs.Str.{bytes_eq}
use Rattle.eb_base.specs.declared.width.Width.{Width}
use Rattle.eb_base.specs.declared.width.Width.TheVariants.{W32}
use Rattle.wb_signals.specs.Request.{Request, placed}
use Rattle.soc_script.specs.Digits.{decimal_of, hex_number}
use Rattle.soc_script.specs.Words.{pieces_of, words_of, lines_of}

-- A line: whose it is, the clock from which on it may run, whether it ends its cycle, and its operations.
pub record ScriptLine : Type 0 where
  pub master : ℕ
  pub clock : ℕ
  pub last : Bool
  pub ops : List Request

-- ---- an operation

-- one of a port of 32 data bits that selects all of its lanes
abbrev pub access_of : Width → Bool → ℕ → ℕ → Request
access_of bus write adr dat = placed W32 bus write adr dat 15

-- an address, a multiple of 4
abbrev pub aligned : ℕ → Option ℕ
aligned adr = if adr % 4 == 0 then Some adr else None

abbrev pub address_of : List ℕ → Option ℕ
address_of word = option_and_then aligned (hex_number 16 word)

-- `ADR` of a read
abbrev pub read_of : Width → List ℕ → Option Request
read_of bus word = option_map (λ adr. access_of bus false adr 0) (address_of word)

-- `ADR` and `DAT` of a write, between which an `=` stands
abbrev pub write_of : Width → List (List ℕ) → Option Request
write_of bus [] = None
write_of bus (adr_word ∷ []) = None
write_of bus (adr_word ∷ dat_word ∷ []) = option_and_then (λ adr. option_map (λ dat. access_of bus true adr dat) (hex_number 8 dat_word)) (address_of adr_word)
write_of bus (adr_word ∷ dat_word ∷ more ∷ words) = None

-- `rADR` or `wADR=DAT`
abbrev pub op_of : Width → List ℕ → Option Request
op_of bus [] = None
op_of bus (c ∷ word) = if c == 114 then read_of bus word else (if c == 119 then write_of bus (pieces_of 61 word) else None)

-- the values, where each is there
abbrev pub all_some : {A : Type 0} → List (Option A) → Option (List A)
all_some [] = Some []
all_some (x ∷ xs) = option_and_then (λ a. option_map (λ more. a ∷ more) (all_some xs)) x

-- the operations of a line, 1 to 255
abbrev pub ops_of : Width → List (List ℕ) → Option (List Request)
ops_of bus words = if nat_le 1 (length words) && nat_le (length words) 255 then all_some (map (op_of bus) words) else None

-- ---- a line

-- what stands in a line before its operations
pub record LineHead : Type 0 where
  pub master : ℕ
  pub clock : ℕ
  pub last : Bool

abbrev pub below : ℕ → ℕ → Option ℕ
below most n = if nat_lt n most then Some n else None

-- MASTER, below the number of masters
abbrev pub master_of : ℕ → List ℕ → Option ℕ
master_of masters word = option_and_then (below masters) (decimal_of word)

-- CLOCK, at most 10,000
abbrev pub clock_of : List ℕ → Option ℕ
clock_of word = option_and_then (below 10001) (decimal_of word)

-- `end` where the line ends its cycle, else `hold`
abbrev pub mark_of : List ℕ → Option Bool
mark_of word = if bytes_eq word (codes "end") then Some true else (if bytes_eq word (codes "hold") then Some false else None)

abbrev pub head_of : ℕ → List ℕ → List ℕ → List ℕ → Option LineHead
head_of masters master_word clock_word mark =
    option_and_then (λ m. option_and_then (λ t. option_map (λ e. record { master = m; clock = t; last = e }) (mark_of mark)) (clock_of clock_word)) (master_of masters master_word)

abbrev pub line_with : LineHead → List Request → ScriptLine
line_with head ops = record { master = head.master; clock = head.clock; last = head.last; ops = ops }

-- `MASTER CLOCK hold` or `MASTER CLOCK end`, then the operations
abbrev pub line_of_words : Width → ℕ → List (List ℕ) → Option ScriptLine
line_of_words bus masters [] = None
line_of_words bus masters (master_word ∷ []) = None
line_of_words bus masters (master_word ∷ clock_word ∷ []) = None
line_of_words bus masters (master_word ∷ clock_word ∷ mark ∷ words) =
    option_and_then (λ head. option_map (line_with head) (ops_of bus words)) (head_of masters master_word clock_word mark)

-- the line that a text spells, for a bus of this width with so many masters
abbrev pub line_of : Width → ℕ → List ℕ → Option ScriptLine
line_of bus masters text = line_of_words bus masters (words_of text)

-- ---- a script

-- how many operations lines have together
abbrev pub ops_in : List ScriptLine → ℕ
ops_in [] = 0
ops_in (l ∷ lines) = length l.ops + ops_in lines

-- These texts spell these lines, which keep the limits on a script.
pub record AreLines (bus : Width) (masters : ℕ) (texts : List (List ℕ)) (lines : List ScriptLine) : Type 0 where
  pub each : map (line_of bus masters) texts ≡ map Some lines
  pub few_lines : length lines ≤ 256
  pub few_ops : ops_in lines ≤ 4096

-- No lines are spelled by these texts and keep the limits.
abbrev pub AreNoLines : Width → ℕ → List (List ℕ) → Type 0
AreNoLines bus masters texts = (lines : List ScriptLine) → AreLines bus masters texts lines → ⊥

-- A text of at most 1,048,576 octets spells this script.
pub record IsScript (bus : Width) (masters : ℕ) (text : List ℕ) (script : List ScriptLine) : Type 0 where
  pub few_octets : length text ≤ 1048576
  pub lines : AreLines bus masters (lines_of text) script

-- The first line that breaks a rule or passes a limit: those before it are a script's, and with it they are none. Lines count
-- from 1.
pub record IsFirstBadLine (bus : Width) (masters : ℕ) (texts : List (List ℕ)) (n : ℕ) : Type 0 where
  pub before : List (List ℕ)
  pub bad : List ℕ
  pub behind : List (List ℕ)
  pub texts_are : texts ≡ before ++ bad ∷ behind
  pub number : n ≡ length before + 1
  pub good : List ScriptLine
  pub good_lines : AreLines bus masters before good
  pub no_lines : AreNoLines bus masters (before ++ bad ∷ [])

-- A text is refused at line 0 where it is too long, else at its first bad line.
abbrev pub IsRefused : Width → ℕ → List ℕ → ℕ → Type 0
IsRefused bus masters text n = ((1048576 < length text) × (n ≡ 0)) ⊎ ((length text ≤ 1048576) × IsFirstBadLine bus masters (lines_of text) n)
