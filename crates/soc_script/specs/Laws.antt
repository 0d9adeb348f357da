-- What holds of scripts and their texts.
use Rattle.std.specs.Prelude.{◌≡◌, ◌⊎◌, ℕ, ◌<◌, ◌≤◌, List, length, All}
use Rattle.eb_base.specs.declared.width.Width.{Width}
use Rattle.eb_base.specs.Width.{octets}
use Rattle.wb_signals.specs.Cycles.{AllFitBus}
use Rattle.soc_script.specs.Script.{ScriptLine, IsScript, IsRefused}

-- A text spells one script at most,
abbrev pub OneScript : Type 0
OneScript = (bus : Width) (masters : ℕ) (text : List ℕ) (script other : List ScriptLine) → IsScript bus masters text script → IsScript bus masters text other → script ≡ other

-- is refused at one line at most,
abbrev pub OneRefusal : Type 0
OneRefusal = (bus : Width) (masters : ℕ) (text : List ℕ) (n k : ℕ) → IsRefused bus masters text n → IsRefused bus masters text k → n ≡ k

-- and not both,
abbrev pub NeverBoth : Type 0
NeverBoth = (bus : Width) (masters : ℕ) (text : List ℕ) (script : List ScriptLine) (n : ℕ) → IsScript bus masters text script → IsRefused bus masters text n → ⊥

-- but one of them.
abbrev pub OneOfBoth : Type 0
OneOfBoth = (bus : Width) (masters : ℕ) (text : List ℕ) → ((script : List ScriptLine) × IsScript bus masters text script) ⊎ ((n : ℕ) × IsRefused bus masters text n)

-- A line is refused by its number: it is among those of the text, and 257 at most.
abbrev pub RefusalBelow : Type 0
RefusalBelow = (bus : Width) (masters : ℕ) (text : List ℕ) (n : ℕ) → IsRefused bus masters text n → n ≤ 257

-- What a bus of this width with so many masters takes as a line.
pub record IsTaken (bus : Width) (masters : ℕ) (l : ScriptLine) : Type 0 where
  pub master : l.master < masters
  pub clock : l.clock ≤ 10000
  pub some : 1 ≤ length l.ops
  pub most : length l.ops ≤ 255
  pub fit : AllFitBus bus l.ops

-- Each line of a script is one.
abbrev pub LinesAreTaken : Type 0
LinesAreTaken = (bus : Width) (masters : ℕ) (text : List ℕ) (script : List ScriptLine) → 4 ≤ octets bus → IsScript bus masters text script → All (IsTaken bus masters) script
