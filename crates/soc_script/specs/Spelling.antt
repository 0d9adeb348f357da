-- What the text of a line looks like.
use Rattle.std.specs.Prelude.{◌≡◌, ◌↔◌, ◌⊎◌, ℕ, ◌%◌, ◌<◌, ◌≤◌, Bool, true, false, List, [], ◌∷◌, ◌++◌, length, codes, Some}
use Rattle.std.specs.List.{join_with_byte}
use Rattle.eb_base.specs.declared.width.Width.{Width}
use Rattle.wb_signals.specs.Request.{Request}
use Rattle.soc_script.specs.Digits.{decimal_of, hex_number}
use Rattle.soc_script.specs.Script.{ScriptLine, access_of, line_of}

-- `rADR`
pub record SpellsRead (bus : Width) (word : List ℕ) (r : Request) : Type 0 where
  pub adr_word : List ℕ
  pub adr : ℕ
  pub word_is : word ≡ codes "r" ++ adr_word
  pub says_adr : hex_number 16 adr_word ≡ Some adr
  pub aligned_adr : adr % 4 ≡ 0
  pub request : r ≡ access_of bus false adr 0

-- `wADR=DAT`
pub record SpellsWrite (bus : Width) (word : List ℕ) (r : Request) : Type 0 where
  pub adr_word : List ℕ
  pub dat_word : List ℕ
  pub adr : ℕ
  pub dat : ℕ
  pub word_is : word ≡ codes "w" ++ (adr_word ++ (codes "=" ++ dat_word))
  pub says_adr : hex_number 16 adr_word ≡ Some adr
  pub says_dat : hex_number 8 dat_word ≡ Some dat
  pub aligned_adr : adr % 4 ≡ 0
  pub request : r ≡ access_of bus true adr dat

abbrev pub SpellsOp : Width → List ℕ → Request → Type 0
SpellsOp bus word r = SpellsRead bus word r ⊎ SpellsWrite bus word r

-- word by word
abbrev pub SpellOps : Width → List (List ℕ) → List Request → Type 0
SpellOps bus [] [] = Unit {0}
SpellOps bus (word ∷ words) (r ∷ rs) = SpellsOp bus word r × SpellOps bus words rs
SpellOps bus [] (r ∷ rs) = ⊥
SpellOps bus (word ∷ words) [] = ⊥

abbrev pub mark_text : Bool → List ℕ
mark_text true = codes "end"
mark_text false = codes "hold"

-- A text is this line: `MASTER CLOCK hold` or `MASTER CLOCK end`, then 1 to 255 operations, all joined by single spaces.
pub record SpellsLine (bus : Width) (masters : ℕ) (text : List ℕ) (l : ScriptLine) : Type 0 where
  pub master_word : List ℕ
  pub clock_word : List ℕ
  pub op_words : List (List ℕ)
  pub text_is : text ≡ join_with_byte 32 (master_word ∷ clock_word ∷ mark_text l.last ∷ op_words)
  pub says_master : decimal_of master_word ≡ Some l.master
  pub master_below : l.master < masters
  pub says_clock : decimal_of clock_word ≡ Some l.clock
  pub most_clock : l.clock ≤ 10000
  pub spell_ops : SpellOps bus op_words l.ops
  pub some_ops : 1 ≤ length l.ops
  pub most_ops : length l.ops ≤ 255

-- The line of a text is the one that it spells, and a text that spells none has none.
abbrev pub LineIsSpelled : Type 0
LineIsSpelled = (bus : Width) (masters : ℕ) (text : List ℕ) (l : ScriptLine) → (line_of bus masters text ≡ Some l) ↔ SpellsLine bus masters text l
